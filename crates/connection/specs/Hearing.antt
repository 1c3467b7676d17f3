-- How a reader of responses reads them, and what hearing a piece of a response says.
use Rattle.std.specs.Prelude.{◌≡◌, ℕ, ◌≤◌, ◌++◌, drop}
use Rattle.text.specs.Bytes.{Text}
use Rattle.connection.specs.Model.{Ear, more, unreadable, whole}
use Rattle.connection.specs.declared.hearing.Heard.{Heard}
use Rattle.connection.specs.declared.hearing.Heard.TheVariants.{More, Whole, Unreadable}

-- The way of a reader whose states are S. ear: how responses are read, all at once; holds: this state and this memory hold this part of a response to a
-- request of this method (state, memory, method, part); text: the response that a state and a memory hold where it is whole, as it goes to the client;
-- leaves: what a piece leaves in the memory (state, memory, method, piece); unheard: the state before the first byte.
pub record Way (S : Type 0) : Type 1 where
  pub ear : Ear
  pub holds : S → Text → Text → Text → Type 0
  pub text : S → Text → Text
  pub leaves : S → Text → Text → Text → Text
  pub unheard : S

-- no more is taken than there is in a piece of n bytes
abbrev pub Within : ℕ → Heard → Type 0
Within n More = Unit {0}
Within n (Whole k last) = k ≤ n
Within n Unreadable = Unit {0}

-- Of a response to a request of the method m a part had come, and now a piece; the state is h then, and the memory then.
abbrev pub Hears : {S : Type 0} → Way S → Text → Text → Text → S → Text → Heard → Type 0
Hears way m part piece h then More = (way.ear m (part ++ piece) ≡ more) × way.holds h then m (part ++ piece)
Hears way m part piece h then (Whole n last) = way.ear m (part ++ piece) ≡ whole (record { last = last; text = way.text h then }) (drop n piece)
Hears way m part piece h then Unreadable = way.ear m (part ++ piece) ≡ unreadable
