-- The ear as a way of reading responses piece by piece.
use Rattle.std.specs.Prelude.{ℕ}
use Rattle.response.specs.Found.{copied, response_in}
use Rattle.response.specs.Reading.{held_by}
use Rattle.response.specs.Status.{is_last}
use Rattle.response.specs.declared.reading.Fed.{Fed}
use Rattle.response.specs.declared.reading.Reading.{Reading}
use Rattle.response.specs.declared.reading.Reading.TheVariants.{InHead, InBody, Whole, Unreadable}
use Rattle.connection.specs.Hearing.{Way}
use Rattle.connection.specs.declared.hearing.Heard.{Heard}
use Rattle.connection.specs.declared.hearing.Heard.TheVariants.{More, Whole as AllOfIt, Unreadable as NoResponse}
use Rattle.response_laws.specs.Ear.{ear}
use Rattle.response_laws.specs.Held.{Held}
use Rattle.ear.specs.declared.Ear.{Ear}

-- what a piece brought, in the connection's words
abbrev pub heard_by : Reading → ℕ → Heard
heard_by (InHead n) taken = More
heard_by (InBody b) taken = More
heard_by (Whole head end) taken = AllOfIt taken (is_last head.status)
heard_by Unreadable taken = NoResponse

abbrev pub heard_of : Fed → Heard
heard_of fed = heard_by fed.reading fed.taken

-- how responses are read all at once; what a state and a memory hold of one; what they hold of a whole one, as it goes to the client; what a piece leaves in
-- the memory; and the state before the first byte
abbrev pub ear_way : Way Ear
ear_way =
    record {
      ear = ear;
      holds = λ h memory m part. Held h.0 memory m part;
      text = λ h memory. copied (response_in h.0 memory);
      leaves = λ h memory m piece. held_by m h.0 memory piece;
      unheard = record { 0 = InHead 0 };
    }
