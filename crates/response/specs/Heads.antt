-- The head of a response, judged as far as it has come, and the body that it says.
use Rattle.std.specs.Prelude.{ℕ, ◌+◌, ◌≤◌, true, false, Bool, cond, List, length, Some, None, Ok, Err, Option, Result, nat_lt}
use Rattle.text.specs.Bytes.{Text}
use Rattle.text.specs.Cuts.{LineCut, whole, short, stray, cut_line}
use Rattle.message.specs.Bodies.{due_by}
use Rattle.message.specs.Framing.{framed}
use Rattle.message.specs.Sent.{Sent, Found, ended, more, wrong, fields_in}
use Rattle.message.specs.declared.body.Due.{Due}
use Rattle.message.specs.declared.body.Due.TheVariants.{Length}
use Rattle.message.specs.declared.framing.Said.{Said}
use Rattle.request.specs.Canonical.{field_limit}
use Rattle.request.specs.Heads.{window}
use Rattle.response.specs.Status.{status_of, has_body}
use Rattle.response.specs.declared.head.Judged.{Judged}
use Rattle.response.specs.declared.head.Unreadable.{Unreadable}
use Rattle.response.specs.declared.status.Status.{Status}

-- whatever is wrong, the response cannot be read
abbrev pub readable : {A B E : Type 0} → Result A E → (A → Result B Unreadable) → Result B Unreadable
readable (Ok x) go = go x
readable (Err e) go = Err record {}

-- the body follows by what the fields say of it, exactly once; no place in it is asked for
abbrev pub said_due : Option Said → Result Due Unreadable
said_due None = Err record {}
said_due (Some said) = readable (due_by said.size said.value_at 0) (λ due. Ok due)

-- what is due of a body: where one follows, what the fields say; else nothing, and they are not looked at
abbrev pub due_of : Bool → List Sent → Result Due Unreadable
due_of true fs = readable (framed None fs) said_due
due_of false fs = Ok (Length 0)

-- a head that has not ended in n bytes
abbrev pub unended_at : ℕ → Result (Option Judged) Unreadable
unended_at n = cond (nat_lt n window) (Ok None) (Err record {})

abbrev pub judged_as : Status → Bool → ℕ → ℕ → Due → Judged
judged_as status bodied line len due = record { head = record { status = status; bodied = bodied; line = line; len = len }; due = due }

-- what the fields were found to be; line: how many bytes the first line has, n: how many have come
abbrev pub on_fields : Text → Status → ℕ → ℕ → Found → Result (Option Judged) Unreadable
on_fields m status line n more = unended_at n
on_fields m status line n (wrong w) = Err record {}
on_fields m status line n (ended fs len) = readable (due_of (has_body status m) fs) (λ due. Ok (Some (judged_as status (has_body status m) line len due)))

-- a first line of so many bytes, and what its status is
abbrev pub on_status : Text → Text → ℕ → Option Status → Result (Option Judged) Unreadable
on_status m w line None = Err record {}
on_status m w line (Some status) = on_fields m status line (length w) (fields_in field_limit w (line + 2))

-- what the first line was cut to; w: the bytes that have come
abbrev pub on_first : Text → Text → LineCut → Result (Option Judged) Unreadable
on_first m w short = unended_at (length w)
on_first m w (stray n) = Err record {}
on_first m w (whole l rest) = on_status m w (length l) (status_of l)

-- the first bytes of a response to a request of the method m, at most as many as the window has: a head, or that more is wanted
abbrev pub judged : Text → Text → Result (Option Judged) Unreadable
judged m w = on_first m w (cut_line w)

-- the parts of a head lie in it, and it in what has come
abbrev pub Sound : ℕ → Result (Option Judged) Unreadable → Type 0
Sound n (Ok (Some j)) = (j.head.line + 2 ≤ j.head.len) × (j.head.len ≤ n)
Sound n (Ok None) = Unit {0}
Sound n (Err u) = Unit {0}
