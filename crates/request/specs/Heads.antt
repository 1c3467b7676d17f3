-- The head of a request, judged as far as it has come, in the stated order of faults.
use Rattle.std.specs.Prelude.{ℕ, ◌+◌, ◌-◌, ◌≤◌, Bool, true, false, cond, List, length, take, Some, None, Ok, Err, Option, Result, nat_lt}
use Rattle.text.specs.Bytes.{Text}
use Rattle.text.specs.Cuts.{LineCut, whole, short, stray, cut_line}
use Rattle.message.specs.Bodies.{due_by, AtStart}
use Rattle.message.specs.Faults.{flaw, onward}
use Rattle.message.specs.Framing.{framed}
use Rattle.message.specs.Sent.{Sent, Found, ended, more, wrong, fields_in}
use Rattle.message.specs.declared.body.Due.{Due}
use Rattle.message.specs.declared.body.Due.TheVariants.{Length}
use Rattle.message.specs.declared.fault.Fault.TheVariants.{TooLong, BodyUnfit}
use Rattle.message.specs.declared.fault.Flaw.{Flaw}
use Rattle.message.specs.declared.framing.Said.{Said}
use Rattle.request.specs.Canonical.{carries_body, field_limit}
use Rattle.request.specs.First.{check_first}
use Rattle.request.specs.Hosts.{server_of}
use Rattle.request.specs.declared.first.First.{First}
use Rattle.request.specs.declared.head.Judged.{Judged}

-- a head as sent, its empty line included, ends within so many bytes
unfoldable pub window : ℕ
window = 20480

-- what is due of a body: a method that carries one says how long it is, and no other method says so
abbrev pub due_of : Bool → Option Said → ℕ → Result Due Flaw
due_of true None len = Err (flaw BodyUnfit (len - 2))
due_of false None len = Ok (Length 0)
due_of false (Some said) len = Err (flaw BodyUnfit said.at)
due_of true (Some said) len = due_by said.size said.value_at len

-- the whole head: first the server, then the framing, then the body. Its empty line begins two bytes before its end
abbrev pub judged_fields : List Text → Text → List Sent → ℕ → Result (ℕ × Due) Flaw
judged_fields names method fs len =
    onward (server_of names (len - 2) fs)
    (λ server. onward (framed None fs) (λ said. onward (due_of (carries_body method) said len) (λ due. Ok (server, due))))

-- a head that has not ended in n bytes
abbrev pub unended_at : ℕ → Result (Option Judged) Flaw
unended_at n = cond (nat_lt n window) (Ok None) (Err (flaw TooLong window))

abbrev pub judged_as : First → ℕ → ℕ → (ℕ × Due) → Judged
judged_as first fields len p =
    record { head = record { len = len; method = first.method; target = first.target; fields = fields; server = p.0 }; due = p.1 }

-- what the fields were found to be; l: the first line, n: how many bytes have come
abbrev pub on_fields : List Text → Text → ℕ → First → Found → Result (Option Judged) Flaw
on_fields names l n first more = unended_at n
on_fields names l n first (wrong w) = Err w
on_fields names l n first (ended fs len) =
    onward (judged_fields names (take first.method l) fs len) (λ p. Ok (Some (judged_as first (length l + 2) len p)))

-- bytes w in which the first line has not ended: more is wanted, or it is judged by its stray byte
abbrev pub unlined : Text → LineCut → Result (Option Judged) Flaw
unlined w short = unended_at (length w)
unlined w (stray n) = onward (check_first (take n w) false) (λ first. Ok None)
unlined w (whole l rest) = unended_at (length w)

-- what the first line was cut to; w: the bytes that have come
abbrev pub on_first : List Text → Text → LineCut → Result (Option Judged) Flaw
on_first names w short = unended_at (length w)
on_first names w (stray n) = onward (check_first (take n w) false) (λ first. Ok None)
on_first names w (whole l rest) = onward (check_first l true) (λ first. on_fields names l (length w) first (fields_in field_limit w (length l + 2)))

-- the first bytes of a request, at most as many as the window has: a head that is let pass, or that more is wanted, or the first fault
abbrev pub judged : List Text → Text → Result (Option Judged) Flaw
judged names w = on_first names w (cut_line w)

-- the parts of a head lie in it, and it in what has come; what is due is all of a body that may begin behind it
abbrev pub Sound : ℕ → Result (Option Judged) Flaw → Type 0
Sound n (Ok (Some j)) =
    (j.head.method + 1 + j.head.target ≤ j.head.fields) × (j.head.fields ≤ j.head.len) × (j.head.len ≤ n) × AtStart j.head.len j.due
Sound n (Ok None) = Unit {0}
Sound n (Err w) = Unit {0}
