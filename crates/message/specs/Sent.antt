-- The field lines of a head as they were sent: which are good, what they say, and what is wrong with the first that is not.
use Rattle.std.specs.Prelude.{ℕ, zero, suc, ◌+◌, ◌<◌, ◌≤◌, Bool, true, false, cond, not, ◌||◌, List, [], ◌∷◌, ◌++◌, map, length, take, drop, Some, None, Ok, Err, Option, Result, ◌==◌, nat_le, nat_lt}
use Rattle.std.specs.List.{prefix_len}
use Rattle.text.specs.Bytes.{Text, name_byte, value_byte, blank}
use Rattle.text.specs.Cuts.{LineCut, whole, short, stray, cut_line}
use Rattle.text.specs.Marks.{before}
use Rattle.text.specs.Trims.{trimmed}
use Rattle.message.specs.Fields.{name_limit}
use Rattle.message.specs.Faults.{flaw, onward}
use Rattle.message.specs.declared.fault.Fault.TheVariants.{TooLong, FieldLine}
use Rattle.message.specs.declared.fault.Flaw.{Flaw}
use Rattle.message.specs.declared.sent.Line.{Line as HeldLine}
use Rattle.message.specs.declared.sent.Fields.{Fields as HeldFields}

-- a field as sent, its value without the blanks at its ends, with the places where its line and its value begin
pub record Sent : Type 0 where
  pub name : Text
  pub value : Text
  pub at : ℕ
  pub value_at : ℕ

-- A field line l that begins at the place at, with its first colon (or its end) at n and its first byte that is none of a name at g. RFC 9112, 5:
-- field-line = field-name ":" OWS field-value OWS. A name too long comes first; then the first byte that is wrong; then a colon that is missing, or
-- the stray byte in place of the line's end, which both stand where l ends
abbrev pub check_at : ℕ → Text → Bool → ℕ → ℕ → ℕ → Result ℕ Flaw
check_at at l ended n g v =
    cond (nat_lt name_limit n) (Err (flaw TooLong (at + name_limit)))
    (cond (n == 0) (Err (flaw FieldLine at))
    (cond (nat_lt g n || nat_le (length l) n) (Err (flaw FieldLine (at + g)))
    (cond (nat_lt v (length l) || not ended) (Err (flaw FieldLine (at + v))) (Ok n))))

-- what is wrong with a field line, or where its colon stands
abbrev pub check_field : ℕ → Text → Bool → Result ℕ Flaw
check_field at l ended =
    check_at at l ended (before 58 l) (prefix_len name_byte l) (before 58 l + 1 + prefix_len value_byte (drop (before 58 l + 1) l))

-- the same where k lines more are allowed
unfoldable pub check_line : ℕ → ℕ → Text → Bool → Result ℕ Flaw
check_line zero at l ended = Err (flaw TooLong at)
check_line (suc k) at l ended = check_field at l ended

-- the field in a good line: what stands before the colon, and what stands behind it without blanks at its ends
abbrev pub sent_at : ℕ → ℕ → Text → Sent
sent_at at n l =
    record { name = take n l; value = trimmed (drop (n + 1) l); at = at; value_at = at + n + 1 + prefix_len blank (drop (n + 1) l) }

-- the field in a line where k lines more are allowed, or what is wrong with it
abbrev pub read_line : ℕ → ℕ → Text → Bool → Result Sent Flaw
read_line k at l ended = onward (check_line k at l ended) (λ n. Ok (sent_at at n l))

-- what reading field lines finds: all of them, and where the head ends; that more is wanted; or what is wrong
pub data Found : Type 0 where
  ended : List Sent → ℕ → Found
  more : Found
  wrong : Flaw → Found

-- fields, and then what was found
abbrev pub with_fields : List Sent → Found → Found
with_fields fs (ended gs end) = ended (fs ++ gs) end
with_fields fs more = more
with_fields fs (wrong w) = wrong w

abbrev pub on_line : Result ℕ Flaw → (ℕ → Found) → Found
on_line (Ok n) go = go n
on_line (Err w) go = wrong w

-- what the front of a text t at the place at is cut into; k: how many field lines are allowed; go: a field line, and what follows it
abbrev pub on_cut : ℕ → ℕ → Text → (Text → Text → Found) → LineCut → Found
on_cut k at t go short = more
on_cut k at t go (stray n) = on_line (check_line k at (take n t) false) (λ colon. more)
on_cut k at t go (whole l rest) = cond (length l == 0) (ended [] (at + 2)) (go l rest)

-- a field line l, and what follows it
unfoldable pub line_then : ℕ → ℕ → Text → Text → Found
line_then zero at l rest = wrong (flaw TooLong at)
line_then (suc k) at l rest =
    on_line (check_field at l true) (λ n. with_fields (sent_at at n l ∷ []) (on_cut k (at + (length l + 2)) rest (line_then k (at + (length l + 2))) (cut_line rest)))

-- field lines up to the empty line, at most k; t stands at the place at
abbrev pub fields_from : ℕ → ℕ → Text → Found
fields_from k at t = on_cut k at t (line_then k at) (cut_line t)

-- the field lines of a head, at most k, from a place on
abbrev pub fields_in : ℕ → Text → ℕ → Found
fields_in k head start = cond (nat_le start (length head)) (fields_from k start (drop start head)) more

-- what the code holds, as values
abbrev pub view_line : HeldLine → Sent
view_line l = record { name = l.field.name.now; value = l.field.value.now; at = l.at; value_at = l.value_at }

abbrev pub view_lines : List HeldLine → List Sent
view_lines ls = map view_line ls

abbrev pub view_read : Result HeldLine Flaw → Result Sent Flaw
view_read (Ok l) = Ok (view_line l)
view_read (Err w) = Err w

abbrev pub view_found : Result (Option HeldFields) Flaw → Found
view_found (Ok (Some f)) = ended (view_lines f.lines.now) f.end
view_found (Ok None) = more
view_found (Err w) = wrong w

-- the fields fit a table of k, and the head ends behind start, inside its n bytes
abbrev pub FieldsIn : ℕ → ℕ → ℕ → HeldFields → Type 0
FieldsIn k start n f = (length f.lines.now ≤ k) × (start < f.end) × (f.end ≤ n)
