use Rattle.std.proofs.Common.{◌≡◌, ℕ, ◌-◌, ◌≤◌, true, List, length, take, Ok, sym, ap, ◌∙◌, arith}
use mathlib.Core.List.{map-map}
use native.Mathlib.Nat.{sub-zero}
use Rattle.std.proofs.lemmas.Bool.{cond-true}
use Rattle.text.specs.Bytes.{Text}
use Rattle.message.specs.Fields.{Field}
use Rattle.message.specs.Hops.{field_of, kept_of, held_all}
use Rattle.message.specs.Sent.{ended, fields_in, view_line, view_lines}
use Rattle.message.specs.declared.sent.Line.{Line}
use Rattle.request.specs.Canonical.{Req, field_limit}
use Rattle.request.specs.Found.{Finding, holds, parts_in, limited, with_fields, whole_in}
use Rattle.request.specs.declared.head.Head.{Head}
use Rattle.request.proofs.head.Head.request.Goals as goal

-- a request that is there: its fields as read, those that are kept, its parts, and the last fault
whole : (head : Head) (end e k : ℕ) (memory : Text) (ls : List Line) (kept : List Field) (q : Req) (f : Finding) →
    holds (length memory) head end ≡ true → k ≡ field_limit → ended (view_lines ls) e ≡ fields_in k (take (head.len - 0) memory) head.fields →
    kept ≡ kept_of (held_all ls) → q ≡ parts_in head end memory kept → f ≡ limited head.server head.len q → Ok f ≡ whole_in head end memory
whole head end e k memory ls kept q f there room read keeps parts is =
    ap Ok (is ∙ ap (limited head.server head.len) (parts ∙ ap (parts_in head end memory) (keeps ∙ ap kept_of (sym (map-map field_of view_line ls)))))
    ∙ ap (with_fields head end memory) (read ∙ ap (λ m. fields_in m (take (head.len - 0) memory) head.fields) room ∙ ap (λ n. fields_in field_limit (take n memory) head.fields) (sub-zero head.len))
    ∙ sym (cond-true (holds (length memory) head end) _ _ there)

pub returns : goal.returns
returns c =
    let read = rw c.in-Ok-Some.field-0-is at c.in-Ok-Some.ensures.is in
    let within = rw c.in-Ok-Some.field-0-is at c.in-Ok-Some.ensures.within in
    let room : length c.table-table.result ≡ field_limit = omega arith in
    let few : length c.in-Ok-Some.read.lines.now ≤ length c.args.fields.now = omega (arith, within.0, c.requires) in
    whole c.args.self c.args.end _ _ c.args.memory.now c.in-Ok-Some.read.lines.now _ _ _
    (sym c.if-not-holds.ensures) room read (c.keep-sent_on.ensures.all few) c.parts-request.ensures c.limited.ensures
