use Rattle.std.proofs.Common.{◌≡◌, ℕ, ◌+◌, ◌-◌, ◌≤◌, true, List, length, take, Some, sym, ap, ◌∙◌, arith}
use mathlib.Core.List.{map-map}
use native.Mathlib.Nat.{sub-zero}
use Rattle.std.proofs.lemmas.Bool.{cond-true}
use Rattle.text.specs.Bytes.{Text}
use Rattle.message.specs.Fields.{Field}
use Rattle.message.specs.Hops.{field_of, kept_of, held_all}
use Rattle.message.specs.Sent.{ended, fields_in, view_line, view_lines}
use Rattle.message.specs.declared.sent.Line.{Line}
use Rattle.request.specs.Canonical.{field_limit}
use Rattle.response.specs.Copies.{Res}
use Rattle.response.specs.Found.{holds, parts_in, with_fields, response_in}
use Rattle.response.specs.declared.head.Head.{Head}
use Rattle.response.specs.declared.reading.Reading.TheVariants.{Whole}
use Rattle.response.proofs.head.Head.response.Goals as goal

-- a response that is there: its fields as read, those that are kept, and its parts
whole : (head : Head) (end e k : ℕ) (memory : Text) (ls : List Line) (kept : List Field) (r : Res) →
    holds (length memory) head end ≡ true → k ≡ field_limit → ended (view_lines ls) e ≡ fields_in k (take (head.len - 0) memory) (head.line + 2) →
    kept ≡ kept_of (held_all ls) → r ≡ parts_in head end memory kept → Some r ≡ response_in (Whole head end) memory
whole head end e k memory ls kept r there room read keeps parts =
    ap Some (parts ∙ ap (parts_in head end memory) (keeps ∙ ap kept_of (sym (map-map field_of view_line ls))))
    ∙ ap (with_fields head end memory) (read ∙ ap (λ m. fields_in m (take (head.len - 0) memory) (head.line + 2)) room ∙ ap (λ n. fields_in field_limit (take n memory) (head.line + 2)) (sub-zero head.len))
    ∙ sym (cond-true (holds (length memory) head end) _ _ there)

pub returns : goal.returns
returns c =
    let read = rw c.in-Ok-Some.field-0-is at c.in-Ok-Some.ensures.is in
    let within = rw c.in-Ok-Some.field-0-is at c.in-Ok-Some.ensures.within in
    let room : length c.table-table.result ≡ field_limit = omega arith in
    let few : length c.in-Ok-Some.read.lines.now ≤ length c.args.fields.now = omega (arith, within.0, c.requires) in
    whole c.args.self c.args.end _ _ c.args.memory.now c.in-Ok-Some.read.lines.now _ _
    (sym c.if-not-holds.ensures) room read (c.keep-sent_on.ensures.all few) c.parts.ensures
