-- A text that grows by lines, and what is kept of it where memory is wanting.
use Rattle.std.proofs.Common.{◌≡◌, true, ◌++◌, List, [], ◌∷◌, length, take, is_err, Result, flat_map, sym, refl, ap, ◌∙◌, arith}
use Rattle.std.specs.declared.alloc.AllocError.{AllocError}
use Rattle.std.proofs.lemmas.List.{length-append, take_at, take-take}
use Rattle.std.proofs.lemmas.Result.{MatchResult-from_err}
use Rattle.text.specs.Bytes.{Text}
use Rattle.message.specs.Fields.{line_of, field_lines}
use Rattle.report.specs.Growth.{Added}
use Rattle.report.specs.Report.{indented_line, indented}
use Rattle.forgiving.specs.Held.{view_field, view_fields}
use Rattle.forgiving.specs.declared.field.Field.{Field as Held}

-- a text that has grown by a still begins with what it was, where no more could be added
pub kept : {U : Type 0} {r : Result U AllocError} {ys : Text} (xs a ts us : Text) → is_err r ≡ true → ts ≡ xs ++ a → take (length ts) us ≡ ts → Added ys xs us r
kept {r} xs a ts us e grown h =
    let long = ap length grown ∙ length-append xs a in
    let begins = sym (take-take (length xs) (length ts) us (omega arith)) ∙ ap (take (length xs)) (h ∙ grown) ∙ take_at xs a (length xs) refl in
    record { cases = MatchResult-from_err r _ _ e (λ _. begins) }

-- the lines of fields are those of each field
pub indented_fields : (fs : List Held) → flat_map (λ f. indented_line (line_of (view_field f))) fs ≡ indented (field_lines (view_fields fs))
unfolding field_lines
indented_fields [] = refl
indented_fields (f ∷ fs) = ap (λ t. indented_line (line_of (view_field f)) ++ t) (indented_fields fs)
