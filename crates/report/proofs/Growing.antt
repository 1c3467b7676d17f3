-- A text that grows part by part, and what is kept of it where memory is wanting.
use Rattle.std.proofs.Common.{◌≡◌, true, ◌++◌, length, take, is_err, Ok, Result, sym, refl, ap, ◌∙◌, append_assoc, arith}
use Rattle.std.specs.declared.alloc.AllocError.{AllocError}
use Rattle.std.proofs.lemmas.List.{length-append, take_at, take-take}
use Rattle.std.proofs.lemmas.Result.{MatchResult-from_err}
use Rattle.text.specs.Bytes.{Text}
use Rattle.report.specs.Growth.{Added}

-- a text that has grown by a still begins with what it was, where no more could be added
pub kept : {U : Type 0} {r : Result U AllocError} {ys : Text} (xs a ts us : Text) → is_err r ≡ true → ts ≡ xs ++ a → take (length ts) us ≡ ts → Added ys xs us r
kept {r} xs a ts us e grown h =
    let long = ap length grown ∙ length-append xs a in
    let begins = sym (take-take (length xs) (length ts) us (omega arith)) ∙ ap (take (length xs)) (h ∙ grown) ∙ take_at xs a (length xs) refl in
    record { cases = MatchResult-from_err r _ _ e (λ _. begins) }

-- a text that has grown by one part and then by another
pub grown : {a b xs ts us : Text} {u v : Unit {0}} → Added a xs ts (Ok u) → Added b ts us (Ok v) → Added (a ++ b) xs us (Ok v)
grown {a} {b} {xs} one two = record { cases = two.cases ∙ ap (λ t. t ++ b) one.cases ∙ append_assoc xs a b }

-- the same text under another form
pub grown_as : {a b xs ts : Text} {u : Unit {0}} → a ≡ b → Added a xs ts (Ok u) → Added b xs ts (Ok u)
grown_as {xs} e h = record { cases = h.cases ∙ ap (λ t. xs ++ t) e }
