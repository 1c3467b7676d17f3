-- A piece of a head is stored, and all that has come is judged.
use Rattle.std.proofs.Common.{◌≡◌, ℕ, ◌+◌, ◌-◌, ◌≤◌, min, length, take, Option, Result, sym, ap, ◌∙◌, ⊎_elim, arith}
use native.Mathlib.Nat.{sub-zero}
use Rattle.std.proofs.lemmas.List.{length-take, take_all}
use Rattle.std.proofs.lemmas.Bool.{cases_lt}
use Rattle.text.specs.Bytes.{Text}
use Rattle.request.specs.Heads.{window}
use Rattle.request.specs.Reading.{placed_at}
use Rattle.response.specs.Heads.{judged}
use Rattle.response.specs.Reading.{on_judged, head_step}
use Rattle.response.specs.declared.head.Judged.{Judged}
use Rattle.response.specs.declared.head.Unreadable.{Unreadable}

-- as much of a piece as there is room for
cut_is : (n k : ℕ) (xs : Text) → n ≡ min (length xs) k → take (n - 0) xs ≡ take k xs
cut_is n k xs e =
    ⊎_elim
    (λ h. let all : length xs ≤ n - 0 = omega arith in let past : length xs ≤ k = omega arith in take_all (n - 0) xs all ∙ sym (take_all k xs past))
    (λ h. let is : n - 0 ≡ k = omega arith in ap (λ m. take m xs) is)
    (cases_lt (length xs) k)

cut_long : (filled n w : ℕ) (piece : Text) → filled ≤ w → n ≡ min (length piece) (w - filled) → n ≡ length (take (w - filled) piece)
cut_long filled n w piece room e = simp length-take (omega arith)

-- what is stored, and what is said of it
pub stepped : (m : Text) (filled n : ℕ) (memory piece then : Text) → filled ≤ window → n ≡ min (length piece) (window - filled) → then ≡ placed_at filled (take (n - 0) piece) memory →
    (r : Result (Option Judged) Unreadable) → r ≡ judged m (take (filled + n - 0) then) → on_judged filled n then r ≡ head_step m filled memory piece
stepped m filled n memory piece then room e is r h =
    let part = take (window - filled) piece in
    let stored : then ≡ placed_at filled part memory = is ∙ ap (λ ys. placed_at filled ys memory) (cut_is n (window - filled) piece e) in
    ap (on_judged filled n then) (h ∙ ap (λ k. judged m (take k then)) (sub-zero (filled + n)))
    ∙ ap (λ z. on_judged filled n z (judged m (take (filled + n) z))) stored
    ∙ ap (λ k. on_judged filled k (placed_at filled part memory) (judged m (take (filled + k) (placed_at filled part memory)))) (cut_long filled n window piece room e)
