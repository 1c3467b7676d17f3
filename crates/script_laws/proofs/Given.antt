-- What holds of a value, where there is one.
use Rattle.std.proofs.Common.{◌≡◌, ℕ, IfSome, IfOk, Some, None, Ok, Err, Option, Result, refl}
use Rattle.std.specs.Option.{option_map, ok_or}
use Rattle.text.specs.Bytes.{Text}
use Rattle.text.specs.Numerals.{on_digit}
use Rattle.script.specs.Statements.{Says, and_then, on_cut}
use Rattle.script.specs.declared.problem.Problem.{Problem}

abbrev pub Gives : {X : Type 0} → (X → Type 0) → Option X → Type 0
Gives P o = IfSome o P

pub gives_mapped : {X Y : Type 0} (P : X → Type 0) (Q : Y → Type 0) (g : X → Y) (o : Option X) → ((x : X) → P x → Q (g x)) → Gives P o → Gives Q (option_map g o)
gives_mapped P Q g None f h = tt
gives_mapped P Q g (Some x) f h = f x h

pub on_digit_so : (P : ℕ → Type 0) (o : Option ℕ) (go : ℕ → Option ℕ) → ((d : ℕ) → o ≡ Some d → Gives P (go d)) → Gives P (on_digit o go)
on_digit_so P None go f = tt
on_digit_so P (Some d) go f = f d refl

-- what is read goes on with a value, or ends with a problem
pub made_or : {X : Type 0} (P Q : X → Type 0) (o : Option X) (e : Problem) → ((x : X) → P x → Q x) → Gives P o → IfOk (ok_or o e) Q
made_or P Q None e f h = tt
made_or P Q (Some x) e f h = f x h

pub made_then : {X Y : Type 0} (P : X → Type 0) (Q : Y → Type 0) (r : Result X Problem) (go : X → Result Y Problem) → ((x : X) → P x → IfOk (go x) Q) → IfOk r P → IfOk (and_then r go) Q
made_then P Q (Ok x) go f h = f x h
made_then P Q (Err e) go f h = tt

pub on_cut_so : (P : Text → Text → Type 0) (Q : Says → Type 0) (o : Option (Text × Text)) (go : Text → Text → Result Says Problem) (e : Problem) → ((a b : Text) → P a b → IfOk (go a b) Q) → Gives (λ p. P p.0 p.1) o → IfOk (on_cut o go (Err e)) Q
on_cut_so P Q None go e f h = tt
on_cut_so P Q (Some p) go e f h = f p.0 p.1 h
