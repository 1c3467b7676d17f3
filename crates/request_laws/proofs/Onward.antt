-- Two steps of a reading: what holds of both, and what it says that both went well.
use Rattle.std.proofs.Common.{◌≡◌, Ok, Err, Result, refl}
use Rattle.message.specs.Faults.{onward}
use Rattle.message.specs.declared.fault.Flaw.{Flaw}

-- what holds of two steps, the second by what the first made
pub onward_both : {A B : Type 0} (P : Result B Flaw → Type 0) (r : Result A Flaw) (go : A → Result B Flaw) → ((v : Flaw) → r ≡ Err v → P (Err v)) → ((a : A) → r ≡ Ok a → P (go a)) → P (onward r go)
onward_both P (Ok a) go wrong right = right a refl
onward_both P (Err v) go wrong right = wrong v refl

-- where two steps went well, each did
pub onward_ok : {A B C : Type 0} (r : Result A Flaw) (go : A → Result B Flaw) (b : B) → ((a : A) → r ≡ Ok a → go a ≡ Ok b → C) → onward r go ≡ Ok b → C
onward_ok (Ok a) go b f e = f a refl e
onward_ok (Err w) go b f e = cc

-- and where each did, both did
pub onward_so : {A B : Type 0} {r : Result A Flaw} {a : A} (go : A → Result B Flaw) → r ≡ Ok a → onward r go ≡ go a
onward_so go e = rw e refl
