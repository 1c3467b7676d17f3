-- What a head that is let pass has, and that one of which more is wanted leaves room in the window.
use Rattle.std.proofs.Common.{◌≡◌, ℕ, ◌+◌, ◌<◌, true, false, ltb, List, length, take, Some, None, Ok, Err, Option, Result, refl, subst}
use Rattle.std.proofs.lemmas.Bool.{cond_both, ltb-true}
use Rattle.text.specs.Bytes.{Text}
use Rattle.text.specs.Cuts.{LineCut, whole, short, stray, cut_line}
use Rattle.message.specs.Faults.{flaw}
use Rattle.message.specs.Sent.{Sent, Found, ended, more, wrong, fields_in}
use Rattle.message.specs.declared.body.Due.{Due}
use Rattle.message.specs.declared.fault.Fault.TheVariants.{TooLong}
use Rattle.message.specs.declared.fault.Flaw.{Flaw}
use Rattle.request.specs.Canonical.{field_limit}
use Rattle.request.specs.First.{check_first}
use Rattle.request.specs.Heads.{window, unended_at, judged_fields, judged_as, on_fields, on_first, judged}
use Rattle.request.specs.declared.first.First.{First}
use Rattle.request.specs.declared.head.Judged.{Judged}
use Rattle.request_laws.proofs.First.{first_stray}
use Rattle.request_laws.proofs.Onward.{onward_both}

abbrev Head : Type 0
Head = Result (Option Judged) Flaw

-- a head that is let pass: its first line, its fields, its end, and what was judged of them
pub record Passes (names : List Text) (w : Text) (j : Judged) : Type 0 where
  pub line : Text
  pub rest : Text
  pub cut : cut_line w ≡ whole line rest
  pub first : First
  pub good : check_first line true ≡ Ok first
  pub fields : List Sent
  pub len : ℕ
  pub found : fields_in field_limit w (length line + 2) ≡ ended fields len
  pub due : ℕ × Due
  pub agreed : judged_fields names (take first.method line) fields len ≡ Ok due
  pub is : judged_as first (length line + 2) len due ≡ j

-- what holds where a head is let pass, and where more is wanted
abbrev By : Head → (Judged → Type 0) → Type 0 → Type 0
By (Ok (Some j)) P Q = P j
By (Ok None) P Q = Q
By (Err w) P Q = Unit {0}

by_unended : (n : ℕ) (P : Judged → Type 0) → By (unended_at n) P (n < window)
by_unended n P = cond_both (ltb n window) (Ok None) (Err (flaw TooLong window)) (λ (x : Head). By x P (n < window)) (λ e. ltb-true _ _ e) (λ _. tt)

module _ (names : List Text) (w : Text) where
  abbrev Known : Head → Type 0
  Known x = By x (Passes names w) (length w < window)

  on_fields_so : (l rest : Text) (first : First) (f : Found) → cut_line w ≡ whole l rest → check_first l true ≡ Ok first → fields_in field_limit w (length l + 2) ≡ f → Known (on_fields names l (length w) first f)
  on_fields_so l rest first more cut good found = by_unended (length w) (Passes names w)
  on_fields_so l rest first (wrong f) cut good found = tt
  on_fields_so l rest first (ended fs end) cut good found =
      onward_both Known (judged_fields names (take first.method l) fs end) (λ p. Ok (Some (judged_as first (length l + 2) end p))) (λ _ _. tt) (λ p e. record {
        line = l;
        rest = rest;
        cut = cut;
        first = first;
        good = good;
        fields = fs;
        len = end;
        found = found;
        due = p;
        agreed = e;
        is = refl;
      })

  on_first_so : (c : LineCut) → cut_line w ≡ c → Known (on_first names w c)
  on_first_so short cut = by_unended (length w) (Passes names w)
  on_first_so (stray n) cut = onward_both Known (check_first (take n w) false) (λ first. Ok None) (λ _ _. tt) (λ first e. absurd (first_stray (take n w) first e))
  on_first_so (whole l rest) cut =
      onward_both Known (check_first l true) (λ first. on_fields names l (length w) first (fields_in field_limit w (length l + 2))) (λ _ _. tt)
      (λ first good. on_fields_so l rest first (fields_in field_limit w (length l + 2)) cut good refl)

  pub passes : (j : Judged) → judged names w ≡ Ok (Some j) → Passes names w j
  passes j e = subst Known e (on_first_so (cut_line w) refl)

  pub room_left : judged names w ≡ Ok None → length w < window
  room_left e = subst Known e (on_first_so (cut_line w) refl)
