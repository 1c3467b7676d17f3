-- Lines that may end in more ways: a text without CR and LF is still cut off at CR LF, and waited on before.
use Rattle.std.proofs.Common.{◌≡◌, ℕ, ◌≤◌, T, [], ◌∷◌, ◌++◌, length, refl, sym, ap, ◌∙◌, append-nil}
use Rattle.text.specs.Bytes.{Text, all, clean}
use Rattle.text.proofs.Passing.{and_l, and_r, not_end, differs}
use Rattle.request.specs.Canonical.{head_limit}
use Rattle.reader.specs.Reader.{Cut, Short, Line}
use Rattle.reader.specs.Strict.{before, split_line}
use Rattle.reader.proofs.Strictly.{strict_is_fair}
use Rattle.forgiving.specs.Readers.{lf_end, cr_end, split_by}

-- what is asked of how a line is cut off
pub record Splits (split : Text → Cut) : Type 0 where
  pub whole_line : (l rest : Text) → T (clean l) → length l ≤ head_limit → split (l ++ (13 ∷ 10 ∷ rest)) ≡ Line l rest
  pub part_line : (l : Text) → T (clean l) → length l ≤ head_limit → split l ≡ Short
  pub part_end : (l : Text) → T (clean l) → length l ≤ head_limit → split (l ++ (13 ∷ [])) ≡ Short

module _ (ends : Text → ℕ) (inside : (c : ℕ) (s : Text) → T (not_end c) → ends (c ∷ s) ≡ 0) where
  -- a clean text l goes before what is found behind it
  past : (found : Text → Cut) → ((c : ℕ) (l : Text) → before c (found l) ≡ found (c ∷ l)) → (s : Text) → split_by ends s ≡ found [] → (l : Text) → T (clean l) → split_by ends (l ++ s) ≡ found l
  unfolding all split_by
  past found more s e [] h = e
  past found more s e (c ∷ l) h =
      let own : ends (c ∷ (l ++ s)) ≡ 0 = inside c (l ++ s) (and_l (not_end c) (clean l) h) in
      rw own (ap (before c) (past found more s e l (and_r (not_end c) (clean l) h)) ∙ more c l)

  -- where CR LF is an end, and CR alone at the end of a text is none
  pub splits : ((s : Text) → ends (13 ∷ 10 ∷ s) ≡ 2) → ends (13 ∷ []) ≡ 0 → Splits (split_by ends)
  unfolding split_by
  splits whole last = record {
    whole_line = λ l rest h _. past (λ t. Line t rest) (λ c t. refl) (13 ∷ 10 ∷ rest) (rw (whole rest) refl) l h;
    part_line = λ l h _. ap (split_by ends) (sym (append-nil l)) ∙ past (λ t. Short) (λ c t. refl) [] refl l h;
    part_end = λ l h _. past (λ t. Short) (λ c t. refl) (13 ∷ []) (rw last refl) l h;
  }

lf_inside : (c : ℕ) (s : Text) → T (not_end c) → lf_end (c ∷ s) ≡ 0
lf_inside c [] h = rw (differs not_end 10 c refl h)
lf_inside c (d ∷ s) h = rw (differs not_end 10 c refl h, differs not_end 13 c refl h)

cr_inside : (c : ℕ) (s : Text) → T (not_end c) → cr_end (c ∷ s) ≡ 0
cr_inside c [] h = refl
cr_inside c (d ∷ s) h = rw (differs not_end 13 c refl h)

pub strict_splits : Splits split_line
strict_splits = record { whole_line = strict_is_fair.whole_line; part_line = strict_is_fair.part_line; part_end = strict_is_fair.part_end }

pub lf_splits : Splits (split_by lf_end)
lf_splits = splits lf_end lf_inside (λ s. refl) refl

pub cr_splits : Splits (split_by cr_end)
cr_splits = splits cr_end cr_inside (λ s. refl) refl
