-- The fields of lines that the grammar has are found.
use Rattle.std.proofs.Common.{◌≡◌, ℕ, zero, suc, ◌+◌, ◌≤◌, cond, T, eqb, List, [], ◌∷◌, ◌++◌, length, refl, ap, ◌∙◌, ap₂, append_assoc, arith}
use Rattle.std.proofs.lemmas.List.{length-append}
use Rattle.std.proofs.lemmas.Bool.{cond-false, ne_eqb}
use Rattle.text.specs.Bytes.{Text, all, clean, nonempty}
use Rattle.text_laws.proofs.Lines.{whole_line}
use Rattle.message.specs.Fields.{Field}
use Rattle.message.specs.Sent.{ended, with_fields, on_line, on_cut, sent_at, line_then, fields_from}
use Rattle.request_laws.specs.Lines.{FieldSpelled, LinesSpelled, none, line}
use Rattle.request_laws.specs.HeadLaws.{HeadFound}
use Rattle.request_laws.proofs.Leads.{nonempty_long}
use Rattle.request_laws.proofs.Fields.{field_spelled, field_clean}

-- a clean line in front of a text is what is read first
pub cut_first : (k at : ℕ) (l t : Text) → T (clean l) → fields_from k at (l ++ (13 ∷ 10 ∷ t)) ≡ cond (eqb (length l) 0) (ended [] (at + 2)) (line_then k at l t)
cut_first k at l t h = let u = l ++ (13 ∷ 10 ∷ t) in ap (on_cut k at u (line_then k at)) ((whole_line u l t).1 (h, refl))

-- one that has some bytes is a field's
pub line_first : (k at : ℕ) (l t : Text) → T (clean l) → T (nonempty l) → fields_from k at (l ++ (13 ∷ 10 ∷ t)) ≡ line_then k at l t
line_first k at l t h n = cut_first k at l t h ∙ cond-false (eqb (length l) 0) _ _ (ne_eqb (length l) 0 (let long = nonempty_long l n in omega arith))

-- a good one, and what is found behind it
pub field_first : (k at : ℕ) (l t : Text) (f : Field) → FieldSpelled l f → fields_from (suc k) at (l ++ (13 ∷ 10 ∷ t)) ≡ with_fields (sent_at at (length f.name) l ∷ []) (fields_from k (at + (length l + 2)) t)
unfolding line_then
field_first k at l t f s =
    let clear = field_clean l f s in
    line_first (suc k) at l t clear.0 clear.1 ∙ ap (λ r. on_line r (λ m. with_fields (sent_at at m l ∷ []) (fields_from k (at + (length l + 2)) t))) (field_spelled at l f s).0

one_more_so : (k at : ℕ) (l t rest : Text) (f : Field) (fs : List Field) → FieldSpelled l f → HeadFound k (at + (length l + 2)) t rest fs → HeadFound (suc k) at (l ++ (13 ∷ 10 ∷ t)) rest (f ∷ fs)
one_more_so k at l t rest f fs s h =
    let g = sent_at at (length f.name) l in
    let end : at + (length l + 2) + (length t + 2) ≡ at + (length (l ++ (13 ∷ 10 ∷ t)) + 2) = simp length-append (omega arith) in (
      g ∷ h.0,
      ap (fields_from (suc k) at) (append_assoc l (13 ∷ 10 ∷ t) (13 ∷ 10 ∷ rest)) ∙ field_first k at l (t ++ (13 ∷ 10 ∷ rest)) f s ∙ ap (with_fields (g ∷ [])) h.1 ∙ ap (ended (g ∷ h.0)) end,
      ap₂ (λ g gs. g ∷ gs) (field_spelled at l f s).1 h.2,
    )

-- the fields of lines are found
pub fields_spelled : (k at : ℕ) (lines rest : Text) (fs : List Field) → LinesSpelled lines fs → length fs ≤ k → HeadFound k at lines rest fs
fields_spelled k at lines rest fs none h = ([], cut_first k at [] rest (unfold all in tt), refl)
fields_spelled zero at lines rest fs (line l t s next) h = absurd (omega arith)
fields_spelled (suc k) at lines rest fs (line l t {f} {fs = gs} s next) h = one_more_so k at l t rest f gs s (fields_spelled k (at + (length l + 2)) t rest gs next (omega arith))
