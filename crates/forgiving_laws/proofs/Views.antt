-- The two views are fair.
use Rattle.std.proofs.Common.{◌≡◌, ℕ, suc, ◌+◌, Bool, not, T, eqb, List, [], ◌∷◌, map, take, refl, sym, ap, ap₂, ◌∙◌, subst, inl, arith}
use Rattle.std.specs.List.{list_any}
use Rattle.text.specs.Bytes.{Text, query_byte, all, lowered}
use Rattle.text.specs.Marks.{before}
use Rattle.text.proofs.Passing.{is_true, and_l, and_r, differs, all_weaker}
use Rattle.request.specs.Places.{Piece, Place, part_text, good_part, good_parts, good_place, part_texts, parts_text, or_root, target_of}
use Rattle.rules.specs.Rules.{parts_of}
use Rattle.rules_laws.specs.Views.{View, FairView, shows, foreign}
use Rattle.rules_laws.proofs.Alike.{untouched_fair, coded_text}
use Rattle.rules_laws.proofs.Slashes.{not_mark, part_byte, path_byte, part_bytes, parts_bytes, root_bytes, path_front, parts_found, parts_in_target}
use Rattle.forgiving.specs.Views.{undone_twice, parts_undone, cut_part, view_with}
use Rattle.forgiving.specs.declared.habit.Habit.TheVariants.{LoneLf, LoneCr, EmptyLines, SpaceBeforeColon, LowLine, GoesOn, Octal, FirstLength, LastLength, AddedLengths, GetBody, NoChunks, UndoneTwice, CutParts}
use Rattle.forgiving_laws.specs.Laws.{EachViewFair}
use Rattle.forgiving_laws.proofs.Paths.{stands, pieces_of, twice, texts, texts_apart, path_twice}

-- codes undone twice
module _ (p : Place) (h : T (good_place p)) where
  fine : T (good_parts p.parts)
  fine = and_l (good_parts p.parts) (all query_byte p.query) h

  path_is : take (before 63 (target_of p)) (target_of p) ≡ or_root (parts_text p.parts)
  path_is =
      let f = or_root (parts_text p.parts) in
      path_front f p.query (all_weaker path_byte not_mark (λ c k. rw (differs path_byte 63 c refl k) tt) f (root_bytes (parts_text p.parts) (parts_bytes p.parts fine)))

  seen_undone : parts_undone (target_of p) ≡ texts p.parts fine
  seen_undone = ap (λ t. parts_of (undone_twice t)) path_is ∙ ap parts_of (path_twice p.parts fine) ∙ parts_found (texts p.parts fine) (texts_apart p.parts fine)

abbrev undoing : View
undoing = view_with UndoneTwice

texts_shown : (ps : List (List Piece)) (h : T (good_parts ps)) → texts ps h ≡ shows undoing ps
unfolding good_parts texts shows
texts_shown [] h = refl
texts_shown (p ∷ ps) h = ap₂ (λ t ts. t ∷ ts) (sym (twice p (pieces_of p (and_l (good_part p) (good_parts ps) h)))) (texts_shown ps (and_r (good_part p) (good_parts ps) h))

no_texts : (ps : List (List Piece)) (h : T (good_parts ps)) → ps ≡ [] → texts ps h ≡ []
no_texts ps h e = texts_shown ps h ∙ ap (shows undoing) e ∙ (unfold shows in refl)

undone_fair : FairView undoing
undone_fair = record {
  sees = λ p h _. seen_undone p h ∙ texts_shown p.parts (fine p h);
  root = λ p h e. inl (seen_undone p h ∙ no_texts p.parts (fine p h) e);
  plain = λ p h e. let g = pieces_of p h in ap lowered (twice p g ∙ (stands p g).plain e);
  coded = λ p h e. let g = pieces_of p h in subst (λ t. T (list_any foreign t)) (sym (twice p g)) ((stands p g).coded e);
}

-- parts cut at a semicolon, which no good part has
abbrev no_semicolon : ℕ → Bool
no_semicolon c = not (eqb c 59)

all_before : (t : Text) → T (all no_semicolon t) → cut_part t ≡ t
unfolding all
all_before [] h = refl
all_before (c ∷ t) h =
    let n = before 59 t in
    let next : 1 + n ≡ suc n = omega arith in
    rw (is_true (no_semicolon c) (and_l (no_semicolon c) (all no_semicolon t) h), next) (ap (λ u. c ∷ u) (all_before t (and_r (no_semicolon c) (all no_semicolon t) h)))

uncut : (p : List Piece) → T (good_part p) → cut_part (part_text p) ≡ part_text p
uncut p h = all_before (part_text p) (all_weaker part_byte no_semicolon (λ c k. rw (differs part_byte 59 c refl k) tt) (part_text p) (part_bytes p (pieces_of p h)))

abbrev cutting : View
cutting = view_with CutParts

cut_shown : (ps : List (List Piece)) → map cut_part (part_texts ps) ≡ shows cutting ps
unfolding part_texts shows
cut_shown [] = refl
cut_shown (p ∷ ps) = ap (λ ts. cut_part (part_text p) ∷ ts) (cut_shown ps)

cut_fair : FairView cutting
unfolding part_texts
cut_fair = record {
  sees = λ p h _. ap (map cut_part) (parts_in_target p h) ∙ cut_shown p.parts;
  root = λ p h e. inl (ap (map cut_part) (parts_in_target p h ∙ ap part_texts e));
  plain = λ p h e. ap lowered (uncut p h);
  coded = λ p h e. subst (λ t. T (list_any foreign t)) (sym (uncut p h)) (coded_text p e);
}

pub each_view_fair : EachViewFair
each_view_fair LoneLf = untouched_fair
each_view_fair LoneCr = untouched_fair
each_view_fair EmptyLines = untouched_fair
each_view_fair SpaceBeforeColon = untouched_fair
each_view_fair LowLine = untouched_fair
each_view_fair GoesOn = untouched_fair
each_view_fair Octal = untouched_fair
each_view_fair FirstLength = untouched_fair
each_view_fair LastLength = untouched_fair
each_view_fair AddedLengths = untouched_fair
each_view_fair GetBody = untouched_fair
each_view_fair NoChunks = untouched_fair
each_view_fair UndoneTwice = undone_fair
each_view_fair CutParts = cut_fair
