-- Every target that begins with a slash is in the grammar or has a fault, and a fault is found where it stands; so a target that passes is in the grammar.
use Rattle.std.proofs.Common.{◌≡◌, ℕ, ◌+◌, ◌<◌, not, T, eqb, ltb, ◌⊎◌, List, [], ◌∷◌, ◌++◌, length, drop, Some, None, Ok, Err, refl, ap, ◌∙◌, subst, inl, inr, append-nil, arith}
use Rattle.std.specs.List.{prefix_len}
use Rattle.std.proofs.lemmas.List.{length-append}
use Rattle.std.proofs.lemmas.Bool.{cond-true, eqb-true, not-false, lt-ltb}
use Rattle.text.specs.Bytes.{Text, query_byte, all}
use Rattle.text.specs.Marks.{before}
use Rattle.text.proofs.Passing.{is_false}
use Rattle.text_laws.proofs.Fronts.{stops, split, leading_at}
use Rattle.message.specs.Faults.{flaw}
use Rattle.message.specs.declared.fault.Fault.TheVariants.{PathByte, PathPart, QueryByte}
use Rattle.message.specs.declared.fault.Flaw.{Flaw}
use Rattle.request.specs.Canonical.{begins_with_slash}
use Rattle.request.specs.Targets.{path_of, query_of, bad_query, check_target}
use Rattle.request.specs.Places.{Piece, Place}
use Rattle.request_laws.specs.Targets as grammar
use Rattle.request_laws.specs.Targets.{PathSpelled, TargetSpelled}
use Rattle.request_laws.specs.Faults as faults
use Rattle.request_laws.specs.Faults.{TokensSpelled, PathIn, TargetFault}
use Rattle.request_laws.specs.FaultLaws.{TargetsRefused}
use Rattle.request_laws.specs.TargetLaws.{TargetsRead}
use Rattle.request_laws.proofs.Paths.{path_fine}
use Rattle.request_laws.proofs.Targets.{not_mark, cut_mark, slash_front, target_checks}
use Rattle.request_laws.proofs.TokenFaults.{path_tokens, tokens_passed, tokens_good, no_token, tokens_cut}
use Rattle.request_laws.proofs.PartFaults.{path_found, path_cut}

-- a path, and what stands behind it, are what the target is cut into
record CutAs (t path rest : Text) : Type 0 where
  front : path_of t ≡ path
  back : query_of t ≡ drop 1 rest
  mark : before 63 t ≡ length path

ends_stop : (rest : Text) → (rest ≡ []) ⊎ ((query : Text) × (rest ≡ 63 ∷ query)) → T (stops not_mark rest)
ends_stop rest (inl e) = rw e tt
ends_stop rest (inr (q, e)) = rw e tt

cut_as : (t path rest : Text) → PathIn t path rest → CutAs t path rest
cut_as t path rest i =
    let h = ends_stop rest i.behind in
    let c = cut_mark path rest i.free h in
    record { front = ap path_of i.text ∙ c.0; back = ap query_of i.text ∙ c.1; mark = ap (before 63) i.text ∙ leading_at not_mark path rest i.free h }

-- the first bad byte of a query
query_found : (f : Text) (c : ℕ) (r : Text) → T (all query_byte f) → T (not (query_byte c)) → bad_query (f ++ (c ∷ r)) ≡ Some (length f)
query_found f c r g h =
    let q = f ++ (c ∷ r) in
    let n = leading_at query_byte f (c ∷ r) g h in
    let less : prefix_len query_byte q < length q = simp length-append (omega arith) in
    cond-true (ltb (prefix_len query_byte q) (length q)) (Some (prefix_len query_byte q)) None (lt-ltb (prefix_len query_byte q) (length q) less) ∙ ap (λ k. Some k) n

-- a fault is found
pub fault_found : (t : Text) (v : Flaw) → TargetFault t v → check_target t ≡ Err v
fault_found t v (faults.byte good bad rest i s n h) =
    let c = cut_as t (good ++ bad) rest i in
    rw (c.front, tokens_passed 0 good bad s, no_token (0 + length good) bad n h) (ap (λ k. Err (flaw PathByte k)) (omega arith))
fault_found t v (faults.part front p behind rest {ps} {pieces} i n s m q h e) =
    let path = front ++ (47 ∷ (p ++ behind)) in
    let c = cut_as t path rest i in
    rw (c.front, tokens_good 0 path s, path_found front ps p pieces behind m q h e n) (ap (λ k. Err (flaw PathPart k)) (omega arith))
fault_found t v (faults.query path good behind b {ps} i s g h) =
    let c = cut_as t path (63 ∷ (good ++ (b ∷ behind))) i in
    rw (c.front, c.back, c.mark, tokens_good 0 path (path_tokens path ps s), path_fine path ps s, query_found good b behind g h) refl

-- a target is in the grammar, or it has a fault
abbrev pub Judged : Text → Type 0
Judged t = ((p : Place) × TargetSpelled t p) ⊎ ((v : Flaw) × TargetFault t v)

query_cut : (t f q g r : Text) (ps : List (List Piece)) → PathIn t f (63 ∷ q) → PathSpelled f ps → T (all query_byte g) → T (stops query_byte r) → q ≡ g ++ r → Judged t
query_cut t f q g [] ps i s h k e = inl (record { parts = ps; query = q }, rw i.text (grammar.query f q s (rw (e, append-nil g) h)))
query_cut t f q g (c ∷ r) ps i s h k e = inr (flaw QueryByte (length f + 1 + length g), faults.query f g r c (rw e at i) s h k)

rest_cut : (t f rest : Text) (ps : List (List Piece)) → PathIn t f rest → PathSpelled f ps → Judged t
rest_cut t f rest ps i s =
    elim i.behind [
      | inl e ↦ inl (record { parts = ps; query = [] }, rw (i.text, e, append-nil f) (grammar.path s))
      | inr (q, e) ↦ let c = split query_byte q in query_cut t f q c.front c.rest ps (rw e at i) s c.passes c.ends c.joined
    ]

-- the same by its path: the tokens, then the parts, then what is behind it
parts_cut : (t f rest : Text) → PathIn t f rest → T (begins_with_slash f) → TokensSpelled f → Judged t
parts_cut t f rest i b m =
    elim (path_cut f b m) [
      | inl (ps, s) ↦ rest_cut t f rest ps i s
      | inr (w, n) ↦ inr (flaw PathPart (length w.front + 1 + length w.bad), faults.part w.front w.bad w.behind rest (rw w.joined at i) n (rw w.joined at m) w.parts w.part w.wrong w.ends)
    ]

path_judged : (t f rest : Text) → PathIn t f rest → T (begins_with_slash f) → Judged t
path_judged t f rest i b =
    elim (tokens_cut f) [ inl m ↦ parts_cut t f rest i b m | inr w ↦ inr (flaw PathByte (length w.good), faults.byte w.good w.bad rest (rw w.joined at i) w.spelled w.some w.tokenless) ]

-- what stands behind the bytes that are no question mark
mark_ends : (rest : Text) → T (stops not_mark rest) → (rest ≡ []) ⊎ ((query : Text) × (rest ≡ 63 ∷ query))
mark_ends [] h = inl refl
mark_ends (c ∷ r) h = inr (r, ap (λ x. x ∷ r) (eqb-true c 63 (not-false (eqb c 63) (is_false (not_mark c) h))))

pub target_cut : (t : Text) → T (begins_with_slash t) → Judged t
target_cut t b =
    let c = split not_mark t in
    path_judged t c.front c.rest record { text = c.joined; free = c.passes; behind = mark_ends c.rest c.ends } (slash_front c.front c.rest c.ends (rw c.joined at b))

-- so what is found is the fault that it has
refused : (t : Text) (v : Flaw) → check_target t ≡ Err v → Judged t → TargetFault t v
refused t v e (inl (p, s)) = let f = (target_checks t p s).0 in cc
refused t v e (inr (w, s)) = let f = fault_found t w s in let is : w ≡ v = cc in subst (TargetFault t) is s

-- and nothing is found only of one that is in the grammar
passed : (t : Text) → check_target t ≡ Ok tt → Judged t → (p : Place) × TargetSpelled t p
passed t e (inl s) = s
passed t e (inr (v, s)) = let f = fault_found t v s in cc

pub target_read : (t : Text) → T (begins_with_slash t) → check_target t ≡ Ok tt → (p : Place) × TargetSpelled t p
target_read t b e = passed t e (target_cut t b)

-- the laws
pub targets_read : TargetsRead
targets_read t b = (target_read t b, λ s. (target_checks t s.0 s.1).0)

pub targets_refused : TargetsRefused
targets_refused t v b = (λ e. refused t v e (target_cut t b), fault_found t v)
