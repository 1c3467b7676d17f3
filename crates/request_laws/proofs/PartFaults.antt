-- Every path of good tokens is good parts, each after a slash, and then nothing or a bad part.
use Rattle.std.proofs.Common.{◌≡◌, ℕ, ◌+◌, ◌<◌, ◌≤◌, true, false, not, ◌||◌, T, eqb, leb, ◌⊎◌, List, [], ◌∷◌, ◌++◌, length, drop, Some, None, Option, sym, refl, ap, ◌∙◌, subst, inl, inr, ⊎_elim, append_assoc, append-nil, arith}
use Rattle.std.proofs.lemmas.List.{length-append}
use Rattle.std.proofs.lemmas.Bool.{cases_Bool, or_cases, cond-true, cond-false, eqb-true, leb-true, lt-leb}
use Rattle.text.specs.Numerals.{hex_pair}
use Rattle.text.specs.Bytes.{Text, plain_byte, nonempty}
use Rattle.text.specs.Marks.{split}
use Rattle.text.proofs.Passing.{is_true, is_false, differs}
use Rattle.request.specs.Canonical.{begins_with_slash}
use Rattle.request.specs.Targets.{capital, bad_part, bad_part_in, bad_part_of, good_code}
use Rattle.request.specs.Places.{Piece, Plain, Coded, good_part}
use Rattle.request_laws.specs.Faults.{TokenSpelled, TokensSpelled}
use Rattle.request_laws.specs.Faults as tokens
use Rattle.request_laws.specs.Targets.{PartSpelled, end, bare, undone, left, PartsSpelled, none, part, PathSpelled, root, parts}
use Rattle.request_laws.proofs.Leads.{nonempty_by, nonempty_long}
use Rattle.request_laws.proofs.Parts.{part_bad}
use Rattle.request_laws.proofs.Paths.{part_bytes, split_one, split_more, fine_part}

-- nothing, or a slash and more
abbrev pub Ends : Text → Type 0
Ends t = (t ≡ []) ⊎ ((more : Text) × (t ≡ 47 ∷ more))

-- good parts in front are passed over
before_slash : (t : Text) (ps : List (List Piece)) (w : Text) → PartsSpelled t ps → t ++ (47 ∷ w) ≡ 47 ∷ drop 1 (t ++ (47 ∷ w))
before_slash t ps w none = refl
before_slash t ps w (part r u s g m) = refl

passed : (at : ℕ) (t : Text) (ts : List Text) → bad_part t ≡ false → bad_part_in at (t ∷ ts) ≡ bad_part_in (at + (length t + 1)) ts
unfolding bad_part_in
passed at t ts e = cond-false (bad_part t) (Some (at + length t)) (bad_part_in (at + (length t + 1)) ts) e

parts_passed : (at : ℕ) (t : Text) (ps : List (List Piece)) (w : Text) → PartsSpelled t ps → bad_part_in at (split 47 (drop 1 (t ++ (47 ∷ w)))) ≡ bad_part_in (at + length t) (split 47 w)
parts_passed at t ps w none = ap (λ k. bad_part_in k (split 47 w)) (omega arith)
parts_passed at t ps w (part r u {p} {ps = qs} s g m) =
    let rest = drop 1 (u ++ (47 ∷ w)) in
    let n : at + (length r + 1) + length u ≡ at + length (47 ∷ (r ++ u)) = simp length-append (omega arith) in
    let cut : split 47 ((r ++ u) ++ (47 ∷ w)) ≡ r ∷ split 47 rest =
    ap (split 47) (append_assoc r u (47 ∷ w) ∙ ap (λ v. r ++ v) (before_slash u qs w m)) ∙ split_more r rest (part_bytes r p s) in
    ap (bad_part_in at) cut ∙ passed at r (split 47 rest) (fine_part r p s g) ∙ parts_passed (at + (length r + 1)) u qs w m ∙ ap (λ k. bad_part_in k (split 47 w)) n

-- a bad part is found at its end
found : (at : ℕ) (t : Text) (ts : List Text) → bad_part t ≡ true → bad_part_in at (t ∷ ts) ≡ Some (at + length t)
unfolding bad_part_in
found at t ts e = cond-true (bad_part t) (Some (at + length t)) (bad_part_in (at + (length t + 1)) ts) e

bad_part_so : (t : Text) (p : List Piece) → PartSpelled t p → T (not (good_part p)) → bad_part t ≡ true
bad_part_so t p s h = part_bad t p s ∙ ap not (is_false (good_part p) h)

part_found : (at : ℕ) (t : Text) (p : List Piece) (behind : Text) → PartSpelled t p → T (not (good_part p)) → Ends behind → bad_part_in at (split 47 (t ++ behind)) ≡ Some (at + length t)
part_found at t p behind s h (inl e) = rw (e, append-nil t, split_one t (part_bytes t p s)) (found at t [] (bad_part_so t p s h))
part_found at t p behind s h (inr (more, e)) = rw (e, split_more t more (part_bytes t p s)) (found at t (split 47 more) (bad_part_so t p s h))

-- the same in a path
pub path_found : (front : Text) (ps : List (List Piece)) (t : Text) (p : List Piece) (behind : Text) → PartsSpelled front ps → PartSpelled t p → T (not (good_part p)) → Ends behind → T (nonempty (front ++ (t ++ behind))) →
    bad_part_of (front ++ (47 ∷ (t ++ behind))) ≡ Some (length front + 1 + length t)
path_found front ps t p behind m s h e n =
    let path = front ++ (47 ∷ (t ++ behind)) in
    let most = simp length-append at (nonempty_long (front ++ (t ++ behind)) n) in
    let long : 1 < length path = simp length-append (omega arith) in
    cond-false (leb (length path) 1) None (bad_part_in 1 (split 47 (drop 1 path))) (lt-leb (length path) 1 long) ∙ parts_passed 1 front ps (t ++ behind) m ∙ part_found (1 + length front) t p behind s h e
    ∙ ap (λ k. Some k) (omega arith)

-- parts, each after a slash, good or not
data Sliced : Text → Type 0 where
  nomore : Sliced []
  slice : (t u : Text) {p : List Piece} → PartSpelled t p → Sliced u → Sliced (47 ∷ (t ++ u))

-- a text of good tokens: its first part, and those behind it
record Slices (s : Text) : Type 0 where
  front : Text
  rest : Text
  pieces : List Piece
  first : PartSpelled front pieces
  then : Sliced rest
  joined : s ≡ front ++ rest

onto : (f : Text) (p : Piece) (s : Text) (r : Slices s) → PartSpelled (f ++ r.front) (p ∷ r.pieces) → Slices (f ++ s)
onto f p s r h =
    record { front = f ++ r.front; rest = r.rest; pieces = p ∷ r.pieces; first = h; then = r.then; joined = ap (λ t. f ++ t) r.joined ∙ sym (append_assoc f r.front r.rest) }

behind_slash : (s : Text) → Slices s → Sliced (47 ∷ s)
behind_slash s r = rw r.joined (slice r.front r.rest r.first r.then)

-- what the byte of a good code is
coded_byte : (a b : ℕ) (o : Option ℕ) → hex_pair a b ≡ o → T (good_code o) → (v : ℕ) × (hex_pair a b ≡ Some v) × (T (plain_byte v) ⊎ (128 ≤ v))
coded_byte a b None e h = absurd h
coded_byte a b (Some v) e h = (v, e, ⊎_elim (λ p. inl (rw p tt)) (λ l. inr (leb-true 128 v l)) (or_cases (plain_byte v) (leb 128 v) (is_true (plain_byte v || leb 128 v) h)))

slice_on : (t u : Text) → TokenSpelled t → Slices u → Slices (t ++ u)
slice_on t u tokens.slash r = record { front = []; rest = 47 ∷ u; pieces = []; first = end; then = behind_slash u r; joined = refl }
slice_on t u (tokens.bare {c} h) r = onto (c ∷ []) (Plain c) u r (bare h r.first)
slice_on t u (tokens.coded {a} {b} g) r =
    let k = coded_byte a b (hex_pair a b) refl g in
    ⊎_elim (λ h. onto (37 ∷ a ∷ b ∷ []) (Plain k.0) u r (undone k.0 k.1 h r.first)) (λ h. onto (37 ∷ a ∷ b ∷ []) (Coded (capital a) (capital b)) u r (left k.0 k.1 h r.first)) k.2

slices : (s : Text) → TokensSpelled s → Slices s
slices s tokens.none = record { front = []; rest = []; pieces = []; first = end; then = nomore; joined = refl }
slices s (tokens.token t u h m) = slice_on t u h (slices u m)

-- where a slash comes first, parts each after a slash
sliced_on : (t u : Text) → TokenSpelled t → Slices u → T (begins_with_slash (t ++ u)) → Sliced (t ++ u)
unfolding begins_with_slash
sliced_on t u tokens.slash r b = behind_slash u r
sliced_on t u (tokens.bare {c} h) r b = absurd (rw (differs plain_byte 47 c refl h) at b)
sliced_on t u (tokens.coded g) r b = absurd b

sliced : (s : Text) → TokensSpelled s → T (begins_with_slash s) → Sliced s
sliced s tokens.none b = nomore
sliced s (tokens.token t u h m) b = sliced_on t u h (slices u m) b

-- parts, of which one is bad
pub record PartFault (s : Text) : Type 0 where
  pub front : Text
  pub bad : Text
  pub behind : Text
  pub before : List (List Piece)
  pub pieces : List Piece
  pub joined : s ≡ front ++ (47 ∷ (bad ++ behind))
  pub parts : PartsSpelled front before
  pub part : PartSpelled bad pieces
  pub wrong : T (not (good_part pieces))
  pub ends : Ends behind

ends_so : (t : Text) → Sliced t → Ends t
ends_so t nomore = inl refl
ends_so t (slice r u s m) = inr (r ++ u, refl)

abbrev Parted : Text → Type 0
Parted t = ((ps : List (List Piece)) × PartsSpelled t ps) ⊎ PartFault t

part_on : (t u : Text) (p : List Piece) → PartSpelled t p → T (good_part p) → Parted u → Parted (47 ∷ (t ++ u))
part_on t u p s g (inl (ps, m)) = inl (p ∷ ps, part t u s g m)
part_on t u p s g (inr f) =
    inr record {
      front = 47 ∷ (t ++ f.front);
      bad = f.bad;
      behind = f.behind;
      before = p ∷ f.before;
      pieces = f.pieces;
      joined = ap (λ w. 47 ∷ w) (ap (λ w. t ++ w) f.joined ∙ sym (append_assoc t f.front (47 ∷ (f.bad ++ f.behind))));
      parts = part t f.front s g f.parts;
      part = f.part;
      wrong = f.wrong;
      ends = f.ends;
    }

parted : (t : Text) → Sliced t → Parted t
parted t nomore = inl ([], none)
parted t (slice r u {p} s m) =
    ⊎_elim (λ g. part_on r u p s (rw g tt) (parted u m))
    (λ g. inr record { front = []; bad = r; behind = u; before = []; pieces = p; joined = refl; parts = none; part = s; wrong = rw g tt; ends = ends_so u m }) (cases_Bool (good_part p))

path_of_so : (c : ℕ) (t : Text) (ps : List (List Piece)) → PartsSpelled (c ∷ t) ps → PathSpelled (c ∷ t) ps
path_of_so c t ps (part r u s g m) = parts (part r u s g m)

-- a path of good tokens is in the grammar, or it has more than a slash and a part of it is bad
abbrev pub Pathed : Text → Type 0
Pathed t = ((ps : List (List Piece)) × PathSpelled t ps) ⊎ ((f : PartFault t) × T (nonempty (f.front ++ (f.bad ++ f.behind))))

more_some : (b c : ℕ) (s : Text) (f : PartFault (b ∷ c ∷ s)) → T (nonempty (f.front ++ (f.bad ++ f.behind)))
more_some b c s f = let n = simp length-append at (ap length f.joined) in nonempty_by (f.front ++ (f.bad ++ f.behind)) (simp length-append (omega arith))

pub path_cut : (t : Text) → T (begins_with_slash t) → TokensSpelled t → Pathed t
path_cut [] b m = absurd (unfold begins_with_slash in b)
path_cut (c ∷ []) b m = inl ([], subst (λ x. PathSpelled (x ∷ []) []) (sym (eqb-true c 47 (is_true (eqb c 47) (unfold begins_with_slash in b)))) root)
path_cut (c ∷ d ∷ s) b m = ⊎_elim (λ p. inl (p.0, path_of_so c (d ∷ s) p.0 p.1)) (λ f. inr (f, more_some c d s f)) (parted (c ∷ d ∷ s) (sliced (c ∷ d ∷ s) m b))
