-- Feeding in pieces finds what reading all at once finds: induction over the pieces.
use Rattle.std.proofs.Common.{◌≡◌, ℕ, ◌+◌, ◌^◌, ◌<◌, true, List, [], ◌∷◌, ◌++◌, length, drop, Ok, Err, Result, sym, refl, ap, ap₂, ◌∙◌, subst, append_assoc, add_assoc, zero-add, append-nil, length-append, arith}
use Rattle.std.specs.List.{AllByRecursion, concat}
use Rattle.std.proofs.lemmas.List.{length-drop}
use Rattle.std.proofs.lemmas.Bool.{cond-true}
use Rattle.text.specs.Bytes.{Text}
use Rattle.message.specs.declared.fault.Unfit.{Unfit}
use Rattle.request.specs.Reading.{memory_size}
use Rattle.response.specs.Reading.{After, after, further, step, fits_in, fed_by}
use Rattle.response.specs.declared.reading.Reading.{Reading}
use Rattle.response.specs.declared.reading.Reading.TheVariants.{InHead, InBody, Whole, Unreadable}
use Rattle.connection.specs.Model.{more, unreadable, whole}
use Rattle.response_laws.specs.Ear.{ear}
use Rattle.response_laws.specs.Feeding.{taking, on_fed, feeding, Going, Finds, ResponseCutFree}
use Rattle.response_laws.specs.Held.{Held, Brings}
use Rattle.response_laws.proofs.HeadHeard.{none_held, held_fits, brings, step_size, fits_so}
use Rattle.response_laws.proofs.Steadily.{steady_ear}

-- one call, where the memory fits
feed_one : (m : Text) (r : Reading) (memory p : Text) (ps : List Text) → fits_in (length memory) r ≡ true → feeding m (p ∷ ps) r memory ≡ taking (step m r memory p).taken (feeding m ps (step m r memory p).reading (step m r memory p).memory)
unfolding feeding
feed_one m r memory p ps fits =
    let x = step m r memory p in
    ap₂ (λ f z. on_fed f (λ fed. feeding m ps fed.reading z)) (cond-true (fits_in (length memory) r) (Ok (fed_by x)) (Err record {}) fits) (cond-true (fits_in (length memory) r) x.memory memory fits)

-- nothing more is taken once reading is over
pub Over : Reading → Type 0
Over (InHead n) = ⊥
Over (InBody b) = ⊥
Over (Whole head end) = Unit {0}
Over Unreadable = Unit {0}

over_fits : (r : Reading) (memory : Text) → Over r → length memory ≡ memory_size → fits_in (length memory) r ≡ true
unfolding Over
over_fits (InHead n) memory o size = absurd o
over_fits (InBody b) memory o size = absurd o
over_fits (Whole head end) memory o size = fits_so (length memory) (Whole head end) size refl
over_fits Unreadable memory o size = fits_so (length memory) Unreadable size refl

over_step : (m : Text) (r : Reading) (memory p : Text) → Over r → step m r memory p ≡ after r 0 memory
unfolding Over
over_step m (InHead n) memory p o = absurd o
over_step m (InBody b) memory p o = absurd o
over_step m (Whole head end) memory p o = refl
over_step m Unreadable memory p o = refl

rests_on : (m : Text) (r : Reading) (memory : Text) (ps : List Text) → Over r → length memory ≡ memory_size → feeding m ps r memory ≡ Ok (after r 0 memory)
unfolding feeding
rests_on m r memory [] o size = refl
rests_on m r memory (p ∷ ps) o size =
    feed_one m r memory p ps (over_fits r memory o size) ∙ ap (λ x. taking x.taken (feeding m ps x.reading x.memory)) (over_step m r memory p o) ∙ ap (taking 0) (rests_on m r memory ps o size)

abbrev Feeds : Text → Text → ℕ → Result After Unfit → Type 0
Feeds m s n x = (a : After) × (x ≡ Ok a) × Finds s (further n a) (ear m s)

-- a piece, and then those behind it
goes : (m s : Text) (n k : ℕ) (x y : Result After Unfit) → x ≡ taking k y → Feeds m s (n + k) y → Feeds m s n x
goes m s n k x (Ok a) e (b, is, f) =
    let same : a ≡ b = cc in
    (further k a, e, subst (λ i. Finds s (after a.reading i a.memory) (ear m s)) (add_assoc n k a.taken) (subst (λ (c : After). Finds s (further (n + k) c) (ear m s)) (sym same) f))
goes m s n k x (Err u) e (b, is, f) = cc

module _ (m p : Text) (ps : List Text) (part : Text) (n : ℕ) (fill : n ≡ length part) where
  abbrev all_of_it : Text
  all_of_it = part ++ (p ++ concat ps)

  split : all_of_it ≡ (part ++ p) ++ concat ps
  split = sym (append_assoc part p (concat ps))

  -- where reading is over with this piece
  over_with : (a : After) (r : Reading) → a.reading ≡ r → length a.memory ≡ memory_size → Brings m part p a r → Over r → Feeds m all_of_it (n + a.taken) (feeding m ps a.reading a.memory)
  unfolding Over
  over_with a (InHead k) e size h o = absurd o
  over_with a (InBody b) e size h o = absurd o
  over_with a (Whole head end) e size h o =
      let found : ear m all_of_it ≡ whole _ (drop a.taken p ++ concat ps) = ap (ear m) split ∙ steady_ear.stays m (part ++ p) (concat ps) _ (drop a.taken p) h.0 in (
        after (Whole head end) 0 a.memory,
        ap (λ r. feeding m ps r a.memory) e ∙ rests_on m (Whole head end) a.memory ps tt size,
        subst (Finds all_of_it (further (n + a.taken) (after (Whole head end) 0 a.memory))) (sym found) ((refl, refl), omega (arith, fill, h.1, length-append (drop a.taken p) (concat ps), length-drop a.taken p, length-append part (p ++ concat ps), length-append p (concat ps))),
      )
  over_with a Unreadable e size h o =
      let found : ear m all_of_it ≡ unreadable = ap (ear m) split ∙ steady_ear.stays_unreadable m (part ++ p) (concat ps) h in (
        after Unreadable 0 a.memory,
        ap (λ r. feeding m ps r a.memory) e ∙ rests_on m Unreadable a.memory ps tt size,
        subst (Finds all_of_it (further (n + a.taken) (after Unreadable 0 a.memory))) (sym found) refl,
      )

going_held : (r : Reading) (memory m part : Text) → Held r memory m part → Going r
going_held (InHead n) memory m part h = tt
going_held (InBody b) memory m part h = tt
going_held (Whole head end) memory m part h = absurd h
going_held Unreadable memory m part h = absurd h

abbrev From : List Text → Type 0
From ps = (m part memory : Text) (n : ℕ) (r : Reading) → length memory ≡ memory_size → n ≡ length part → Held r memory m part → ear m part ≡ more → Feeds m (part ++ concat ps) n (feeding m ps r memory)

module _ (m p : Text) (ps : List Text) (part : Text) (n : ℕ) (fill : n ≡ length part) (from : From ps) where
  next_with : (a : After) (r : Reading) → a.reading ≡ r → length a.memory ≡ memory_size → Brings m part p a r → Feeds m (part ++ (p ++ concat ps)) (n + a.taken) (feeding m ps a.reading a.memory)
  unfolding Over
  next_with a (InHead k) e size h =
      let count : n + a.taken ≡ length (part ++ p) = omega (arith, fill, h.1, length-append part p) in
      subst (λ s. Feeds m s (n + a.taken) (feeding m ps a.reading a.memory)) (append_assoc part p (concat ps)) (from m (part ++ p) a.memory (n + a.taken) a.reading size count (subst (λ r. Held r a.memory m (part ++ p)) (sym e) h.2) h.0)
  next_with a (InBody b) e size h =
      let count : n + a.taken ≡ length (part ++ p) = omega (arith, fill, h.1, length-append part p) in
      subst (λ s. Feeds m s (n + a.taken) (feeding m ps a.reading a.memory)) (append_assoc part p (concat ps)) (from m (part ++ p) a.memory (n + a.taken) a.reading size count (subst (λ r. Held r a.memory m (part ++ p)) (sym e) h.2) h.0)
  next_with a (Whole head end) e size h = over_with m p ps part n fill a (Whole head end) e size h tt
  next_with a Unreadable e size h = over_with m p ps part n fill a Unreadable e size h tt

fed_from : (ps : List Text) → AllByRecursion (λ p. length p < 2 ^ 64) ps → From ps
unfolding feeding
fed_from [] small m part memory n r size fill held wants =
    let all : ear m (part ++ []) ≡ more = ap (ear m) (append-nil part) ∙ wants in
    (after r 0 memory, refl, subst (Finds (part ++ []) (further n (after r 0 memory))) (sym all) (going_held r memory m part held, omega (arith, fill, length-append part [])))
fed_from (p ∷ ps) small m part memory n r size fill held wants =
    let a = step m r memory p in
    goes m (part ++ (p ++ concat ps)) n a.taken (feeding m (p ∷ ps) r memory) (feeding m ps a.reading a.memory)
    (feed_one m r memory p ps (held_fits m memory part p size r held))
    (next_with m p ps part n fill (fed_from ps small.1) a a.reading refl (step_size m memory part p size r small.0 held) (brings m memory part p size r small.0 held))

pub cut_free : ResponseCutFree
cut_free m memory ps size small =
    let (a, is, f) = fed_from ps small m [] memory 0 (InHead 0) size refl (none_held memory m) (steady_ear.silent m) in
    (a, is, subst (λ k. Finds (concat ps) (after a.reading k a.memory) (ear m (concat ps))) (zero-add a.taken) f)
