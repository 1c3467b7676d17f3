-- What one call with all the bytes hands out, in words of the grammar.
use Rattle.std.proofs.Common.{◌≡◌, ℕ, ◌^◌, ◌<◌, leb, List, [], ◌∷◌, length, Ok, Err, Result, sym, refl, ap, ◌∙◌, subst, ap₂, inr, append-nil}
use Rattle.std.proofs.lemmas.Bool.{cond_both, and_parts, eqb-true, leb-false}
use Rattle.text.specs.Bytes.{Text}
use Rattle.message.specs.declared.fault.Unfit.{Unfit}
use Rattle.request.specs.Canonical.{Req, field_limit}
use Rattle.request.specs.Found.{Finding, passed, more, fault, found_in, found_with}
use Rattle.request.specs.Reading.{After, after, memory_size, fits_in, fed_of, held_by}
use Rattle.request.specs.declared.reading.Fed.{Fed}
use Rattle.request.specs.declared.reading.Reading.TheVariants.{InHead}
use Rattle.request_laws.specs.Laws.{joined, on_fed, feeding, finding_of}
use Rattle.request_laws.specs.Once.{Begins, Told, Explained}
use Rattle.request_laws.specs.Outcome.{Outcome, wants, broken, whole, outcome}
use Rattle.request_laws.proofs.Feeding.{cut_free}
use Rattle.request_laws.proofs.FirstFaults.{fault_is_first}
use Rattle.request_laws.proofs.Requests.{read_iff_spelled}

-- only of a whole request is it found that it passes
passed_whole : (o : Outcome) (k : ℕ) (q : Req) → finding_of o ≡ passed k q → (n : ℕ) × (o ≡ whole (passed k q) n)
passed_whole wants k q e = cc
passed_whole (broken w) k q e = cc
passed_whole (whole f n) k q e = (n, ap (λ g. whole g n) e)

-- bytes that begin with a request pass it
begins_passed : (names : List Text) (s : Text) (k : ℕ) (q : Req) → Begins names s k q → finding_of (outcome names s) ≡ passed k q
begins_passed names s k q (t, rest, is, spelled) = ap finding_of ((read_iff_spelled names s k q (length t)).1 (t, rest, is, refl, spelled))

-- what is found when all the bytes are read at once
pub found_told : (names : List Text) (s : Text) (f : Finding) → finding_of (outcome names s) ≡ f → Told names s f
found_told names s (passed k q) e =
    let w = passed_whole (outcome names s) k q e in
    let p = (read_iff_spelled names s k q w.0).0 w.1 in
    (p.0, p.1, p.2, p.4)
found_told names s (fault v) e = (fault_is_first names s v).0 e
found_told names s more e = (
  λ k q b. let p = begins_passed names s k q b in cc,
  λ v f. let p = (fault_is_first names s v).1 f in cc,
)

-- a memory that was not refused has the size that is asked for
fit_memory : (names : List Text) (memory s : Text) (fed : Fed) → fed_of names (InHead 0) memory s ≡ Ok fed → length memory ≡ memory_size
fit_memory names memory s fed =
    cond_both (fits_in (length memory) (InHead 0)) _ _ (λ r. r ≡ Ok fed → length memory ≡ memory_size)
    (λ fits e. eqb-true (length memory) memory_size (and_parts _ _ fits).0)
    (λ _ e. cc)

-- one piece is fed by one call
fed_alone : (names : List Text) (memory s : Text) (fed : Fed) (a : After) → fed_of names (InHead 0) memory s ≡ Ok fed → feeding names (InHead 0) memory (s ∷ []) ≡ Ok a →
    found_in fed.reading (held_by names (InHead 0) memory s) ≡ found_in a.reading a.memory
unfolding feeding
fed_alone names memory s fed a e f =
    let held = held_by names (InHead 0) memory s in
    let g = ap (λ r. on_fed r (λ x. Ok (after x.reading 0 held))) (sym e) ∙ f in
    let r : fed.reading ≡ a.reading = cc in
    let m : held ≡ a.memory = cc in
    ap₂ found_in r m

-- and is all that comes
all_joined : (s : Text) → joined (s ∷ []) ≡ s
unfolding joined
all_joined s = append-nil s

-- so what it finds is what reading all the bytes at once finds
fed_found : (names : List Text) (memory s : Text) (fed : Fed) → length s < 2 ^ 64 → fed_of names (InHead 0) memory s ≡ Ok fed →
    found_in fed.reading (held_by names (InHead 0) memory s) ≡ Ok (finding_of (outcome names s))
fed_found names memory s fed counted e =
    let all = all_joined s in
    let h = cut_free names memory (s ∷ []) (fit_memory names memory s fed e) (subst (λ t. length t < 2 ^ 64) (sym all) counted) in
    fed_alone names memory s fed h.0 e h.1 ∙ h.2 ∙ ap (λ t. Ok (finding_of (outcome names t))) all

-- what is then handed out
told_of : (names : List Text) (s : Text) (size room : ℕ) (r : Result Finding Unfit) → r ≡ Ok (finding_of (outcome names s)) → Explained names size room s r
told_of names s size room (Ok f) e = found_told names s f (cc)
told_of names s size room (Err u) e = cc

-- too little room for the fields
refused_of : (names : List Text) (s : Text) (size room : ℕ) (r : Result Finding Unfit) → room < field_limit → r ≡ Err record {} → Explained names size room s r
refused_of names s size room (Ok f) few e = cc
refused_of names s size room (Err u) few e = inr few

-- the whole call, where the memory was not refused
pub explained : (names : List Text) (memory s : Text) (room : ℕ) (fed : Fed) (r : Result Finding Unfit) → length s < 2 ^ 64 → fed_of names (InHead 0) memory s ≡ Ok fed →
    r ≡ found_with room fed.reading (held_by names (InHead 0) memory s) → Explained names (length memory) room s r
explained names memory s room fed r counted e =
    cond_both (leb field_limit room) _ _ (λ x. r ≡ x → Explained names (length memory) room s r)
    (λ _ h. told_of names s (length memory) room r (h ∙ fed_found names memory s fed counted e))
    (λ less h. refused_of names s (length memory) room r (leb-false field_limit room less) h)
