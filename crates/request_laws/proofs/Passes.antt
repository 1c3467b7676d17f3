-- What a text means is canonical, its target is that of a good place, and its server is one of those there are.
use Rattle.std.proofs.Common.{◌≡◌, ℕ, ◌+◌, ◌<◌, T, List, ◌∷◌, length, sym, ap, subst, arith, le→leb, lt→ltb}
use Rattle.std.proofs.lemmas.List.{length-append}
use Rattle.text.specs.Bytes.{Text}
use Rattle.text.proofs.Passing.{and_i}
use Rattle.message.specs.Fields.{Field, canonical_fields, lines_of}
use Rattle.request.specs.Canonical.{Req, canonical, body_limit, head_limit, field_limit, canonical_target, one_host, head_lines, sent_fields}
use Rattle.request.specs.Places.{Place, good_place, target_of}
use Rattle.request_laws.specs.Lines.{HostSpelled}
use Rattle.request_laws.specs.Grammar.{Spelled}
use Rattle.request_laws.proofs.Targets.{target_good, place_visible}
use Rattle.request_laws.proofs.Fits.{lines_fit}
use Rattle.request_laws.proofs.KeptAgain.{kept_canonical, kept_one_host}
use Rattle.request_laws.proofs.SentAgain.{sent_few, body_none}

server_there : (names : List Text) (fs : List Field) (k : ℕ) → HostSpelled names fs k → k < length names
server_there names fs k s = omega (arith, s.count, ap length s.joined, length-append s.earlier (s.name ∷ s.later))

pub spelled_passes : (names : List Text) (t : Text) (k : ℕ) (q : Req) → Spelled names t k q → T (canonical q) × ((p : Place) × T (good_place p) × (q.target ≡ target_of p)) × (k < length names)
spelled_passes names t k q s =
    let fs = s.fields in
    let host = s.host_good in
    let place = (target_good s.target s.place s.target_good).0 in
    let target : T (canonical_target q.target) = subst (λ u. T (canonical_target u)) (sym s.target_is) (place_visible s.place place) in
    let fields : T (canonical_fields q.fields) = subst (λ gs. T (canonical_fields gs)) (sym s.kept) (kept_canonical fs fs (lines_fit s.lines fs s.lines_good)) in
    let one : T (one_host q.fields) = subst (λ gs. T (one_host gs)) (sym s.kept) (kept_one_host fs host.host host.only host.named) in
    let few = le→leb (length (sent_fields q)) field_limit (sent_few q fs s.after 64 s.kept s.body_good s.few) in
    let head = le→leb (length (lines_of (head_lines q)) + 2) head_limit s.head_short in
    let short = lt→ltb (length q.body) body_limit s.body_short in
    let none = body_none q.method fs s.after q.body s.body_good in
    (search (and_i, s.method_good) depth 9, (s.place, place, s.target_is), server_there names fs k host)
