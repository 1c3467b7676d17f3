-- The whole promise, put together.
use Rattle.std.proofs.Common.{◌≡◌, Bool, true, false, T, ◌&&◌, List, [], ◌∷◌, sym, ap, ◌∙◌}
use Rattle.std.specs.List.{Contains}
use Rattle.request.specs.Canonical.{Req, canonical, all_canonical}
use Rattle.rules.specs.Rules.{Rule, allows, ruled_from, verdict, parts_in}
use Rattle.rules_laws.specs.Views.{View, FairView, good_rules}
use Rattle.rules_laws.proofs.Alike.{ruled_alike}
use Rattle.reader.proofs.Moments.{reads_so}
use Rattle.connection_laws.specs.Laws.{requests_of}
use Rattle.connection_laws.specs.Promise.{LetPass, Main}
use Rattle.connection_laws.proofs.Early.{nobody_early}
use Rattle.connection_laws.proofs.Lost.{nothing_is_lost}
use Rattle.connection_laws.proofs.Ordered.{only_owners, everyone_served, contains_first, contains_behind}
use Rattle.connection_laws.proofs.Served.{to_owner}

both : (a b : Bool) → T a → T b → T (a && b)
both true b p q = q
both false b p q = absurd p

all_from : (qs : List Req) → ((q : Req) → Contains qs q → T (canonical q)) → T (all_canonical qs)
unfolding all_canonical
all_from [] f = tt
all_from (q ∷ qs) f = both (canonical q) (all_canonical qs) (f q (contains_first q qs)) (all_from qs (λ x m. f x (contains_behind q qs x m)))

allowed_seen : (us : List Rule) → T (good_rules us) → (v : View) → FairView v → (q : Req) → LetPass us q → verdict us q.method (v.see q.target) ≡ true
allowed_seen us g v f q l =
    let p = l.1 in
    let same : ruled_from 0 us q.method (v.see q.target) ≡ ruled_from 0 us q.method (parts_in q.target) =
    ap (λ t. ruled_from 0 us q.method (v.see t)) p.2 ∙ ruled_alike v f us g q.method p.0 p.1 ∙ ap (λ t. ruled_from 0 us q.method (parts_in t)) (sym p.2) in
    ap allows same ∙ l.2

pub main : Main
main e st vs c l us g r fr v fv pass = record {
  read = reads_so r fr (requests_of c) (all_from (requests_of c) (λ q m. (pass q m).0));
  allowed = λ q m. allowed_seen us g v fv q (pass q m);
  served = λ ts h. to_owner e st vs c l ts h;
  in_turn = (only_owners e st vs c l).0;
  of_owners = (only_owners e st vs c l).1;
  timely = nobody_early e st vs c l;
  everyone = everyone_served e st vs c l;
  nothing_lost = nothing_is_lost e st vs c l;
}
