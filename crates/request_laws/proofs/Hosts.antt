-- The server of a head whose `host` is as the grammar says is found.
use Rattle.std.proofs.Common.{◌≡◌, ℕ, ◌+◌, not, T, List, [], ◌∷◌, ◌++◌, map, length, Some, None, Ok, codes, Option, sym, refl, ap, ◌∙◌, subst, arith}
use Rattle.std.specs.List.{AllByRecursion}
use Rattle.text.specs.Bytes.{Text, same_no_case}
use Rattle.text.proofs.Passing.{is_true, is_false}
use Rattle.message.specs.Faults.{onward}
use Rattle.message.specs.Hops.{field_of}
use Rattle.message.specs.Sent.{Sent}
use Rattle.request.specs.Hosts.{is_host, host_among, server_from, at_server, chosen, server_of}
use Rattle.request_laws.specs.Faults.{AsFields, OnlySent, IsHost}
use Rattle.request_laws.specs.Lines.{Named, Hostless, HostSpelled}
use Rattle.request_laws.proofs.SentAmong.{only_sent}

-- fields that are no `host`, before others and alone
pub host_past : (o : Option Sent) (fs gs : List Sent) → AllByRecursion Hostless (map field_of fs) → host_among o (fs ++ gs) ≡ host_among o gs
unfolding host_among
host_past o [] gs h = refl
host_past o (f ∷ fs) gs h = rw (is_false (is_host f) h.0) (host_past o fs gs h.1)

pub host_none : (o : Option Sent) (fs : List Sent) → AllByRecursion Hostless (map field_of fs) → host_among o fs ≡ Ok o
unfolding host_among
host_none o [] h = refl
host_none o (f ∷ fs) h = rw (is_false (is_host f) h.0) (host_none o fs h.1)

pub host_one : (f : Sent) (fs : List Sent) → Named (codes "host") (field_of f) → AllByRecursion Hostless (map field_of fs) → host_among None (f ∷ fs) ≡ Ok (Some f)
unfolding host_among
host_one f fs n h = rw (is_true (is_host f) n) (host_none (Some f) fs h)

server_past : (k : ℕ) (name here : Text) (earlier later : List Text) → AllByRecursion (λ t. T (not (same_no_case t name))) earlier → T (same_no_case here name) → server_from k name (earlier ++ (here ∷ later)) ≡ Some (k + length earlier)
unfolding server_from
server_past k name here [] later h s = rw (is_true (same_no_case here name) s) (ap Some (omega arith))
server_past k name here (t ∷ ts) later h s = rw (is_false (same_no_case t name) h.0) (server_past (k + 1) name here ts later h.1 s ∙ ap Some (omega arith))

-- the only `host` is found
pub host_found : (fs : List Sent) (f : Sent) → OnlySent Hostless fs f → IsHost f → host_among None fs ≡ Ok (Some f)
host_found fs f o n = ap (host_among None) o.joined ∙ host_past None o.before (f ∷ o.behind) o.others.0 ∙ host_one f o.behind n o.others.1

-- and so is the server that it names
pub host_spelled : (names : List Text) (end : ℕ) (fs : List Sent) (k : ℕ) → HostSpelled names (AsFields fs) k → server_of names end fs ≡ Ok k
host_spelled names end fs k s =
    let o = only_sent Hostless fs s.host s.only in
    let named : IsHost o.0 = subst (Named (codes "host")) (sym o.2) s.named in
    let server : server_from 0 o.0.value names ≡ Some k =
    ap (λ f. server_from 0 f.value names) o.2 ∙ ap (server_from 0 s.host.value) s.joined ∙ server_past 0 s.host.value s.name s.earlier s.later s.others s.same ∙ ap Some (omega (arith, s.count))
    in
    ap (λ r. onward r (chosen names end)) (host_found fs o.0 o.1 named) ∙ ap (λ n. at_server n o.0.value_at) server
