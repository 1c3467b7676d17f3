-- The server that a head asks for, or what is wrong with its `host`, is what the grammar says.
use Rattle.std.proofs.Common.{◌≡◌, ℕ, ◌+◌, ◌-◌, not, T, List, [], ◌∷◌, ◌++◌, length, Some, None, Ok, Err, Option, MatchOption, Result, refl, ap, ◌∙◌, arith}
use Rattle.std.specs.Result as results
use Rattle.std.specs.List.{AllByRecursion}
use Rattle.std.proofs.lemmas.Result.{MatchResult-weaker, MatchResult-at_ok, MatchResult-at_err}
use Rattle.std.proofs.lemmas.Bool.{cond_both}
use Rattle.text.specs.Bytes.{Text, same_no_case}
use Rattle.text.proofs.Passing.{is_true, is_false}
use Rattle.message.specs.Faults.{flaw, onward}
use Rattle.message.specs.Hops.{field_of}
use Rattle.message.specs.Sent.{Sent}
use Rattle.message.specs.declared.fault.Fault.TheVariants.{Host}
use Rattle.message.specs.declared.fault.Flaw.{Flaw}
use Rattle.request.specs.Hosts.{is_host, host_among, server_from, at_server, chosen, server_of}
use Rattle.request_laws.specs.Faults.{AsFields, Twice, FirstOther, OnlySent, IsHost, HostFault, none, second, unknown}
use Rattle.request_laws.specs.Lines.{Hostless, HostSpelled}
use Rattle.request_laws.proofs.Hosts.{host_past, host_none, host_found}
use Rattle.request_laws.proofs.SentAmong.{other_here, other_later, twice_here, twice_later, sent_here, sent_later, only_field}

-- what it means that this `host` was found among fields, or that there is a second one
abbrev HostIn : List Sent → Option Sent → Type 0
HostIn fs None = AllByRecursion Hostless (AsFields fs)
HostIn fs (Some g) = OnlySent Hostless fs g × IsHost g

abbrev SecondIn : List Sent → Flaw → Type 0
SecondIn fs v = (f g : Sent) × Twice Hostless fs f g × IsHost f × IsHost g × (v ≡ flaw Host g.at)

host_later : (f : Sent) (fs : List Sent) → Hostless (field_of f) → (o : Option Sent) → HostIn fs o → HostIn (f ∷ fs) o
host_later f fs u None h = (u, h)
host_later f fs u (Some g) h = (sent_later Hostless f g fs u h.0, h.1)

-- the same after one was found
abbrev StillIn : Sent → List Sent → Option Sent → Type 0
StillIn g fs o = (o ≡ Some g) × AllByRecursion Hostless (AsFields fs)

abbrev OtherIn : List Sent → Flaw → Type 0
OtherIn fs v = (f : Sent) × FirstOther Hostless fs f × IsHost f × (v ≡ flaw Host f.at)

still : (g : Sent) (fs : List Sent) → results.MatchResult (host_among (Some g) fs) (StillIn g fs) (OtherIn fs)
unfolding host_among
still g [] = (refl, tt)
still g (f ∷ fs) =
    let P : Result (Option Sent) Flaw → Type 0 = λ r. results.MatchResult r (StillIn g (f ∷ fs)) (OtherIn (f ∷ fs)) in
    cond_both (is_host f) _ _ P (λ e. (f, other_here Hostless f fs, rw e tt, refl))
    (λ e. MatchResult-weaker (host_among (Some g) fs) (still g fs) (λ o k. (k.0, (rw e tt, k.1))) (λ v k. (k.0, other_later Hostless f k.0 fs (rw e tt) k.1, k.2, k.3)))

host_in : (fs : List Sent) → results.MatchResult (host_among None fs) (HostIn fs) (SecondIn fs)
unfolding host_among
host_in [] = tt
host_in (f ∷ fs) =
    let P : Result (Option Sent) Flaw → Type 0 = λ r. results.MatchResult r (HostIn (f ∷ fs)) (SecondIn (f ∷ fs)) in
    cond_both (is_host f) _ _ P
    (λ e. MatchResult-weaker (host_among (Some f) fs) (still f fs) (λ o k. rw k.0 (sent_here Hostless f fs k.1, rw e tt)) (λ v k. (f, k.0, twice_here Hostless f k.0 fs k.1, rw e tt, k.2, k.3)))
    (λ e. MatchResult-weaker (host_among None fs) (host_in fs) (host_later f fs (rw e tt)) (λ v k. (k.0, k.1, twice_later Hostless f k.0 k.1 fs (rw e tt) k.2, k.3, k.4, k.5)))

abbrev Unknown : Text → List Text → Type 0
Unknown name names = AllByRecursion (λ n. T (not (same_no_case n name))) names

-- the first of the names that is this one, counted from k on
record First (k : ℕ) (name : Text) (names : List Text) (n : ℕ) : Type 0 where
  earlier : List Text
  here : Text
  later : List Text
  others : AllByRecursion (λ t. T (not (same_no_case t name))) earlier
  same : T (same_no_case here name)
  joined : names ≡ earlier ++ (here ∷ later)
  count : k + length earlier ≡ n

named_later : (k : ℕ) (name t : Text) (ts : List Text) → T (not (same_no_case t name)) → (o : Option ℕ) → MatchOption o (Unknown name ts) (First (k + 1) name ts) → MatchOption o (Unknown name (t ∷ ts)) (First k name (t ∷ ts))
named_later k name t ts h None u = (h, u)
named_later k name t ts h (Some n) c = record { earlier = t ∷ c.earlier; here = c.here; later = c.later; others = (h, c.others); same = c.same; joined = ap (λ u. t ∷ u) c.joined; count = omega (arith, c.count) }

-- the server of that name, or no server has it
named_in : (k : ℕ) (name : Text) (names : List Text) → MatchOption (server_from k name names) (Unknown name names) (First k name names)
unfolding server_from
named_in k name [] = tt
named_in k name (t ∷ ts) =
    cond_both (same_no_case t name) _ _ (λ o. MatchOption o (Unknown name (t ∷ ts)) (First k name (t ∷ ts)))
    (λ e. record { earlier = []; here = t; later = ts; others = tt; same = rw e tt; joined = refl; count = omega arith })
    (λ e. named_later k name t ts (rw e tt) (server_from (k + 1) name ts) (named_in (k + 1) name ts))

unknown_from : (k : ℕ) (name : Text) (names : List Text) → Unknown name names → server_from k name names ≡ None
unfolding server_from
unknown_from k name [] h = refl
unknown_from k name (t ∷ ts) h = rw (is_false (same_no_case t name) h.0) (unknown_from (k + 1) name ts h.1)

module _ (names : List Text) (fs : List Sent) (len : ℕ) where
  -- what it means that this server was found, or that this is wrong
  abbrev Served : Result ℕ Flaw → Type 0
  Served r = results.MatchResult r (HostSpelled names (AsFields fs)) (HostFault names fs len)

  at_server_so : (g : Sent) → HostIn fs (Some g) → (o : Option ℕ) → MatchOption o (Unknown g.value names) (First 0 g.value names) → Served (at_server o g.value_at)
  at_server_so g h None u = unknown g h.0 h.1 u
  at_server_so g h (Some k) c =
      record { host = field_of g; only = only_field Hostless fs g h.0; named = h.1; earlier = c.earlier; name = c.here; later = c.later; others = c.others; same = c.same; joined = c.joined; count = omega (arith, c.count) }

  choose : (o : Option Sent) → HostIn fs o → Served (chosen names (len - 2) o)
  choose None h = none h
  choose (Some g) h = at_server_so g h (server_from 0 g.value names) (named_in 0 g.value names)

  go : (r : Result (Option Sent) Flaw) → results.MatchResult r (HostIn fs) (SecondIn fs) → Served (onward r (chosen names (len - 2)))
  go (Ok o) h = choose o h
  go (Err v) h = rw h.5 (second h.0 h.1 h.2 h.3 h.4)

  served : Served (server_of names (len - 2) fs)
  served = go (host_among None fs) (host_in fs)

  -- the server that is found is the one that the only `host` names
  pub host_read : (k : ℕ) → server_of names (len - 2) fs ≡ Ok k → HostSpelled names (AsFields fs) k
  host_read k e = MatchResult-at_ok (HostSpelled names (AsFields fs)) (HostFault names fs len) k e served

  pub host_wrong : (v : Flaw) → server_of names (len - 2) fs ≡ Err v → HostFault names fs len v
  host_wrong v e = MatchResult-at_err (HostSpelled names (AsFields fs)) (HostFault names fs len) v e served

-- two `host`s, and what is found of them
second_found : (f g : Sent) (between behind : List Sent) → AllByRecursion Hostless (AsFields between) → IsHost f → IsHost g → host_among None (f ∷ (between ++ (g ∷ behind))) ≡ Err (flaw Host g.at)
unfolding host_among
second_found f g between behind h i j = rw (is_true (is_host f) i) (host_past (Some f) between (g ∷ behind) h ∙ rw (is_true (is_host g) j))

-- each such fault is found
pub host_refused : (names : List Text) (fs : List Sent) (len : ℕ) (v : Flaw) → HostFault names fs len v → server_of names (len - 2) fs ≡ Err v
host_refused names fs len v (none h) = ap (λ r. onward r (chosen names (len - 2))) (host_none None fs h)
host_refused names fs len v (second f g two i j) =
    ap (λ r. onward r (chosen names (len - 2)))
    (ap (host_among None) two.joined ∙ host_past None two.before _ two.others.0 ∙ second_found f g two.between two.behind two.others.1 i j)
host_refused names fs len v (unknown f one i u) =
    ap (λ r. onward r (chosen names (len - 2))) (host_found fs f one i)
    ∙ ap (λ o. at_server o f.value_at) (unknown_from 0 f.value names u)
