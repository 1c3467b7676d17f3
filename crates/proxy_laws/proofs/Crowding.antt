-- Where a connection that is up has no room, as many requests wait at its server as may, or as many went out.
use Rattle.std.proofs.Common.{◌≡◌, ℕ, suc, ◌+◌, Bool, true, false, cond, ◌&&◌, ◌⊎◌, List, [], ◌∷◌, ◌++◌, map, length, inl, inr, refl, ap, ◌∙◌, ⊎_elim, length-append, arith}
use Rattle.std.specs.Prelude.{nat_lt}
use Rattle.std.proofs.lemmas.Bool.{ltb-false}
use Rattle.connection.specs.Model.{Conn, Given, Sent, has_room, owner_limit, sent_limit}
use Rattle.connection_laws.specs.Laws.{owners_from, owners_of, answered}
use Rattle.connection_laws.proofs.Ordered.{everyone_served}
use Rattle.response_laws.specs.Ear.{ear}
use Rattle.response_laws.proofs.Steadily.{steady_ear}
use Rattle.proxy.specs.Model.{Servers, Doing}
use Rattle.proxy_laws.specs.Servers.{got_of}
use Rattle.proxy_laws.specs.Traces.{Entry, asked_of, got_from, lasts, Crowded}
use Rattle.proxy_laws.proofs.AtServer.{AtServer}

one_false : (a b : Bool) → (a && b) ≡ false → (a ≡ false) ⊎ (b ≡ false)
one_false true b e = inr e
one_false false b e = inl refl

-- each request that went out has an owner
owners_long : (k : ℕ) (xs : List Sent) → length (owners_from k xs) ≡ length xs
unfolding owners_from
owners_long k [] = refl
owners_long k (x ∷ xs) = ap suc (owners_long (suc k) xs)

-- and each last response is one's
last_long : (b : Bool) (x : Given) (gs : List Given) (n : length (lasts (map got_of gs)) ≡ length (answered gs)) →
    length (cond b (got_of x ∷ lasts (map got_of gs)) (lasts (map got_of gs))) ≡ length (cond b (x.to ∷ answered gs) (answered gs))
last_long true x gs n = ap suc n
last_long false x gs n = n

lasts_long : (gs : List Given) → length (lasts (map got_of gs)) ≡ length (answered gs)
unfolding lasts answered
lasts_long [] = refl
lasts_long (x ∷ gs) = last_long x.response.last x gs (lasts_long gs)

module _ (servers : Servers) (es : List Entry) (doing : Doing) (k : ℕ) (c : Conn) (h : AtServer servers es doing k c) (u : c.up ≡ true) where
  -- all whose requests went out have had a last response, or wait
  waits_long : length (lasts (got_from k es)) + length c.waiting ≡ length (asked_of k es)
  waits_long =
      let e = everyone_served ear steady_ear h.vs c h.led in
      let all : owners_of c ≡ answered c.given ++ c.waiting = e.one_of_three ∙ ap (λ os. answered c.given ++ (os ++ c.waiting)) (e.up_tells_none u) in
      omega (arith, owners_long 0 c.sent, ap length all, length-append (answered c.given) c.waiting, lasts_long c.given, ap (λ gs. length (lasts gs)) h.given, ap length h.asked)

  pub crowded_at : has_room c ≡ false → Crowded k es
  crowded_at e = ⊎_elim
      (λ full. inl (omega (arith, waits_long, ltb-false (length c.waiting) owner_limit full)))
      (λ many. inr (omega (arith, ap length h.asked, ltb-false (length c.sent) sent_limit many)))
      (one_false (nat_lt (length c.waiting) owner_limit) (nat_lt (length c.sent) sent_limit) e)
