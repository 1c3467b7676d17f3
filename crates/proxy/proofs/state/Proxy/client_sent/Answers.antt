use Rattle.std.proofs.Common.{◌≡◌, ◌<◌, Bool, cond, [], ◌∷◌, ◌++◌, Ok, Err, length, sym, ap, ◌∙◌, arith}
use Rattle.std.proofs.lemmas.Bool.{lt-ltb}
use Rattle.std.proofs.lemmas.Grind.{common_steps}
use Rattle.proxy.specs.Calls.{sent_answer}
use Rattle.proxy.specs.declared.state.Misuse.TheVariants.{Nobody}
use Rattle.proxy.proofs.Events.{at_rest, no_turn, sent_stands}
use Rattle.proxy.proofs.state.Proxy.client_sent.Goals as goal

pub returns : goal.returns
returns c =
    let p = c.args.self.now in
    let rests = sym c.rests.ensures ∙ c.if-not-rests.false in
    let empty : p.line.items ≡ [] = (at_rest p rests).1 in
    let room : length p.line.items < 64 = let e = ap length empty in omega arith in
    let pushed : c.try_push.new.self.items ≡ p.line.items ++ c.args.client ∷ [] = grind (arith, common_steps, c.try_push.ensures.variant, c.try_push.ensures.ok) in
    let line : c.try_push.new.self.items ≡ c.args.client ∷ [] = pushed ∙ ap (λ l. l ++ c.args.client ∷ []) empty in (
      ap (λ b. sent_answer b c.args.client) rests ∙ ap (λ (b : Bool). cond b (Ok tt) (Err Nobody)) (lt-ltb c.args.client 16 c.if-client-ge16.false),
      λ servers memory g s. (no_turn servers p memory g s empty, λ bytes. sent_stands servers p memory g c.args.client c.try_push.new.self bytes s line),
    )
