use Rattle.std.proofs.Common.{◌≡◌, [], length, None, Some, refl, sym, ap, ◌∙◌, slice_get}
use Rattle.std.proofs.lemmas.Bool.{ltb-true, ltb-false}
use Rattle.std.proofs.lemmas.Option.{slice_get-map, slice_get_past, slice_get_read}
use Rattle.std.specs.Option.{option_map}
use Rattle.rules.specs.Rules.{allows, verdict, parts_in, ruled_from, view_rules}
use Rattle.proxy.specs.Model.{rules_in, rules_of}
use Rattle.proxy.specs.Stands.{servers_of}
use Rattle.proxy.proofs.state.Proxy.allows.Goals as goal

pub returns-in-Some : goal.returns-in-Some
returns-in-Some c =
    let all = c.args.self.now.rules.now in
    let l = c.in-Some.ensures.lookup in
    let at : slice_get all c.args.server ≡ Some c.in-Some.rules.now = slice_get_read all (length all) c.args.server c.in-Some.rules.now refl (ltb-true c.args.server (length all) (sym l.0)) l.1 in
    let there : rules_of (servers_of c.args.self.now) c.args.server ≡ view_rules c.in-Some.rules.now.now =
    ap rules_in (slice_get-map (λ us. view_rules us.now) all c.args.server ∙ ap (option_map (λ us. view_rules us.now)) at) in
    c.allows.ensures ∙ ap allows c.judge.ensures ∙ sym (ap (λ us. verdict us c.args.request.now.method.now (parts_in c.args.request.now.target.now)) there)

pub returns-in-None : goal.returns-in-None
unfolding ruled_from
returns-in-None c =
    let all = c.args.self.now.rules.now in
    let l = c.in-None.ensures.lookup in
    let at : slice_get all c.args.server ≡ None = slice_get_past all c.args.server (ltb-false c.args.server (length all) (sym l.0)) in
    let there : rules_of (servers_of c.args.self.now) c.args.server ≡ [] = ap rules_in (slice_get-map (λ us. view_rules us.now) all c.args.server ∙ ap (option_map (λ us. view_rules us.now)) at) in
    sym (ap (λ us. verdict us c.args.request.now.method.now (parts_in c.args.request.now.target.now)) there)
