use Rattle.std.proofs.Common.{◌^◌, ◌<◌, map, length, sym, ap, ◌∙◌, arith}
use Rattle.request.specs.Found.{found_with}
use Rattle.request.specs.Reading.{fed_of, held_by}
use Rattle.request_laws.proofs.Telling.{explained}
use Rattle.request_laws.proofs.once.read_once.Goals as goal

pub returns : goal.returns
returns c =
    let names = map (λ x. x.now) c.args.servers.now in
    let memory = c.args.memory.now in
    let bytes = c.args.bytes.now in
    let fed = c.in_ok-fed.fed in
    let room = length c.args.fields.now in
    let counted : length bytes < 2 ^ 64 = omega arith in
    let start = c.new.ensures in
    let told = ap (λ r. fed_of names r memory bytes) (sym start) ∙ sym c.in_ok-fed.ensures.told in
    let held = c.in_ok-fed.ensures.held ∙ ap (λ r. held_by names r memory bytes) start in
    explained names memory bytes room fed _ counted told (c.found.ensures ∙ ap (found_with room fed.reading) held)
