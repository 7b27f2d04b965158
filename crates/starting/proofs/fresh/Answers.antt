-- `starting::fresh` meets its contract. Assumes nothing.
use Rattle.std.proofs.Common.{◌≡◌, length, replicate, arith}
use Rattle.std.proofs.lemmas.Grind.{common_steps}
use Rattle.starting.proofs.Starting.{fresh_made}
use Rattle.starting.proofs.fresh.Goals as goal

pub returns : goal.returns
returns c =
    let s : c.fill.new.self ≡ replicate (length c.args.slots.now) 0 = grind (arith, common_steps) in
    let v : c.fill-2.new.self ≡ replicate (length c.args.counters.now) 0 = grind (arith, common_steps) in
    let i : c.fill-3.new.self ≡ replicate (length c.args.items.now) 0 = grind (arith, common_steps) in
    search fresh_made
