-- `ageing::left_of` meets its contract. Assumes nothing.
use Rattle.std.proofs.Common.{arith}
use Rattle.ageing.proofs.Judging.{left_near, left_far}
use Rattle.ageing.proofs.left_of.Goals as goal

pub returns-then-age-limit : goal.returns-then-age-limit
returns-then-age-limit c = let a = c.args in left_near a.limit a.age c.requires (omega (arith, c.if-age-limit.true))

pub returns : goal.returns
returns c = search left_far
