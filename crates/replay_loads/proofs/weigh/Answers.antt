-- `replay_loads::weigh` meets its contract: what is left to be weighed comes to the weight. Assumes nothing.
use Rattle.std.proofs.Common.{ap, arith, length}
use Rattle.replay_loads.proofs.Loads.{weigh_first, weigh_end, weigh_bad, weigh_more}
use Rattle.replay_loads.proofs.weigh.Goals as goal

pub loop-word-init : goal.loop-word-init
loop-word-init c = rw c.into_iter-word-iterator.ensures.into_iter_gives (weigh_first c.args.line.0.now c.args.top)

pub overflow_add-count : goal.overflow_add-count
overflow_add-count c = omega (arith, c.loop-word.invariant.few, ap length c.in-Some.ensures.steps)

pub loop-word-preserved : goal.loop-word-preserved
loop-word-preserved c = weigh_more c.loop-word.invariant _ c.in-Some.ensures.steps c.in-Some-number_of.ensures

pub returns-in-None-number_of : goal.returns-in-None-number_of
returns-in-None-number_of c = weigh_bad c.loop-word.invariant _ c.in-Some.ensures.steps c.instead.result c.in-None-number_of.ensures c.instead.ensures

pub returns : goal.returns
returns c = weigh_end c.loop-word.invariant c.in-None.ensures.steps.0
