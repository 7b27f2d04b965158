-- `replay_lines::part_from` meets its contract: the words agree up to here. Assumes nothing.
use Rattle.std.proofs.Common.{ap, arith, length, refl}
use Rattle.replay_lines.proofs.Reasons.{along_first, along_both_end, along_row_end, along_line_end, along_stop, along_on}
use Rattle.replay_lines.proofs.part_from.Goals as goal

pub loop-wanted-init : goal.loop-wanted-init
loop-wanted-init c = rw c.into_iter-wanted-iterator.ensures.into_iter_gives (along_first c.args.row.now c.args.line.now)

pub returns-in_default : goal.returns-in_default
returns-in_default c = along_line_end c.loop-wanted.invariant _ c.in-Some.ensures.steps _ c.in_default.ensures.steps.0 refl

pub returns-then-not-takes : goal.returns-then-not-takes
returns-then-not-takes c =
    along_stop c.loop-wanted.invariant _ c.in-Some.ensures.steps _ c.in-Some-next.ensures.steps c.takes.ensures _ c.if-not-takes.true c.bound_of.ensures c.instead.ensures

pub overflow_add-far : goal.overflow_add-far
overflow_add-far c = omega (arith, c.loop-wanted.invariant.few, ap length c.in-Some.ensures.steps)

pub loop-wanted-preserved : goal.loop-wanted-preserved
loop-wanted-preserved c = along_on c.loop-wanted.invariant _ c.in-Some.ensures.steps _ c.in-Some-next.ensures.steps c.takes.ensures c.if-not-takes.false

pub returns-in-Some-next-2 : goal.returns-in-Some-next-2
returns-in-Some-next-2 c =
    along_row_end c.loop-wanted.invariant _ c.in-None.ensures.steps.0 c.in-Some-next-2.ensures.steps c.behind-why.ensures

pub returns-in-None-next : goal.returns-in-None-next
returns-in-None-next c = along_both_end c.loop-wanted.invariant _ c.in-None.ensures.steps.0 c.in-None-next.ensures.steps.0 refl
