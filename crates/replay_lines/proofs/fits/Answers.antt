-- `replay_lines::fits` meets its contract: what is left to be read comes to the numbers. Assumes nothing.
use Rattle.std.proofs.Common.{ap, arith, length}
use Rattle.replay_lines.proofs.Fitting.{read_first, read_over, read_short, read_unfit, read_word, read_number}
use Rattle.replay_lines.proofs.fits.Goals as goal

pub loop-wanted-init : goal.loop-wanted-init
loop-wanted-init c = rw c.into_iter-wanted-iterator.ensures.into_iter_gives (read_first c.args.row.now c.args.line.now c.args.numbers.now)

pub returns-in_default : goal.returns-in_default
returns-in_default c = read_short c.loop-wanted.invariant _ c.in-Some.ensures.steps c.in_default.ensures.steps.0

pub returns-in-No : goal.returns-in-No
returns-in-No c = read_unfit c.loop-wanted.invariant _ c.in-Some.ensures.steps _ c.in-Some-next.ensures.steps c.in-No.ensures

pub loop-wanted-preserved-in-Word : goal.loop-wanted-preserved-in-Word
loop-wanted-preserved-in-Word c = read_word c.loop-wanted.invariant _ c.in-Some.ensures.steps _ c.in-Some-next.ensures.steps c.in-Word.ensures

pub overflow_add-count : goal.overflow_add-count
overflow_add-count c = omega (arith, c.loop-wanted.invariant.few, ap length c.in-Some.ensures.steps)

pub loop-wanted-preserved : goal.loop-wanted-preserved
loop-wanted-preserved c =
    read_number c.loop-wanted.invariant _ c.in-Some.ensures.steps _ c.in-Some-next.ensures.steps c.in-Number.ensures c.store.ensures

pub returns : goal.returns
returns c = read_over c.loop-wanted.invariant c.in-None.ensures.steps.0 c.next-2.result c.is_none.result _ c.next-2.ensures.steps c.is_none.ensures
