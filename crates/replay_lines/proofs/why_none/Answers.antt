-- `replay_lines::why_none` meets its contract: the furthest of the rows behind, or one ahead. Assumes nothing.
use Rattle.replay_lines.proofs.Reasons.{compare_more, compare_end}
use Rattle.replay_lines.proofs.why_none.Goals as goal

pub loop-row-preserved : goal.loop-row-preserved
loop-row-preserved c = compare_more c.loop-row.invariant _ c.in-Some.ensures.steps c.part_from.ensures c.further-best.ensures

pub returns : goal.returns
returns c = compare_end c.loop-row.invariant c.in-None.ensures.steps.0
