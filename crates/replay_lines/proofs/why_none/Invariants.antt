use Rattle.replay_lines.proofs.Reasons.{Comparing}
use Rattle.replay_lines.proofs.why_none.Given as goal

abbrev pub invariant-loop-row : goal.invariant-loop-row
invariant-loop-row l = Comparing l.rows l.line l.row-iterator.0.now l.best
