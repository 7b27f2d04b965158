use Rattle.replay_lines.proofs.Rows.{Trying}
use Rattle.replay_lines.proofs.row_in.Given as goal

abbrev pub invariant-loop-row : goal.invariant-loop-row
invariant-loop-row l =
    goal.iterator-loop-row.can_next l.row-iterator × goal.iterator-loop-row.is_finite l.row-iterator
    × Trying l.rows l.line l.row-iterator.iter.0.now l.row-iterator.count
