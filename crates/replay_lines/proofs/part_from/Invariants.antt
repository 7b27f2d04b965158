use Rattle.replay_lines.proofs.Reasons.{Along}
use Rattle.replay_lines.proofs.part_from.Given as goal

abbrev pub invariant-loop-wanted : goal.invariant-loop-wanted
invariant-loop-wanted l = Along l.row l.line l.wanted-iterator.0.now l.words.0.now l.far
