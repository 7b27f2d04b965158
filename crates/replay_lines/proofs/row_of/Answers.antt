-- `replay_lines::row_of` meets its contract. Assumes nothing.
use Rattle.replay_lines.specs.Line.{said}
use Rattle.replay_lines.proofs.row_of.Goals as goal

pub returns : goal.returns
unfolding said
returns c = rw c.body_of.ensures at c.row_in.ensures
