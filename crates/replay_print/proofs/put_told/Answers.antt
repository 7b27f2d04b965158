-- `replay_print::put_told` meets its contract. Assumes nothing.
use Rattle.replay_print.proofs.Lines.{put_behind}
use borrow.Author.Rules.{rules}
use Rattle.replay_print.proofs.put_told.Goals as goal

pub returns : goal.returns
returns g c = (search put_behind, search rules)
