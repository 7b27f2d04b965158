-- `replay_print::put_numbered` meets its contract. Assumes nothing.
use Rattle.replay_print.proofs.Lines.{put_number}
use borrow.Author.Rules.{rules}
use Rattle.replay_print.proofs.put_numbered.Goals as goal

pub returns : goal.returns
returns c = (search put_number, search rules)
