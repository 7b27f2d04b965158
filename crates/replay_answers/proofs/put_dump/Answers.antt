-- `replay_answers::put_dump` meets its contract. Assumes nothing.
use Rattle.replay_answers.proofs.Laws.{put_runs}
use borrow.Author.Rules.{rules}
use Rattle.replay_answers.proofs.put_dump.Goals as goal

pub returns : goal.returns
returns c = (search put_runs, search rules)
