-- `replay_answers::put_poked` meets its contract. Assumes nothing.
use Rattle.replay_answers.proofs.Laws.{as_known, short}
use Rattle.replay_answers.specs.Text.{poke_told}
use borrow.Author.Rules.{rules}
use Rattle.replay_answers.proofs.put_poked.Goals as goal

pub returns-else-poked : goal.returns-else-poked
returns-else-poked c = (search (as_known poke_told), search (short, rules))
