-- `replay_plans::answer_move` meets its contract. Assumes nothing.
use Rattle.replay_plans.proofs.Planned.{told_move}
use Rattle.replay_plans.proofs.Rows.{as_move}
use borrow.Author.Rules.{rules}
use Rattle.replay_plans.proofs.answer_move.Goals as goal

pub returns : goal.returns
returns c = λ n h. search (as_move, told_move, rules)
