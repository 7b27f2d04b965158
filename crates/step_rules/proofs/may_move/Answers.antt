-- `step_rules::may_move` meets its contract. Assumes nothing.
use borrow.Author.Rules.{rules}
use Rattle.step_rules.proofs.Tested.{both_in}
use Rattle.step_rules.proofs.may_move.Goals as goal

pub returns : goal.returns
returns c = search (both_in, rules)
