-- `replay_plans::answer_plan` meets its contract. Assumes nothing.
use Rattle.replay_plans.proofs.Planned.{four_at_most, told_plan}
use Rattle.replay_plans.proofs.Rows.{as_plan}
use borrow.Author.Rules.{rules}
use Rattle.replay_plans.proofs.answer_plan.Goals as goal

pub put_plan-requires : goal.put_plan-requires
put_plan-requires c = search (four_at_most, rules)

pub returns : goal.returns
returns c = λ n h. search (as_plan, told_plan)
