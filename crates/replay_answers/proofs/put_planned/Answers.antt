-- `replay_answers::put_planned` meets its contract. Assumes nothing.
use Prim.Native.Nat.{◌+◌, ◌*◌}
use native.Mathlib.Omega.{arith}
use Rattle.replay_answers.proofs.Laws.{plan_short, told_numbers}
use borrow.Author.Rules.{rules}
use Rattle.replay_answers.proofs.put_planned.Goals as goal

pub returns : goal.returns
returns c = (
  told_numbers c.args.plan.moves c.args.plan.count c.args.plan.place c.args.plan.slot (search rules) c.put_told.ensures.0,
  plan_short c.args.at (2 + 3 * c.args.plan.count) _ c.put_told.ensures.1 (omega arith),
)
