-- `boughladder_steps::boughladder_plan` meets its contract: a plan says all that was planned. Assumes nothing.
use Rattle.model.proofs.PlanSaid.{plan_said}
use Rattle.clothes.proofs.Dressed.{told_plan}
use Rattle.boughladder_steps.proofs.boughladder_plan.Goals as goal

pub returns : goal.returns
returns c = search (told_plan, plan_said)
