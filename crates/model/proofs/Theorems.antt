-- The roof: every statement that is owed. Assumes nothing.
use Rattle.model.specs.Shape.{four}
use Rattle.model.specs.Owed.{Owed}
use Rattle.model.proofs.Demands as demands
use Rattle.model.proofs.Never as never
use Rattle.model.proofs.FreshAnywhere as anywhere
use Rattle.model.proofs.NoTen as ten
use Rattle.model.proofs.FromIssue as issue
use Rattle.model.proofs.Late as late
use Rattle.model.proofs.Left as left
use Rattle.model.proofs.Verdict as verdict
use Rattle.model.proofs.FreshIffLeft as iff
use Rattle.model.proofs.Retired as retired
use Rattle.model.proofs.NoneRetired as dated
use Rattle.model.proofs.InSteps as steps
use Rattle.model.proofs.CarriedOut as carried
use Rattle.model.proofs.PlanRoom as room
use Rattle.model.proofs.Linked as linked
use Rattle.model.proofs.Paper as paper
use Rattle.model.proofs.AsWritten as written

pub owed : Owed
owed =
    record {
      demand_1 = demands.gate_1;
      demand_2 = demands.gate_2;
      demand_3 = demands.gate_3;
      eight_1 = demands.eight_1;
      eight_2 = demands.eight_2;
      eight_3 = demands.eight_3;
      never_lost = never.gate_never;
      eight_never = never.eight_never;
      fresh_anywhere = anywhere.gate_fresh_anywhere;
      never_ten = ten.never_ten four;
      well_story = demands.well_story four;
      age_from_issue = issue.age_from_issue;
      late_refused = late.late_refused;
      stamps_rise = late.stamps_rise;
      left_is = left.left_is;
      left_least = left.left_least;
      held_tells = verdict.held_tells;
      ahead_tells_nothing = verdict.ahead_tells_nothing;
      fresh_iff_left = iff.fresh_iff_left;
      retired_held = retired.retired_held;
      retired_reads = retired.retired_reads;
      retired_unserved = retired.retired_unserved;
      retired_replaced = retired.retired_replaced;
      retired_then_dated = retired.retired_then_dated;
      none_retired = dated.none_retired;
      step_rule = steps.step_rule;
      plan_is_sets = steps.plan_is_sets;
      plan_quiet = steps.plan_quiet;
      steps_are_set = carried.steps_are_set;
      plan_room = room.plan_room;
      others_kept = room.others_kept;
      leaves_lent = linked.leaves_lent four;
      cuts_lent = linked.cuts_lent four;
      fresh_lent = linked.fresh_lent four;
      cut_whole = linked.cut_whole four;
      paper_injective = paper.paper_injective;
      all_hold = written.all_hold;
      retired_at = written.retired_at;
      not_legal = written.not_legal;
      not_well = written.not_well;
      most_visits_are = written.most_visits_are;
    }
