-- Every statement that is owed, on a line of its own; proofs/Theorems has them all. Assumes nothing.
use Rattle.std.specs.Prelude.{ℕ, ◌*◌, ◌≤◌, ◌≡◌, ◌≢◌, length}
use Rattle.model.specs.Memory.{Mem}
use Rattle.model.specs.Shape.{Ways, eight, four, shape_of}
use Rattle.model.specs.Moves.{Legal}
use Rattle.model.specs.Stores.{stores}
use Rattle.model.specs.Visits.{sum_of_powers}
use Rattle.model.specs.Answers.{Answer, paper, refused}
use Rattle.model.specs.Calling.{Call, did, evict, make_fresh}
use Rattle.model.specs.Lent.{after_fresh, lent_after, lent_call, lent_cut}
use Rattle.model.specs.Late.{LateRefused, StampsRise}
use Rattle.model.specs.Left.{AheadTellsNothing, FreshIffLeft, HeldTells, LeftIs, LeftLeast}
use Rattle.model.specs.Retired.{NoneRetired, RetiredAt, RetiredHeld, RetiredReads, RetiredReplaced, RetiredThenDated, RetiredUnserved}
use Rattle.model.specs.InSteps.{OthersKept, PlanIsSets, PlanQuiet, PlanRoom, StepRule, StepsAreSet}
use Rattle.model.specs.WellFormed.{WellFormed}
use Rattle.model.specs.AnyTable.{Table, cut_at, leaves}
use Rattle.model.specs.Demands.{AgeFromIssue, Demand1, Demand2, Demand3, FreshAnywhere, NeverLost, Story, shape_in, table}
use Rattle.model.specs.Ours.{gate, ours}
use Rattle.model.specs.declared.Grant.{Grant}
use Rattle.model.specs.Examples.{AllHold, answers, cuts, edges, examples, final_stores, late_lists, left_rows, one_hurt, plans, refusals, retired, retired_rows, retired_words, row_edges, row_examples, row_numbers, row_steps, single_moves, turns, two_tags}

pub record Owed : Type 0 where
  -- the order's three demands, of the gate's table; and of wish 13's
  pub demand_1 : Demand1 gate
  pub demand_2 : Demand2 four gate
  pub demand_3 : Demand3 four gate
  pub eight_1 : Demand1 (ours eight)
  pub eight_2 : Demand2 eight (ours eight)
  pub eight_3 : Demand3 eight (ours eight)
  -- beyond the order: no entry is ever lost, fresh on any memory, refusal 10 never, what finished calls leave is well-formed
  pub never_lost : NeverLost four gate
  pub eight_never : NeverLost eight (ours eight)
  pub fresh_anywhere : FreshAnywhere gate
  pub never_ten : (m : Mem) (hand : ℕ) → (lent_call four m (evict hand)).answer ≢ refused 10
  pub well_story : (s : Story four) → WellFormed (shape_in four s) (table four gate s)
  -- wish 1: age runs from issue, after any run of finished calls; and, beyond its words, when 11 is given, and that no list lowers a stamp but the mark, on any memory, four ways or eight
  pub age_from_issue : (W : Ways) → AgeFromIssue W (ours W)
  pub late_refused : (W : Ways) (m : Mem) (g : Grant) → LateRefused W m g
  pub stamps_rise : (W : Ways) (m : Mem) (g : Grant) → StampsRise W m g
  -- wish 4: what is left is the limit minus the age, -2^62 at the least; who tells it; on any memory, fresh is said exactly if it is not negative
  pub left_is : LeftIs
  pub left_least : LeftLeast
  pub held_tells : HeldTells
  pub ahead_tells_nothing : AheadTellsNothing
  pub fresh_iff_left : (W : Ways) → FreshIffLeft (ours W)
  -- wish 6: a retired entry reads as old, is not made recent and is replaced, on any memory; and from fresh on a table that meets demand 2 has none
  pub retired_held : (W : Ways) → RetiredHeld W
  pub retired_reads : (W : Ways) → RetiredReads W (ours W)
  pub retired_unserved : (W : Ways) → RetiredUnserved W (ours W)
  pub retired_replaced : (W : Ways) → RetiredReplaced W (ours W)
  pub retired_then_dated : (W : Ways) → RetiredThenDated W (ours W)
  pub none_retired : (W : Ways) (T : Table) → Demand2 W T → NoneRetired W T
  -- wish 7: a set in steps. On any memory: when a step is made, what a plan is beside a set, and that a plan that is carried out without
  -- calls between leaves what the set leaves; after any run of finished calls, the fewest moves at the moment of planning, and nobody
  -- else's answer changes
  pub step_rule : (W : Ways) → StepRule W (ours W)
  pub plan_is_sets : (W : Ways) (m : Mem) (g : Grant) → PlanIsSets W m g
  pub plan_quiet : (W : Ways) → PlanQuiet (ours W)
  pub steps_are_set : (W : Ways) → StepsAreSet (ours W)
  pub plan_room : (W : Ways) → PlanRoom W (ours W)
  pub others_kept : (W : Ways) → OthersKept W (ours W)
  -- what the code's contracts cite is what the demands speak of
  pub leaves_lent : (m : Mem) (c : Call) → leaves gate m (did c) ≡ lent_after four m c
  pub cuts_lent : (m : Mem) (c : Call) (k : ℕ) → cut_at gate k m (did c) ≡ lent_cut four k m c
  pub fresh_lent : (m : Mem) → leaves gate m make_fresh ≡ after_fresh four m
  pub cut_whole : (m : Mem) (c : Call) (k : ℕ) → length (stores (lent_call four m c).blocks) ≤ k → lent_cut four k m c ≡ lent_after four m c
  pub paper_injective : (a b : Answer) → paper a ≡ paper b → a ≡ b
  -- the definitions say what the document's examples say, and what its rules say at their edges and at every cut
  pub all_hold : AllHold examples × AllHold refusals × AllHold turns × AllHold edges × AllHold cuts × AllHold late_lists × AllHold row_examples × AllHold row_edges
      × AllHold (left_rows answers) × AllHold (left_rows (row_numbers 0)) × AllHold (retired_rows answers) × AllHold (retired_rows (row_numbers 0)) × AllHold retired_words
      × AllHold plans × AllHold single_moves × AllHold final_stores × AllHold row_steps
  pub retired_at : RetiredAt four retired 1 0
  pub not_legal : ¬ Legal (shape_of four two_tags).layout two_tags.slots (record { from = 2; to = 8 })
  pub not_well : ¬ WellFormed (shape_of four (one_hurt 3)) (one_hurt 3)
  pub most_visits_are : (2 * sum_of_powers 4 4 ≡ 682) × (2 * sum_of_powers 8 3 ≡ 1170)
