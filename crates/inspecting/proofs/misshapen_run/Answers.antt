-- `inspecting::misshapen_run` meets its contract. Assumes nothing.
use mathlib.Core.Bool.{false, not}
use mathlib.Core.List.{[], ◌∷◌}
use borrow.Author.Rules.{rules}
use Rattle.model.specs.Shape.{four, good_counters, good_items, good_slots}
use Rattle.judgement.specs.Conditions.{is_misshapen}
use Rattle.places.proofs.Finds.{by_position}
use Rattle.inspecting.proofs.misshapen_run.Goals as goal

pub returns : goal.returns
unfolding is_misshapen
returns c =
    by_position (λ b. b) (not (good_slots four c.args.s) ∷ not (good_counters c.args.v) ∷ not (good_items c.args.i) ∷ []) false _ _ _
    c.position.ensures.ran (search rules) (λ x b q k. search rules)
