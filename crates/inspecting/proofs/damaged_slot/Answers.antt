-- `inspecting::damaged_slot` meets its contract. Assumes nothing.
use Rattle.model.specs.Memory.{damaged}
use borrow.Author.Rules.{rules}
use Rattle.places.proofs.Finds.{by_position}
use Rattle.inspecting.proofs.damaged_slot.Goals as goal

pub returns : goal.returns
returns c = by_position (damaged c.args.m) _ 0 _ _ _ c.position.ensures.ran (search rules) (λ x b q k. search rules)
