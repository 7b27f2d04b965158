-- `inspecting::uneven_counter` meets its contract. Assumes nothing.
use Prim.Native.Nat.{◌%◌}
use mathlib.Core.Bool.{not}
use lib.Dec.{eqb}
use borrow.Author.Rules.{rules}
use Rattle.places.proofs.Finds.{by_position}
use Rattle.inspecting.proofs.uneven_counter.Goals as goal

pub returns : goal.returns
returns c = by_position (λ n. not (eqb (n % 2) 0)) _ 0 _ _ _ c.position.ensures.ran (search rules) (λ x b q k. search rules)
