-- `places::place_of` meets its contract: sixteen places without the number are passed at once. Assumes nothing.
use Prim.Native.Nat.{◌+◌, ◌*◌}
use native.Mathlib.Omega.{arith}
use mathlib.Core.Path.{refl}
use lib.Dec.{eqb}
use borrow.Author.Rules.{rules}
use Rattle.std.proofs.lemmas.Iterator.{YieldsList-from_range}
use Rattle.std.proofs.lemmas.Iterator.Search.{any_from_yields_List}
use Rattle.model.specs.Memory.{animal}
use Rattle.places.proofs.Laws.{by_turn}
use Rattle.places.proofs.place_of.Goals as goal

pub loop-turn-preserved : goal.loop-turn-preserved
loop-turn-preserved c =
    let p = 16 * c.loop-turn.turn in
    by_turn c.loop-turn.invariant (omega arith)
    (any_from_yields_List (λ q. eqb (animal c.args.items.now q) c.args.x) _ _ c.any.result c.any.ensures.ran
    (YieldsList-from_range p (p + 16) 16 refl (omega arith)) (λ x b q k. search rules)) c.if-any.false
