-- `moves::make_moves` meets its contract: what is still to be made comes to the whole. Assumes nothing.
use lib.ListN.{length}
use Rattle.model.specs.Shape.{shape}
use Rattle.moves.proofs.Moving.{moves_step, moves_done}
use Rattle.moves.proofs.make_moves.Goals as goal

pub loop-m-preserved : goal.loop-m-preserved
loop-m-preserved c W p t m' l' e d =
    let at = c.loop-m in
    at.invariant W p t m' l' e
    (moves_step _ (shape W c.args.n (length c.args.counters.now) p) c.args.moves.now at.m-index c.loop-m-test.true
    at.slots at.counters _ _ t at.l _ (rw at.auto.counters at (c.move_one-l.ensures W p t e)) m' l' d)

pub returns : goal.returns
returns c W p t e =
    c.loop-m.invariant W p t _ _ e (moves_done (shape W c.args.n (length c.args.counters.now) p) c.loop-m.slots c.args.moves.now c.loop-m.m-index c.loop-m-test.false)
