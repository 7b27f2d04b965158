-- `replay_turns::on_row` meets its contract. Assumes nothing.
use Rattle.replay_turns.proofs.on_row.Goals as goal

pub returns-in-CutSet : goal.returns-in-CutSet
returns-in-CutSet c = rw (c.in-Ok.is, c.in-CutSet.is) (c.cut_set.ensures c.args.number c.args.hand)

pub returns-in-CutDelete : goal.returns-in-CutDelete
returns-in-CutDelete c = rw (c.in-Ok.is, c.in-CutDelete.is) (c.cut_delete.ensures c.args.number c.args.hand)

pub returns-in-CutEvict : goal.returns-in-CutEvict
returns-in-CutEvict c = rw (c.in-Ok.is, c.in-CutEvict.is) (c.cut_evict.ensures c.args.number)

pub returns-in-Plan : goal.returns-in-Plan
returns-in-Plan c = rw (c.in-Ok.is, c.in-Plan.is) (c.answer_plan.ensures c.args.number c.args.hand)

pub returns-in-Move : goal.returns-in-Move
returns-in-Move c = rw (c.in-Ok.is, c.in-Move.is) (c.answer_move.ensures c.args.number c.args.hand)

pub returns-in-Enter : goal.returns-in-Enter
returns-in-Enter c = rw (c.in-Ok.is, c.in-Enter.is) (c.answer_enter.ensures c.args.number c.args.hand)
