-- `stepping::make_move` meets its contract. Assumes nothing.
use Rattle.stepping.proofs.Moving.{movable, move_done, move_refused}
use Rattle.stepping.proofs.make_move.Goals as goal

pub returns-then-not-may_move : goal.returns-then-not-may_move
returns-then-not-may_move c = search move_refused

pub move_one-requires : goal.move_one-requires
move_one-requires c = search movable

pub returns : goal.returns
returns c =
    move_done c.args.slots.now c.args.counters.now c.args.shift c.args.m c.args.v c.word_or-w.ensures c.word_or-d.ensures c.may_move.ensures
    c.if-not-may_move.false c.move_one.ensures
