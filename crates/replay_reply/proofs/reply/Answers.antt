-- `replay_reply::reply` meets its contract. Assumes nothing.
use Prim.Native.Nat.{◌<◌}
use Rattle.std.proofs.Common.{arith, length}
use Rattle.replay_words.specs.Words.{lines}
use Rattle.replay_rows.specs.Replayed.{language}
use Rattle.replay_reply.proofs.Replies.{as_heard, as_beside, reason_is, rows_counted}
use Rattle.replay_reply.proofs.reply.Goals as goal

pub make_call-requires : goal.make_call-requires
make_call-requires c =
    let asked = c.requires in
    let few : c.in-Ok.row < length (lines language) = c.in-Ok.ensures.0 in
    record { held = asked.held; number_lt_from = (asked.number_lt_from.0, asked.number_lt_from.1, asked.number_lt_from.2, omega (arith, few, rows_counted)) }

pub returns-in-Ok : goal.returns-in-Ok
returns-in-Ok c = as_heard _ _ _ c.args.line.now c.in-Ok.ensures.0 c.in-Ok.ensures.1 c.in-Ok.ensures.2 c.make_call.ensures

pub beside_the_rows-requires : goal.beside_the_rows-requires
beside_the_rows-requires c =
    let asked = c.requires in
    record { held = asked.held; number_lt_from = (asked.number_lt_from.0, asked.number_lt_from.1, reason_is c.args.line.now _ c.in-Err.ensures.0) }

pub returns-in-Err : goal.returns-in-Err
returns-in-Err c = as_beside _ _ _ c.args.line.now _ c.in-Err.ensures.0 c.beside_the_rows.ensures
