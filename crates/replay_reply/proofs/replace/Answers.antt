-- `replay_reply::replace` meets its contract. Assumes nothing.
use Rattle.std.proofs.Common.{rules}
use Rattle.replay_reply.proofs.Replies.{replaced_slots, replaced_counters, replaced_items}
use Rattle.replay_reply.proofs.replace.Goals as goal

pub returns-in-Slots : goal.returns-in-Slots
returns-in-Slots c =
    let l = rw c.in-Slots.is at c.requires.0.1 in
    let h = rw c.in-Slots.is at c.requires.1 in
    rw c.in-Slots.is (replaced_slots c.args.line.now c.requires.2 l c.requires.0.2 h c.pour.ensures (search rules))

pub returns-in-Counters : goal.returns-in-Counters
returns-in-Counters c =
    let l = rw c.in-Counters.is at c.requires.0.1 in
    let h = rw c.in-Counters.is at c.requires.1 in
    rw c.in-Counters.is (replaced_counters c.args.line.now c.requires.2 l c.requires.0.2 h c.pour-in-Counters.ensures (search rules))

pub returns-in-Items : goal.returns-in-Items
returns-in-Items c =
    let l = rw c.in-Items.is at c.requires.0.1 in
    let h = rw c.in-Items.is at c.requires.1 in
    rw c.in-Items.is (replaced_items c.args.line.now c.requires.2 l c.requires.0.2 h c.pour-in-Items.ensures (search rules))
