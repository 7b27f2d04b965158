-- `replay_reply::load` meets its contract. Assumes nothing.
use Rattle.replay_reply.proofs.Replies.{held_behind, load_refused, load_made}
use borrow.Author.Rules.{rules}
use Rattle.replay_reply.proofs.load.Goals as goal

pub returns-then-room_of-count : goal.returns-then-room_of-count
returns-then-room_of-count c =
    let loaded = c.requires.count_value.0 in
    search (load_refused, loaded.1, loaded.2)

pub replace-requires : goal.replace-requires
replace-requires c =
    let asked = c.requires in
    let behind = c.behind-here.ensures in
    (asked.count_value.0, search rules, held_behind asked.count_value.1 behind)

pub returns : goal.returns
returns c =
    let loaded = c.requires.count_value.0 in
    let shown = c.show_load-at.ensures in
    let room = c.room_of.ensures in
    let put = c.put_line-end.ensures in
    let behind = c.behind-here.ensures in
    search (load_made, loaded.1, loaded.2, shown, room, put, behind)
