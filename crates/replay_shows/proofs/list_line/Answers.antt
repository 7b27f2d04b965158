-- `replay_shows::list_line` meets its contract. Assumes nothing.
use Rattle.replay_shows.proofs.Beside.{list_bytes, list_room, list_told}
use Rattle.replay_shows.proofs.list_line.Goals as goal

pub slice_bounds-put_list-end-2 : goal.slice_bounds-put_list-end-2
slice_bounds-put_list-end-2 c = search list_bytes

pub put_list-requires : goal.put_list-requires
put_list-requires c = search list_room

pub returns : goal.returns
returns c = search list_told
