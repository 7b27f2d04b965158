-- `listing::list` meets its contract: each way through the code is one of the list's answers. Assumes nothing.
use Prim.Native.Nat.{◌≤◌}
use native.Mathlib.Omega.{arith}
use Rattle.listing.proofs.Laws.{list_few, list_short, list_room, list_written}
use Rattle.listing.proofs.list.Goals as goal

pub overflow_mul-n : goal.overflow_mul-n
overflow_mul-n c =
    let small : c.count_live-n.result ≤ 4096 = search list_few in
    omega arith

pub returns-then-buffer-n : goal.returns-then-buffer-n
returns-then-buffer-n c = search list_short

pub put_places-requires : goal.put_places-requires
put_places-requires c = search list_room

pub returns : goal.returns
returns c = search list_written
