-- `listing::put_place` meets its contract: a live place's record is three numbers one after the other. Assumes nothing.
use Rattle.listing.proofs.Laws.{put_live, put_vacant, room_live, room_animal, room_permission, room_stamp}
use Rattle.listing.proofs.put_place.Goals as goal

pub returns-then-animal-eq0 : goal.returns-then-animal-eq0
returns-then-animal-eq0 c = search put_vacant

pub put_low-behind_animal-requires-clause-room : goal.put_low-behind_animal-requires-clause-room
put_low-behind_animal-requires-clause-room c = search (room_animal, room_live)

pub put_low-behind_permission-requires-clause-room : goal.put_low-behind_permission-requires-clause-room
put_low-behind_permission-requires-clause-room c = room_permission _ c.put_low-behind_animal.ensures (search room_live)

pub put_low-requires-clause-room : goal.put_low-requires-clause-room
put_low-requires-clause-room c =
    room_stamp _ c.put_low-behind_animal.ensures _ c.put_low-behind_permission.ensures (search room_live)

pub returns : goal.returns
returns c = search put_live
