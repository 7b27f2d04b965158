-- `aiming::aim_turn` meets its contract. Assumes nothing.
use Rattle.aiming.proofs.Aiming.{turn_handed}
use Rattle.aiming.proofs.aim_turn.Goals as goal

pub aim_scan-requires : goal.aim_scan-requires
aim_scan-requires c = search turn_handed
