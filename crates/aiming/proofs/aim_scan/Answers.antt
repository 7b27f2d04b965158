-- `aiming::aim_scan` meets its contract. Assumes nothing.
use Rattle.aiming.proofs.Aiming.{turn_aimed, turn_found, turn_nobody, turn_small}
use Rattle.aiming.proofs.aim_scan.Goals as goal

pub overflow_cast-place : goal.overflow_cast-place
overflow_cast-place c = record { fits = search turn_small }

pub aim_at-requires : goal.aim_at-requires
aim_at-requires c = search turn_aimed

pub returns-in-Some : goal.returns-in-Some
returns-in-Some c = search turn_found

pub returns-in-None : goal.returns-in-None
returns-in-None c = search turn_nobody
