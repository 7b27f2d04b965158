-- `evicting::carry_out` meets its contract. Assumes nothing.
use Rattle.evicting.proofs.Turning.{turn_refused, turn_taken}
use Rattle.evicting.proofs.carry_out.Goals as goal

pub returns-in-Err : goal.returns-in-Err
returns-in-Err c = search turn_refused

pub returns-in-Ok : goal.returns-in-Ok
returns-in-Ok c = search turn_taken
