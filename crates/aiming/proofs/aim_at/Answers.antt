-- `aiming::aim_at` meets its contract. Assumes nothing.
use Rattle.aiming.proofs.Aiming.{aim_nowhere, aim_takes}
use Rattle.aiming.proofs.aim_at.Goals as goal

pub returns-in_default : goal.returns-in_default
returns-in_default c = search (aim_nowhere, c.in_ok-home.was)

pub returns : goal.returns
returns c = search (aim_takes, c.in_ok-home.was)
