-- `pointing::leads_to_twin` meets its contract. Assumes nothing.
use Rattle.pointing.proofs.Pointing.{by_twin}
use Rattle.pointing.proofs.leads_to_twin.Goals as goal

pub returns : goal.returns
returns c = search by_twin
