-- `evicting::take_away` meets its contract. Assumes nothing.
use Rattle.evicting.proofs.Turning.{stores_made}
use Rattle.evicting.proofs.take_away.Goals as goal

pub returns : goal.returns
returns c = search stores_made
