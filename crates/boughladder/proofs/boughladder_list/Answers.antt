-- `boughladder::boughladder_list` meets its contract: the listing's clothes are so for each buffer. Assumes nothing.
use mathlib.Core.Path.{ap, ◌∙◌}
use Rattle.clothes.specs.Clothes.{listing_clothes}
use Rattle.boughladder.proofs.boughladder_list.Goals as goal

pub returns : goal.returns
returns c =
    let l = c.list.ensures in
    record { told = c.into.ensures c.list.new.buffer ∙ ap listing_clothes l.told; left = l.left }
