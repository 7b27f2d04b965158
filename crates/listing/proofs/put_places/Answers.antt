-- `listing::put_places` meets its contract: what is still to be put from here on comes to the whole list. Assumes nothing.
use Rattle.listing.proofs.Laws.{putting_room, putting_more, putting_done}
use borrow.Author.Rules.{rules}
use Rattle.listing.proofs.put_places.Goals as goal

pub put_place-at-requires : goal.put_place-at-requires
put_place-at-requires c = (search rules, search putting_room)

pub loop-p-preserved : goal.loop-p-preserved
loop-p-preserved c = search putting_more

pub returns : goal.returns
returns c = search putting_done
