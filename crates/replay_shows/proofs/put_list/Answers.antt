-- `replay_shows::put_list` meets its contract. Assumes nothing.
use Rattle.replay_shows.proofs.Listed.{listed_counted, listed_text}
use borrow.Author.Rules.{rules}
use Rattle.replay_shows.proofs.put_list.Goals as goal

pub put_listing-requires : goal.put_listing-requires
put_listing-requires c = record { counted = listed_counted c.list-said.result (search rules) c.list-said.ensures; records_in_bounds = search rules }

pub returns : goal.returns
returns c = (search listed_text, search rules)
