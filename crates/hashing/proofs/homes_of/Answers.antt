-- `hashing::homes_of` meets its contract. Assumes nothing.
use Rattle.hashing.proofs.Laws.{lesser_in, by_homes}
use borrow.Author.Rules.{rules}
use Rattle.hashing.proofs.homes_of.Goals as goal

pub counter_of-counter-requires : goal.counter_of-counter-requires
counter_of-counter-requires c = search (rules, lesser_in)

pub returns : goal.returns
returns c = search by_homes
