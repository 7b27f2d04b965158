-- `looking::homes_in` meets its contract. Assumes nothing.
use Rattle.looking.proofs.HomesLie.{buckets_fit, counters_fit, size_is, homes_lie}
use Rattle.looking.proofs.homes_in.Goals as goal

pub overflow_cast-n : goal.overflow_cast-n
overflow_cast-n c = record { fits = search buckets_fit }

pub overflow_cast-v : goal.overflow_cast-v
overflow_cast-v c = record { fits = search counters_fit }

pub homes_of-requires : goal.homes_of-requires
homes_of-requires c = search size_is

pub returns : goal.returns
returns c = search homes_lie
