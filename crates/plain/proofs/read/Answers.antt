-- `plain::read` meets its contract. Assumes nothing.
use Rattle.plain.proofs.Reading.{few_places, whole_places, words_there, says_one, says_two, says_three, says_judged, says_absent}
use Rattle.plain.proofs.read.Goals as goal

pub returns-then-not-is_good_length : goal.returns-then-not-is_good_length
returns-then-not-is_good_length c = search says_one

pub returns-then-animal-eq0 : goal.returns-then-animal-eq0
returns-then-animal-eq0 c = search says_two

pub returns-then-is_bad_time : goal.returns-then-is_bad_time
returns-then-is_bad_time c = search says_three

pub place_of-requires : goal.place_of-requires
place_of-requires c = (search few_places, search whole_places)

pub judged_at-requires-clause-p_in_bounds : goal.judged_at-requires-clause-p_in_bounds
judged_at-requires-clause-p_in_bounds c = search words_there

pub returns-in-Some : goal.returns-in-Some
returns-in-Some c = search says_judged

pub returns-in-None : goal.returns-in-None
returns-in-None c = search says_absent
