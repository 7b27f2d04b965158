-- The definition says what the wish says, row by row. Assumes nothing.
-- Named so that it is checked first: rt goes by the alphabet.
use mathlib.Core.Path.{refl}
use Rattle.model.specs.Choice.{first, range}
use Rattle.model.specs.Memory.{damaged, place, tag}
use Rattle.model.specs.Hash.{bytes, fnv, fnv_step, hash, odd_up, other_bucket, spread, tag_from}
use Rattle.model.specs.Shape.{good_counters, good_items, good_lengths, good_slots}
use Rattle.model.specs.Age.{is_fresh, left_of, verdict}
use Rattle.model.specs.Calls.{hit, hits}
use Rattle.model.specs.Row.{walk_to}
use Rattle.model.specs.Examples.{AllHold}
use Rattle.plain.specs.Plain.{plain_read}
use Rattle.plain.specs.Examples.{plain_examples, side_by_side}

-- a refl for each row: where the definition says another thing, the first error is at the first row that is false
pub all_hold : AllHold plain_examples × AllHold side_by_side
unfolding plain_read walk_to good_items verdict is_fresh left_of hash fnv fnv_step bytes tag_from odd_up spread other_bucket tag place damaged range first good_lengths good_slots good_counters hits hit
all_hold = (
  (refl, (refl, (refl, (refl, (refl, (refl, (refl, (refl, (refl, (refl, (refl, (refl, (refl, (refl, (refl, (refl, (refl, (refl, (refl, (refl, (refl, tt))))))))))))))))))))),
  (refl, (refl, (refl, (refl, (refl, (refl, (refl, tt))))))),
)
