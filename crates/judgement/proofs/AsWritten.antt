-- The definition says what the wish says, row by row. Assumes nothing.
-- Named so that it is checked first: rt goes by the alphabet.
use mathlib.Core.Path.{refl}
use Rattle.model.specs.Choice.{first, range}
use Rattle.model.specs.Memory.{damaged, place, tag}
use Rattle.model.specs.Hash.{bytes, fnv, fnv_step, hash, odd_up, other_bucket, spread, tag_from}
use Rattle.model.specs.Shape.{good_counters, good_items, good_slots}
use Rattle.model.specs.Examples.{AllHold}
use Rattle.judgement.specs.Conditions.{count, is_doubled, is_misshapen, is_stray, is_unsought, names, right_word, twin}
use Rattle.judgement.specs.Verdict.{judgement}
use Rattle.judgement.specs.Examples.{verdicts}

-- a refl for each row: where the definition says another thing, the first error is at the first row that is false
pub all_hold : AllHold verdicts
unfolding judgement count names twin right_word is_stray is_unsought is_doubled is_misshapen first range tag place damaged hash fnv fnv_step bytes tag_from other_bucket spread odd_up good_slots good_counters good_items
all_hold = (refl, (refl, (refl, (refl, (refl, (refl, (refl, (refl, (refl, (refl, (refl, (refl, (refl, (refl, (refl, (refl, (refl, (refl, (refl, (refl, (refl, (refl, (refl, (refl, (refl, tt)))))))))))))))))))))))))
