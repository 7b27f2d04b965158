-- The definitions say what is written: document 01's examples, and its rules at their edges, row by row. Assumes nothing.
-- Named so that it is checked first: rt goes by the alphabet.
use Prim.Native.Nat.{◌*◌}
use native.Mathlib.Omega.{arith}
use mathlib.Core.Path.{◌≡◌, refl}
use Rattle.model.specs.Choice.{first, range}
use Rattle.model.specs.Memory.{damaged, place, tag}
use Rattle.model.specs.Hash.{bytes, fnv, fnv_step, hash, odd_up, other_bucket, spread, tag_from}
use Rattle.model.specs.Shape.{four, shape_of, good_counters, good_items, good_lengths, good_slots}
use Rattle.model.specs.Moves.{Legal}
use Rattle.model.specs.WellFormed.{WellFormed}
use Rattle.model.specs.Visits.{climb, first_free, free_slot, hops, lowest, next_level, sum_of_powers, visits}
use Rattle.model.specs.Age.{is_fresh, left_of, verdict}
use Rattle.model.specs.Clock.{next_hand, passed_recent, seek_victim}
use Rattle.model.specs.Listing.{list_record, listing, live_count, records}
use Rattle.model.specs.Calls.{hit, hits, may_enter, may_move, slot_of, some_live, vacant_place}
use Rattle.model.specs.Examples.{AllHold, answers, cuts, edges, examples, final_stores, late_lists, left_rows, one_hurt, plans, refusals, retired, retired_rows, retired_words, row_edges, row_examples, row_numbers, row_steps, seen_through, single_moves, turns, two_tags}
use Rattle.model.specs.Retired.{RetiredAt}
use Rattle.model.specs.Stores.{stores}
use Rattle.model.specs.Row.{walk_to, row_left, row_says, row_clock, row_count, row_list, low_bytes}

-- a refl for each row: where a definition says another thing, the first error is at the first row that is false
pub all_hold : AllHold examples × AllHold refusals × AllHold turns × AllHold edges × AllHold cuts × AllHold late_lists × AllHold row_examples × AllHold row_edges
    × AllHold (left_rows answers) × AllHold (left_rows (row_numbers 0)) × AllHold (retired_rows answers) × AllHold (retired_rows (row_numbers 0)) × AllHold retired_words
    × AllHold plans × AllHold single_moves × AllHold final_stores × AllHold row_steps
unfolding hash fnv fnv_step bytes tag_from odd_up spread other_bucket tag place damaged range first good_lengths good_slots good_counters good_items hits hit vacant_place some_live may_move may_enter visits next_level hops first_free free_slot lowest climb is_fresh left_of verdict next_hand seek_victim passed_recent slot_of list_record records live_count listing stores seen_through walk_to row_left row_says row_clock row_count row_list low_bytes
all_hold = (
  (refl, (refl, (refl, (refl, (refl, (refl, (refl, (refl, (refl, (refl, (refl, (refl, (refl, (refl, (refl, tt))))))))))))))),
  (refl, (refl, (refl, (refl, (refl, (refl, (refl, (refl, (refl, (refl, (refl, tt))))))))))),
  (refl, (refl, (refl, (refl, (refl, (refl, (refl, (refl, (refl, tt))))))))),
  (refl, (refl, (refl, (refl, (refl, (refl, (refl, (refl, (refl, (refl, (refl, (refl, (refl, tt))))))))))))),
  (refl, (refl, (refl, (refl, (refl, (refl, (refl, (refl, (refl, (refl, (refl, tt))))))))))),
  (refl, (refl, (refl, (refl, (refl, (refl, (refl, (refl, (refl, tt))))))))),
  (refl, (refl, (refl, (refl, (refl, (refl, (refl, (refl, tt)))))))),
  (refl, (refl, (refl, (refl, (refl, (refl, (refl, (refl, (refl, (refl, (refl, (refl, (refl, (refl, tt)))))))))))))),
  (refl, (refl, (refl, (refl, (refl, (refl, (refl, (refl, (refl, (refl, (refl, tt))))))))))),
  (refl, (refl, (refl, (refl, (refl, (refl, (refl, (refl, (refl, (refl, (refl, tt))))))))))),
  (refl, (refl, (refl, (refl, (refl, (refl, (refl, (refl, (refl, (refl, (refl, tt))))))))))),
  (refl, (refl, (refl, (refl, (refl, (refl, (refl, (refl, (refl, (refl, (refl, tt))))))))))),
  (refl, (refl, (refl, (refl, tt)))),
  (refl, (refl, (refl, (refl, (refl, (refl, (refl, (refl, (refl, (refl, (refl, (refl, (refl, (refl, (refl, (refl, tt)))))))))))))))),
  (refl, (refl, (refl, (refl, (refl, (refl, (refl, (refl, (refl, (refl, (refl, (refl, (refl, (refl, (refl, (refl, (refl, (refl, tt)))))))))))))))))),
  (refl, (refl, (refl, (refl, (refl, (refl, (refl, (refl, (refl, (refl, (refl, (refl, (refl, (refl, (refl, tt))))))))))))))),
  (refl, (refl, (refl, (refl, (refl, (refl, (refl, (refl, (refl, (refl, (refl, (refl, (refl, (refl, (refl, (refl, (refl, (refl, tt)))))))))))))))))),
)

-- the rows of wish 6 are of a memory that it speaks of
pub retired_at : RetiredAt four retired 1 0
unfolding hash fnv fnv_step bytes tag_from odd_up spread other_bucket tag place damaged range first good_lengths good_slots good_counters good_items hits hit
retired_at = record { lengths = refl; real = λ e. absurd (omega arith); calm = refl; sound = refl; held_at = refl; marked = refl }

-- N = 4: no entry of tag 2 goes from bucket 0 to bucket 2; and a table with an odd counter isn't well-formed
pub not_legal : ¬ Legal (shape_of four two_tags).layout two_tags.slots (record { from = 2; to = 8 })
unfolding other_bucket spread odd_up tag
not_legal l = absurd (omega (arith, l.goes))

pub not_well : ¬ WellFormed (shape_of four (one_hurt 3)) (one_hurt 3)
not_well w = absurd (omega (arith, w.even 0))

-- the visit list has 682 buckets for four ways and four moves, and 1,170 for eight ways and three
pub most_visits_are : (2 * sum_of_powers 4 4 ≡ 682) × (2 * sum_of_powers 8 3 ≡ 1170)
most_visits_are = (refl, refl)
