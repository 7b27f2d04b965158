-- Dumps and what they say, by computation. Assumes nothing.
use mathlib.Core.Path.{◌≡◌, refl}
use mathlib.Core.List.{[], ◌∷◌}
use Rattle.model.specs.Memory.{mem}
use Rattle.replay_words.specs.Words.{all_digits, before, filled, lines, mark_length, number, number_from, pieces, same, value, without_comment, without_mark, without_return, words}
use Rattle.replay_print.specs.Text.{bytes}
use Rattle.replay_lines.specs.Reasons.{instead}
use Rattle.replay_loads.specs.Load.{load_of, loading, run_named, weighed}
use Rattle.judge_program.specs.Dump.{dump_of, is_blank, unclear, whole, with_lines}

-- blank lines and comments say nothing, a run may come again, and the first line that is not understood ends it
pub dumps :
    (dump_of (bytes "slots 0 7\ncounters 2\nitems 1 5 2 1\n") ≡ whole (mem (0 ∷ 7 ∷ []) (2 ∷ []) (1 ∷ 5 ∷ 2 ∷ 1 ∷ [])))
    × (dump_of (bytes "# a day\n\nitems 1\r\nslots 8 # bytes\nitems") ≡ whole (mem (8 ∷ []) [] []))
    × (dump_of [] ≡ whole (mem [] [] []))
    × (dump_of (bytes "slots 1\n\ncounters x 4294967296\nitem 1") ≡ unclear 3 0)
    × (dump_of (bytes "slots 4294967296\nslots 1") ≡ unclear 1 3)
    × (dump_of (bytes "slots 1\ndump\n") ≡ unclear 2 0)
unfolding dump_of with_lines is_blank loading load_of weighed run_named lines words pieces filled before same number number_from value all_digits without_comment without_return without_mark mark_length instead
dumps = (refl, refl, refl, refl, refl, refl)
