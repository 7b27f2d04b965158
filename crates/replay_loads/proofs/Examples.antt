-- Lines and what they load, by computation. Assumes nothing.
use mathlib.Core.Path.{◌≡◌, refl}
use mathlib.Core.List.{[], ◌∷◌}
use Rattle.replay_words.specs.Words.{all_digits, before, filled, number, number_from, pieces, same, value, without_comment, without_return, words}
use Rattle.replay_print.specs.Text.{bytes}
use Rattle.replay_lines.specs.Reasons.{instead}
use Rattle.replay_loads.specs.Load.{faulty, load_of, loading, loads, other, run_named, weighed}

pub lines_of_a_dump :
    (loading (bytes "slots 0 65537 4294967295") ≡ loads 0 (0 ∷ 65537 ∷ 4294967295 ∷ []))
    × (loading (bytes "counters 2 007") ≡ loads 1 (2 ∷ 7 ∷ []))
    × (loading (bytes "items 18446744073709551615\r") ≡ loads 2 (18446744073709551615 ∷ []))
    × (loading (bytes "\titems  1\t# 2") ≡ loads 2 (1 ∷ []))
    × (loading (bytes "slots") ≡ loads 0 [])
    × (loading (bytes "slots#1") ≡ loads 0 [])
unfolding loading load_of weighed run_named words pieces filled before same number number_from value all_digits without_comment without_return
lines_of_a_dump = (refl, refl, refl, refl, refl, refl)

-- 0 is an unknown word, 3 a number too large; the first bad word says which
pub not_understood :
    (loading (bytes "slots 4294967296") ≡ faulty 3)
    × (loading (bytes "counters 1 4294967296 x") ≡ faulty 3)
    × (loading (bytes "items 18446744073709551616") ≡ faulty 3)
    × (loading (bytes "slots 1 x 4294967296") ≡ faulty 0)
    × (loading (bytes "items -1") ≡ faulty 0)
    × (loading (bytes "slots 1\r\r") ≡ faulty 0)
unfolding loading load_of weighed run_named words pieces filled before same number number_from value all_digits without_comment without_return instead
not_understood = (refl, refl, refl, refl, refl, refl)

pub other_lines :
    (loading (bytes "") ≡ other)
    × (loading (bytes "# slots 1") ≡ other)
    × (loading (bytes "dump") ≡ other)
    × (loading (bytes "slot 1") ≡ other)
    × (loading (bytes "Slots 1") ≡ other)
    × (loading (bytes "poke slots 0 1") ≡ other)
    × (loading (bytes "slots: 1") ≡ other)
unfolding loading load_of weighed run_named words pieces filled before same number number_from value all_digits without_comment without_return
other_lines = (refl, refl, refl, refl, refl, refl, refl)
