-- Lines and what they say by a small table, by computation. Assumes nothing.
use Prim.Native.Nat.{ℕ}
use mathlib.Core.Path.{◌≡◌, refl}
use mathlib.Core.List.{List, [], ◌∷◌}
use Rattle.replay_words.specs.Words.{all_digits, before, filled, lines, number, number_from, pieces, same, value, without_comment, without_return, words}
use Rattle.replay_print.specs.Text.{bytes}
use Rattle.replay_lines.specs.Taking.{bound, taken, takes}
use Rattle.replay_lines.specs.Reasons.{behind, furthest, instead, parting, why_not}
use Rattle.replay_lines.specs.Line.{Said, first_row, fitting, padded, said, said_by}

-- five rows: what a blank line follows, two kinds of set, and two more
abbrev table : List ℕ
table = bytes "\nfresh N N N\nset N P N N\nset N P N N twice\nevict"

abbrev row : ℕ → List ℕ → Said
row r ns = record { row = r; numbers = ns }

pub understood :
    (said table (bytes "fresh 8 4 16") ≡ row 1 (8 ∷ 4 ∷ 16 ∷ []))
    × (said table (bytes "set 7 15 20 30") ≡ row 2 (7 ∷ 15 ∷ 20 ∷ 30 ∷ []))
    × (said table (bytes "\tset  7 015\t20 30 twice\r") ≡ row 3 (7 ∷ 15 ∷ 20 ∷ 30 ∷ []))
    × (said table (bytes "set 1 4294967295 2 3") ≡ row 2 (1 ∷ 4294967295 ∷ 2 ∷ 3 ∷ []))
    × (said table (bytes "fresh 1 18446744073709551615 000") ≡ row 1 (1 ∷ 18446744073709551615 ∷ 0 ∷ []))
    × (said table (bytes "set 1 2 3 4#x") ≡ row 2 (1 ∷ 2 ∷ 3 ∷ 4 ∷ []))
    × (said table (bytes "set 1 2 3 4 # twice") ≡ row 2 (1 ∷ 2 ∷ 3 ∷ 4 ∷ []))
    × (said table (bytes "evict") ≡ row 4 [])
unfolding said said_by first_row fitting taken bound lines words pieces filled before same number number_from value all_digits without_comment without_return
understood = (refl, refl, refl, refl, refl, refl, refl, refl)

pub blank :
    (said table (bytes "") ≡ row 0 [])
    × (said table (bytes "  ") ≡ row 0 [])
    × (said table (bytes "\t\r") ≡ row 0 [])
    × (said table (bytes "# set 7 15 20 30") ≡ row 0 [])
    × (said table (bytes " #") ≡ row 0 [])
unfolding said said_by first_row fitting taken bound lines words pieces filled before same number number_from value all_digits without_comment without_return
blank = (refl, refl, refl, refl, refl)

-- no row fits: the number of rows, and the reason
pub not_understood :
    (said table (bytes "fresh 1 18446744073709551616 2") ≡ row 5 (3 ∷ []))
    × (said table (bytes "fresh 1 111111111111111111111 2") ≡ row 5 (3 ∷ []))
    × (said table (bytes "fresh +1 2 3") ≡ row 5 (0 ∷ []))
    × (said table (bytes "fresh 1a 2 3") ≡ row 5 (0 ∷ []))
    × (said table (bytes "fresh") ≡ row 5 (1 ∷ []))
    × (said table (bytes "fresh 1 2") ≡ row 5 (1 ∷ []))
    × (said table (bytes "fresh 1 2 3 4") ≡ row 5 (2 ∷ []))
    × (said table (bytes "set 1 4294967296 2 3") ≡ row 5 (3 ∷ []))
    × (said table (bytes "set 1 2 3 4 twic") ≡ row 5 (0 ∷ []))
    × (said table (bytes "set 1 2 3 4 5") ≡ row 5 (2 ∷ []))
    × (said table (bytes "set 1 2 3 4 twice 5") ≡ row 5 (2 ∷ []))
    × (said table (bytes "set 1 2 3 # 4") ≡ row 5 (1 ∷ []))
    × (said table (bytes "evict 1") ≡ row 5 (2 ∷ []))
    × (said table (bytes "evict now") ≡ row 5 (0 ∷ []))
    × (said table (bytes "Evict") ≡ row 5 (0 ∷ []))
    × (said table (bytes "evicts") ≡ row 5 (0 ∷ []))
    × (said table (bytes "evict\r\r") ≡ row 5 (0 ∷ []))
    × (said table (bytes "12 13") ≡ row 5 (0 ∷ []))
    × (said table (bytes "N") ≡ row 5 (0 ∷ []))
unfolding said said_by first_row fitting taken bound lines words pieces filled before same number number_from value all_digits without_comment without_return why_not furthest parting takes behind instead
not_understood = (refl, refl, refl, refl, refl, refl, refl, refl, refl, refl, refl, refl, refl, refl, refl, refl, refl, refl, refl)

-- zeros behind the numbers, and none beyond the array
pub in_an_array : (padded 5 (7 ∷ 15 ∷ 30 ∷ []) ≡ 7 ∷ 15 ∷ 30 ∷ 0 ∷ 0 ∷ []) × (padded 2 (7 ∷ 15 ∷ 30 ∷ []) ≡ 7 ∷ 15 ∷ [])
in_an_array = (refl, refl)
