-- The wish's rule at its edges, worked out by hand: what the definitions say beside what the documents say. proofs/AsWritten has one
-- statement for each table. Assumes nothing.
use Rattle.std.specs.Prelude.{ℕ, List, [], ◌∷◌, ◌++◌, replicate}
use Rattle.model.specs.Memory.{Mem, mem}
use Rattle.model.specs.Age.{no_minute, retired_mark}
use Rattle.model.specs.Calling.{did, read}
use Rattle.model.specs.Examples.{Example, answers, minus, numbers, one_held, one_hurt, plus}
use Rattle.plain.specs.Plain.{plain_read}

-- what the plain engine answers, as the paper's number and values: 0 absent, 1 fresh, 2 old, 3 ahead
abbrev pub plain_numbers : List ℕ → ℕ → ℕ → ℕ → List ℕ
plain_numbers l x limit now = numbers (plain_read l x limit now)

-- one place: animal 1, permission 5, stamp 100
abbrev pub one_place : List ℕ
one_place = 1 ∷ 5 ∷ 100 ∷ 1 ∷ []

-- a vacant place; animal 1 twice, permission 6 and stamp 200, then permission 5 and stamp 100; and animal 2 behind them
abbrev pub four_places : List ℕ
four_places = 0 ∷ 0 ∷ 0 ∷ 0 ∷ 1 ∷ 6 ∷ 200 ∷ 0 ∷ (one_place ++ (2 ∷ 7 ∷ 100 ∷ 0 ∷ []))

abbrev pub plain_examples : List Example
plain_examples =
    -- document 01's, with wish 4. Stamp 100, limit 720: now 820 fresh, 0 left; now 821 old, -1; now 99 ahead, and no number; far overdue,
    -- -2^62; and so is a retired one, at every minute and under every limit
    record { says = plain_numbers one_place 1 720 820; document = 0 ∷ 1 ∷ 5 ∷ plus 0 }
    ∷ record { says = plain_numbers one_place 1 720 821; document = 0 ∷ 2 ∷ minus 1 }
    ∷ record { says = plain_numbers one_place 1 720 99; document = 0 ∷ 3 ∷ [] }
    ∷ record { says = plain_numbers one_place 1 720 18446744073709551614; document = 0 ∷ 2 ∷ minus 4611686018427387904 }
    ∷ record { says = plain_numbers (1 ∷ 5 ∷ retired_mark ∷ 0 ∷ []) 1 0 0; document = 0 ∷ 2 ∷ minus 4611686018427387904 }
    ∷ record { says = plain_numbers (1 ∷ 5 ∷ retired_mark ∷ 0 ∷ []) 1 10080 18446744073709551614; document = 0 ∷ 2 ∷ minus 4611686018427387904 }
    -- the first place with that number, behind a vacant one; the last place; a number that no place has; one that stands in another word
    ∷ record { says = plain_numbers four_places 1 720 300; document = 0 ∷ 1 ∷ 6 ∷ plus 620 }
    ∷ record { says = plain_numbers four_places 2 720 300; document = 0 ∷ 1 ∷ 7 ∷ plus 520 }
    ∷ record { says = plain_numbers four_places 3 720 300; document = 0 ∷ 0 ∷ [] }
    ∷ record { says = plain_numbers four_places 6 720 300; document = 0 ∷ 0 ∷ [] }
    -- a permission of 2^32 + 5 is told as 5
    ∷ record { says = plain_numbers (1 ∷ 4294967301 ∷ 100 ∷ 1 ∷ []) 1 720 100; document = 0 ∷ 1 ∷ 5 ∷ plus 720 }
    -- 1 comes before 2 and 3; 4,096 places are good, 4,097 are not, nor are none, a half, or one and a half
    ∷ record { says = plain_numbers [] 0 10081 no_minute; document = 1 ∷ [] }
    ∷ record { says = plain_numbers (1 ∷ 5 ∷ []) 1 720 100; document = 1 ∷ [] }
    ∷ record { says = plain_numbers (one_place ++ (2 ∷ 7 ∷ [])) 1 720 100; document = 1 ∷ [] }
    ∷ record { says = plain_numbers (replicate 16388 0) 0 720 100; document = 1 ∷ [] }
    ∷ record { says = plain_numbers (replicate 16384 0) 0 720 100; document = 2 ∷ [] }
    -- 2 comes before 3, and where a place is vacant
    ∷ record { says = plain_numbers four_places 0 10081 no_minute; document = 2 ∷ [] }
    ∷ record { says = plain_numbers four_places 0 720 300; document = 2 ∷ [] }
    -- 3 for a limit above 10,080 and for now = 2^64 - 1, of an absent animal too
    ∷ record { says = plain_numbers one_place 1 10080 100; document = 0 ∷ 1 ∷ 5 ∷ plus 10080 }
    ∷ record { says = plain_numbers one_place 1 10081 100; document = 3 ∷ [] }
    ∷ record { says = plain_numbers one_place 2 720 no_minute; document = 3 ∷ [] }
    ∷ []

-- read and the plain engine side by side
abbrev pub both : Mem → ℕ → ℕ → ℕ → List ℕ
both m x limit now = answers m (did (read x limit now)) ++ plain_numbers m.items x limit now

abbrev pub side_by_side : List Example
side_by_side =
    -- they agree; read refuses 4, for a damaged home word, or 8, for an odd counter, and the plain engine walks on
    record { says = both one_held 1 720 200; document = 0 ∷ 1 ∷ 5 ∷ plus 620 ++ (0 ∷ 1 ∷ 5 ∷ plus 620) }
    ∷ record { says = both (one_hurt 2) 1 720 200; document = 4 ∷ 0 ∷ 1 ∷ 5 ∷ plus 620 }
    ∷ record { says = both (one_hurt 3) 1 720 200; document = 8 ∷ 0 ∷ 1 ∷ 5 ∷ plus 620 }
    -- the slots, or the counters, have a wrong length: 1, and the plain engine looks at neither
    ∷ record { says = both (mem (replicate 12 0) (2 ∷ []) one_place) 1 720 200; document = 1 ∷ 0 ∷ 1 ∷ 5 ∷ plus 620 }
    ∷ record { says = both (mem (4063232 ∷ replicate 7 0) [] one_place) 1 720 200; document = 1 ∷ 0 ∷ 1 ∷ 5 ∷ plus 620 }
    -- her slot word became 0: absent, and a place has her all the same
    ∷ record { says = both (mem (replicate 8 0) (2 ∷ []) one_place) 1 720 200; document = 0 ∷ 0 ∷ 0 ∷ 1 ∷ 5 ∷ plus 620 }
    -- two places have her, and her slot leads to the second
    ∷ record { says = both (mem (4063233 ∷ replicate 7 0) (2 ∷ []) (1 ∷ 6 ∷ 190 ∷ 1 ∷ one_place)) 1 720 200; document = 0 ∷ 1 ∷ 5 ∷ plus 620 ++ (0 ∷ 1 ∷ 6 ∷ plus 710) }
    ∷ []
