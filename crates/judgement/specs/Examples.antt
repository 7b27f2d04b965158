-- The verdict at its edges, worked out by a program that goes by the wish's words: what the definitions say beside what the wish says.
-- proofs/AsWritten has one statement for them all. Assumes nothing.
use Rattle.std.specs.Prelude.{ℕ, List, [], ◌∷◌, replicate}
use Rattle.model.specs.Memory.{mem}
use Rattle.model.specs.Shape.{four}
use Rattle.model.specs.Examples.{Example}
use Rattle.judgement.specs.Verdict.{Verdict, sound, broken, judgement}

-- 0 is a yes; else the condition and the number that breaks it
abbrev pub told : Verdict → List ℕ
told sound = 0 ∷ []
told (broken c i) = c ∷ i ∷ []

abbrev judged : List ℕ → List ℕ → List ℕ → List ℕ
judged s c i = told (judgement four (mem s c i))

-- animal 1 has the tag 62, so that 4063232 points to place 0 for it, and animal 5 the tag 200: 13107202 points to place 2
abbrev pub verdicts : List Example
verdicts =
    -- a table with two animals
    record { says = judged (0 ∷ 4063232 ∷ 13107202 ∷ 0 ∷ 0 ∷ 0 ∷ 0 ∷ 0 ∷ []) (0 ∷ 0 ∷ []) (1 ∷ 7 ∷ 100 ∷ 1 ∷ 0 ∷ 0 ∷ 0 ∷ 0 ∷ 5 ∷ 7 ∷ 100 ∷ 1 ∷ 0 ∷ 0 ∷ 0 ∷ 0 ∷ []); document = 0 ∷ [] }
    -- all vacant; one counter, one place
    ∷ record { says = judged (0 ∷ 0 ∷ 0 ∷ 0 ∷ 0 ∷ 0 ∷ 0 ∷ 0 ∷ []) (0 ∷ []) (0 ∷ 0 ∷ 0 ∷ 0 ∷ []); document = 0 ∷ [] }
    -- 1: four slots and no counters, the lower run is told
    ∷ record { says = judged (0 ∷ 0 ∷ 0 ∷ 0 ∷ []) ([]) (1 ∷ 7 ∷ 100 ∷ 1 ∷ 0 ∷ 0 ∷ 0 ∷ 0 ∷ 5 ∷ 7 ∷ 100 ∷ 1 ∷ 0 ∷ 0 ∷ 0 ∷ 0 ∷ []); document = 1 ∷ 0 ∷ [] }
    -- no counters; items of length 17 are told after them
    ∷ record { says = judged (0 ∷ 4063232 ∷ 13107202 ∷ 0 ∷ 0 ∷ 0 ∷ 0 ∷ 0 ∷ []) ([]) (1 ∷ 7 ∷ 100 ∷ 1 ∷ 0 ∷ 0 ∷ 0 ∷ 0 ∷ 5 ∷ 7 ∷ 100 ∷ 1 ∷ 0 ∷ 0 ∷ 0 ∷ 0 ∷ 0 ∷ []); document = 1 ∷ 1 ∷ [] }
    -- items of length 17; and before a damaged word
    ∷ record { says = judged (0 ∷ 4063232 ∷ 13107202 ∷ 5 ∷ 0 ∷ 0 ∷ 0 ∷ 0 ∷ []) (0 ∷ 0 ∷ []) (1 ∷ 7 ∷ 100 ∷ 1 ∷ 0 ∷ 0 ∷ 0 ∷ 0 ∷ 5 ∷ 7 ∷ 100 ∷ 1 ∷ 0 ∷ 0 ∷ 0 ∷ 0 ∷ 0 ∷ []); document = 1 ∷ 2 ∷ [] }
    -- 1,025 counters
    ∷ record { says = judged (0 ∷ 4063232 ∷ 13107202 ∷ 0 ∷ 0 ∷ 0 ∷ 0 ∷ 0 ∷ []) (replicate 1025 0) (1 ∷ 7 ∷ 100 ∷ 1 ∷ 0 ∷ 0 ∷ 0 ∷ 0 ∷ 5 ∷ 7 ∷ 100 ∷ 1 ∷ 0 ∷ 0 ∷ 0 ∷ 0 ∷ []); document = 1 ∷ 1 ∷ [] }
    -- 2: place 4 of four, in slot 3; the lower of two; before an odd counter
    ∷ record { says = judged (0 ∷ 4063232 ∷ 13107202 ∷ 196612 ∷ 0 ∷ 7 ∷ 0 ∷ 0 ∷ []) (1 ∷ 0 ∷ []) (1 ∷ 7 ∷ 100 ∷ 1 ∷ 0 ∷ 0 ∷ 0 ∷ 0 ∷ 5 ∷ 7 ∷ 100 ∷ 1 ∷ 0 ∷ 0 ∷ 0 ∷ 0 ∷ []); document = 2 ∷ 3 ∷ [] }
    -- a tag of 0, and one of 256
    ∷ record { says = judged (0 ∷ 4063232 ∷ 13107202 ∷ 0 ∷ 0 ∷ 0 ∷ 0 ∷ 1 ∷ []) (0 ∷ 0 ∷ []) (1 ∷ 7 ∷ 100 ∷ 1 ∷ 0 ∷ 0 ∷ 0 ∷ 0 ∷ 5 ∷ 7 ∷ 100 ∷ 1 ∷ 0 ∷ 0 ∷ 0 ∷ 0 ∷ []); document = 2 ∷ 7 ∷ [] }
    ∷ record { says = judged (0 ∷ 4063232 ∷ 13107202 ∷ 0 ∷ 16777216 ∷ 0 ∷ 0 ∷ 0 ∷ []) (0 ∷ 0 ∷ []) (1 ∷ 7 ∷ 100 ∷ 1 ∷ 0 ∷ 0 ∷ 0 ∷ 0 ∷ 5 ∷ 7 ∷ 100 ∷ 1 ∷ 0 ∷ 0 ∷ 0 ∷ 0 ∷ []); document = 2 ∷ 4 ∷ [] }
    -- 3: an odd counter is told before a stray slot
    ∷ record { says = judged (4128768 ∷ 4063232 ∷ 13107202 ∷ 0 ∷ 0 ∷ 0 ∷ 0 ∷ 0 ∷ []) (0 ∷ 3 ∷ []) (1 ∷ 7 ∷ 100 ∷ 1 ∷ 0 ∷ 0 ∷ 0 ∷ 0 ∷ 5 ∷ 7 ∷ 100 ∷ 1 ∷ 0 ∷ 0 ∷ 0 ∷ 0 ∷ []); document = 3 ∷ 1 ∷ [] }
    -- 4: another tag, and no slot points to place 0: 4 is told
    ∷ record { says = judged (0 ∷ 4128770 ∷ 13107202 ∷ 0 ∷ 0 ∷ 0 ∷ 0 ∷ 0 ∷ []) (0 ∷ 0 ∷ []) (1 ∷ 7 ∷ 100 ∷ 1 ∷ 0 ∷ 0 ∷ 0 ∷ 0 ∷ 5 ∷ 7 ∷ 100 ∷ 1 ∷ 0 ∷ 0 ∷ 0 ∷ 0 ∷ []); document = 4 ∷ 1 ∷ [] }
    -- a vacant place; the tag of number 0 is no better
    ∷ record { says = judged (0 ∷ 4063232 ∷ 13107202 ∷ 0 ∷ 0 ∷ 0 ∷ 13107203 ∷ 0 ∷ []) (0 ∷ 0 ∷ []) (1 ∷ 7 ∷ 100 ∷ 1 ∷ 0 ∷ 0 ∷ 0 ∷ 0 ∷ 5 ∷ 7 ∷ 100 ∷ 1 ∷ 0 ∷ 0 ∷ 0 ∷ 0 ∷ []); document = 4 ∷ 6 ∷ [] }
    ∷ record { says = judged (0 ∷ 4063232 ∷ 13107202 ∷ 0 ∷ 0 ∷ 0 ∷ 10158083 ∷ 0 ∷ []) (0 ∷ 0 ∷ []) (1 ∷ 7 ∷ 100 ∷ 1 ∷ 0 ∷ 0 ∷ 0 ∷ 0 ∷ 5 ∷ 7 ∷ 100 ∷ 1 ∷ 0 ∷ 0 ∷ 0 ∷ 0 ∷ []); document = 4 ∷ 6 ∷ [] }
    -- four buckets: animal 1 has buckets 0 and 3, and stands in bucket 1, or in bucket 3
    ∷ record { says = judged (0 ∷ 0 ∷ 0 ∷ 0 ∷ 4063232 ∷ 0 ∷ 0 ∷ 0 ∷ 0 ∷ 0 ∷ 0 ∷ 0 ∷ 0 ∷ 0 ∷ 0 ∷ 0 ∷ []) (0 ∷ []) (1 ∷ 7 ∷ 100 ∷ 1 ∷ []); document = 4 ∷ 4 ∷ [] }
    ∷ record { says = judged (0 ∷ 0 ∷ 0 ∷ 0 ∷ 0 ∷ 0 ∷ 0 ∷ 0 ∷ 0 ∷ 0 ∷ 0 ∷ 0 ∷ 4063232 ∷ 0 ∷ 0 ∷ 0 ∷ []) (0 ∷ []) (1 ∷ 7 ∷ 100 ∷ 1 ∷ []); document = 0 ∷ [] }
    -- 5: no slot points to place 0
    ∷ record { says = judged (0 ∷ 0 ∷ 13107202 ∷ 0 ∷ 0 ∷ 0 ∷ 0 ∷ 0 ∷ []) (0 ∷ 0 ∷ []) (1 ∷ 7 ∷ 100 ∷ 1 ∷ 0 ∷ 0 ∷ 0 ∷ 0 ∷ 5 ∷ 7 ∷ 100 ∷ 1 ∷ 0 ∷ 0 ∷ 0 ∷ 0 ∷ []); document = 5 ∷ 0 ∷ [] }
    -- two slots point to place 2
    ∷ record { says = judged (13107202 ∷ 4063232 ∷ 13107202 ∷ 0 ∷ 0 ∷ 0 ∷ 0 ∷ 0 ∷ []) (0 ∷ 0 ∷ []) (1 ∷ 7 ∷ 100 ∷ 1 ∷ 0 ∷ 0 ∷ 0 ∷ 0 ∷ 5 ∷ 7 ∷ 100 ∷ 1 ∷ 0 ∷ 0 ∷ 0 ∷ 0 ∷ []); document = 5 ∷ 2 ∷ [] }
    -- places 2 and 3 hold animal 5, and no slot points to 3: 5 is told
    ∷ record { says = judged (0 ∷ 4063232 ∷ 13107202 ∷ 0 ∷ 0 ∷ 0 ∷ 0 ∷ 0 ∷ []) (0 ∷ 0 ∷ []) (1 ∷ 7 ∷ 100 ∷ 1 ∷ 0 ∷ 0 ∷ 0 ∷ 0 ∷ 5 ∷ 7 ∷ 100 ∷ 1 ∷ 5 ∷ 0 ∷ 0 ∷ 0 ∷ []); document = 5 ∷ 3 ∷ [] }
    -- 6: places 2 and 3 hold animal 5, each with its slot: the lower is told, and before a wide permission
    ∷ record { says = judged (13107203 ∷ 4063232 ∷ 13107202 ∷ 0 ∷ 0 ∷ 0 ∷ 0 ∷ 0 ∷ []) (0 ∷ 0 ∷ []) (1 ∷ 4294967296 ∷ 100 ∷ 1 ∷ 0 ∷ 0 ∷ 0 ∷ 0 ∷ 5 ∷ 7 ∷ 100 ∷ 1 ∷ 5 ∷ 0 ∷ 0 ∷ 0 ∷ []); document = 6 ∷ 2 ∷ [] }
    -- 7: a permission of 33 bits, where live, and where vacant: before 8
    ∷ record { says = judged (0 ∷ 4063232 ∷ 13107202 ∷ 0 ∷ 0 ∷ 0 ∷ 0 ∷ 0 ∷ []) (0 ∷ 0 ∷ []) (1 ∷ 7 ∷ 100 ∷ 1 ∷ 0 ∷ 0 ∷ 0 ∷ 0 ∷ 5 ∷ 4294967296 ∷ 100 ∷ 1 ∷ 0 ∷ 0 ∷ 0 ∷ 0 ∷ []); document = 7 ∷ 2 ∷ [] }
    ∷ record { says = judged (0 ∷ 4063232 ∷ 13107202 ∷ 0 ∷ 0 ∷ 0 ∷ 0 ∷ 0 ∷ []) (0 ∷ 0 ∷ []) (1 ∷ 7 ∷ 100 ∷ 5 ∷ 0 ∷ 4294967296 ∷ 0 ∷ 0 ∷ 5 ∷ 7 ∷ 100 ∷ 1 ∷ 0 ∷ 0 ∷ 0 ∷ 0 ∷ []); document = 7 ∷ 1 ∷ [] }
    -- 8: a permission, a stamp, a recent word in a vacant place; the lower of two
    ∷ record { says = judged (0 ∷ 4063232 ∷ 13107202 ∷ 0 ∷ 0 ∷ 0 ∷ 0 ∷ 0 ∷ []) (0 ∷ 0 ∷ []) (1 ∷ 7 ∷ 100 ∷ 1 ∷ 0 ∷ 1 ∷ 0 ∷ 0 ∷ 5 ∷ 7 ∷ 100 ∷ 1 ∷ 0 ∷ 0 ∷ 0 ∷ 0 ∷ []); document = 8 ∷ 1 ∷ [] }
    ∷ record { says = judged (0 ∷ 4063232 ∷ 13107202 ∷ 0 ∷ 0 ∷ 0 ∷ 0 ∷ 0 ∷ []) (0 ∷ 0 ∷ []) (1 ∷ 7 ∷ 100 ∷ 1 ∷ 0 ∷ 0 ∷ 0 ∷ 0 ∷ 5 ∷ 7 ∷ 100 ∷ 1 ∷ 0 ∷ 0 ∷ 1 ∷ 0 ∷ []); document = 8 ∷ 3 ∷ [] }
    ∷ record { says = judged (0 ∷ 4063232 ∷ 13107202 ∷ 0 ∷ 0 ∷ 0 ∷ 0 ∷ 0 ∷ []) (0 ∷ 0 ∷ []) (1 ∷ 7 ∷ 100 ∷ 1 ∷ 0 ∷ 0 ∷ 0 ∷ 1 ∷ 5 ∷ 7 ∷ 100 ∷ 1 ∷ 0 ∷ 1 ∷ 0 ∷ 0 ∷ []); document = 8 ∷ 1 ∷ [] }
    -- a live place may have any stamp, and any recent word; a retired one is sound
    ∷ record { says = judged (0 ∷ 4063232 ∷ 13107202 ∷ 0 ∷ 0 ∷ 0 ∷ 0 ∷ 0 ∷ []) (0 ∷ 0 ∷ []) (1 ∷ 4294967295 ∷ 18446744073709551615 ∷ 9 ∷ 0 ∷ 0 ∷ 0 ∷ 0 ∷ 5 ∷ 7 ∷ 100 ∷ 1 ∷ 0 ∷ 0 ∷ 0 ∷ 0 ∷ []); document = 0 ∷ [] }
    ∷ []
