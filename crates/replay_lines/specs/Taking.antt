-- What a word of a row takes from a word of a line. Assumes nothing.
-- A word of a row is N, a number; P, a number of 32 bits; B, a number of bytes that the program's buffer has; or stands for itself.
use Rattle.std.specs.Prelude.{ℕ, Bool, true, false, List, [], ◌∷◌, Option, Some, None}
use Prim.Native.Char.{code}
use Rattle.model.specs.Choice.{choose}
use Rattle.replay_words.specs.Words.{number, same}

-- the largest number that a word of a row takes, if it takes one
unfoldable pub bound : List ℕ → Option ℕ
bound p =
    choose (same p (code "N" ∷ [])) (Some 18446744073709551615)
    (choose (same p (code "P" ∷ [])) (Some 4294967295) (choose (same p (code "B" ∷ [])) (Some 81920) None))

-- a number as the only one
abbrev pub alone : Option ℕ → Option (List ℕ)
alone None = None
alone (Some n) = Some (n ∷ [])

-- what a word of a row takes, given the largest number that it takes
abbrev pub taken_up_to : Option ℕ → List ℕ → List ℕ → Option (List ℕ)
taken_up_to None p w = choose (same p w) (Some []) None
taken_up_to (Some top) p w = alone (number top w)

-- the numbers that a word of a row takes from a word of a line: one, none where it stands for itself; or it does not fit
unfoldable pub taken : List ℕ → List ℕ → Option (List ℕ)
taken p w = taken_up_to (bound p) p w

abbrev pub is_some : Option (List ℕ) → Bool
is_some None = false
is_some (Some ns) = true

-- whether it fits
unfoldable pub takes : List ℕ → List ℕ → Bool
takes p w = is_some (taken p w)
