-- The call of a line as it was understood. Assumes nothing.
use Rattle.std.specs.Prelude.{ℕ, ◌+◌, Bool, ◌&&◌, List, [], ◌∷◌, ◌++◌, get_or, leb}
use Prim.Native.Char.{code}
use Rattle.model.specs.Choice.{choose}
use Rattle.replay_print.specs.Text.{bytes}
use Rattle.replay_print.specs.Print.{decimal_of}

-- a capital in a row stands for a number
abbrev pub is_capital : ℕ → Bool
is_capital b = leb (code "A") b && leb b (code "Z")

-- what stands for a byte of a row, with number i as the next one
unfoldable pub in_place : List ℕ → ℕ → ℕ → List ℕ
in_place xs i b = choose (is_capital b) (decimal_of (get_or xs i 0)) (b ∷ [])

-- which number is the next one behind it
unfoldable pub behind : ℕ → ℕ → ℕ
behind i b = choose (is_capital b) (i + 1) i

-- a row with the numbers from i on in the places of its capitals
unfoldable pub filled_in : List ℕ → ℕ → List ℕ → List ℕ
filled_in xs i [] = []
filled_in xs i (b ∷ bs) = in_place xs i b ++ filled_in xs (behind i b) bs

-- line n and its call, before its answer; nothing where the row is empty
unfoldable pub echo : ℕ → List ℕ → List ℕ → List ℕ
echo n [] xs = []
echo n (b ∷ bs) xs = decimal_of n ++ (bytes ": " ++ (filled_in xs 0 (b ∷ bs) ++ bytes " -> "))
