-- What is printed, in bytes. Assumes nothing.
use Rattle.std.specs.Prelude.{ℕ, zero, suc, ◌+◌, ◌-◌, ◌/◌, ◌%◌, List, [], ◌∷◌, ◌++◌, take, drop, ℤ, pos, negsuc, ltb}
use Prim.Native.Char.{code}
use Rattle.model.specs.Choice.{choose}
use Rattle.replay_print.specs.Text.{bytes}

-- the decimal digits of x, none for 0; f turns are enough if x is at most f
unfoldable pub digits : ℕ → ℕ → List ℕ
digits zero x = []
digits (suc f) zero = []
digits (suc f) (suc x) = digits f (suc x / 10) ++ ((code "0" + suc x % 10) ∷ [])

unfoldable pub decimal_of : ℕ → List ℕ
decimal_of zero = bytes "0"
decimal_of (suc x) = digits (suc x) (suc x)

-- a signed number: a minus stands before the digits of a negative one
unfoldable pub signed_of : ℤ → List ℕ
signed_of (pos n) = decimal_of n
signed_of (negsuc n) = bytes "-" ++ decimal_of (suc n)

-- 0 to 9, then a to f
unfoldable pub hex_digit : ℕ → ℕ
hex_digit n = choose (ltb n 10) (code "0" + n) (code "a" + (n - 10))

-- the two hexadecimal digits of a byte
unfoldable pub hex_of : ℕ → List ℕ
hex_of b = hex_digit (b / 16) ∷ hex_digit (b % 16) ∷ []

-- the words of a line and its end
abbrev pub line : List ℕ → List ℕ
line words = words ++ bytes "\n"

-- a word and a number
unfoldable pub numbered : List ℕ → ℕ → List ℕ
numbered word n = word ++ bytes " " ++ decimal_of n

-- the line of a word and its numbers
unfoldable pub told : List ℕ → List ℕ → List ℕ
told word [] = line word
told word (n ∷ ns) = told (numbered word n) ns

-- the line of words and a signed number
abbrev pub signed_line : List ℕ → ℤ → List ℕ
signed_line words z = line (words ++ bytes " " ++ signed_of z)

-- two digits for each byte
unfoldable pub hexes : List ℕ → List ℕ
hexes [] = []
hexes (b ∷ bs) = hex_of b ++ hexes bs

-- n records of 20 bytes, a line each
unfoldable pub record_lines : ℕ → List ℕ → List ℕ
record_lines zero bs = []
record_lines (suc n) bs = line (hexes (take 20 bs)) ++ record_lines n (drop 20 bs)
