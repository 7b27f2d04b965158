-- What a line says, by a table of rows. Assumes nothing.
use Rattle.std.specs.Prelude.{ℕ, suc, List, [], ◌∷◌, ◌++◌, replicate, Option, Some, None}
use Rattle.std.proofs.lemmas.List.Edits.{sets}
use Rattle.replay_words.specs.Words.{lines, without_comment, without_return, words}
use Rattle.replay_lines.specs.Taking.{taken}
use Rattle.replay_lines.specs.Reasons.{why_not}

-- the numbers of both, if both fit
abbrev pub both : Option (List ℕ) → Option (List ℕ) → Option (List ℕ)
both None o = None
both (Some ns) None = None
both (Some ns) (Some ms) = Some (ns ++ ms)

-- the numbers of a line whose words are as a row says
unfoldable pub fitting : (row line : List (List ℕ)) → Option (List ℕ)
fitting [] [] = Some []
fitting [] (w ∷ ws) = None
fitting (p ∷ ps) [] = None
fitting (p ∷ ps) (w ∷ ws) = both (taken p w) (fitting ps ws)

-- which row a line follows, and its numbers
pub record Said : Type 0 where
  pub row : ℕ
  pub numbers : List ℕ

-- row n if it fits, and else what the others say
abbrev pub or_else : Option (List ℕ) → ℕ → Said → Said
or_else None n s = s
or_else (Some ns) n s = record { row = n; numbers = ns }

-- the first of some rows, counted from n on, that fits; with none, their number and the reason y
unfoldable pub first_row : ℕ → ℕ → List (List ℕ) → List (List ℕ) → Said
first_row y n [] line = record { row = n; numbers = y ∷ [] }
first_row y n (r ∷ rs) line = or_else (fitting (words r) line) n (first_row y (suc n) rs line)

unfoldable pub said_by : List (List ℕ) → List (List ℕ) → Said
said_by rows line = first_row (why_not rows line) 0 rows line

-- what the bytes of a line say, given without its LF
unfoldable pub said : List ℕ → List ℕ → Said
said rows bs = said_by (lines rows) (words (without_comment (without_return bs)))

-- numbers in an array of n words: zeros behind them, and those beyond it dropped
abbrev pub padded : ℕ → List ℕ → List ℕ
padded n ns = sets (replicate n 0) 0 ns
