-- What a whole text is answered with. Assumes nothing.
use Rattle.std.specs.Prelude.{ℕ, suc, ◌+◌, Bool, List, [], ◌∷◌, ◌++◌, length, get_or, eqb, ltb}
use Rattle.model.specs.Choice.{choose}
use Rattle.replay_print.specs.Text.{bytes}
use Rattle.replay_words.specs.Words.{lines, without_mark}
use Rattle.replay_lines.specs.Line.{said, padded}
use Rattle.replay_loads.specs.Load.{Load, faulty, loading, loads, other}
use Rattle.replay_answers.specs.Text.{not_understood}
use Rattle.replay_echo.specs.Echo.{echo}
use Rattle.replay_rows.specs.World.{World, Reply, nothing}
use Rattle.replay_rows.specs.Meaning.{Row, rows, meaning, says}
use Rattle.replay_rows.specs.Loaded.{loads_run, shown_load}

-- the rows as a text, a line each
abbrev pub row_lines : List Row → List ℕ
row_lines [] = []
row_lines (t ∷ ts) = bytes t.says ++ (bytes "\n" ++ row_lines ts)

abbrev pub language : List ℕ
language = row_lines rows

-- line n and its call before the answer, if they are to be shown
unfoldable pub shown : Bool → ℕ → ℕ → List ℕ → List ℕ
shown e n r xs = choose e (echo n (get_or (lines language) r []) xs) []

-- what line n is answered with, and the world behind it
abbrev pub follows : Bool → ℕ → ℕ → List ℕ → World → Reply
follows e n r xs w = record { text = shown e n r xs ++ (meaning r n xs w).text; world = (meaning r n xs w).world }

-- the same of a line of a dump
abbrev pub loaded : Bool → ℕ → ℕ → List ℕ → World → Reply
loaded e n r ws w = record { text = shown_load e n r ++ (loads_run r ws w).text; world = (loads_run r ws w).world }

-- whether a line follows a row; its numbers, of which no row has more than eight; where it follows none, the first says why
abbrev pub heard : List ℕ → Bool
heard l = ltb (said language l).row (length rows)

abbrev pub numbers_of : List ℕ → List ℕ
numbers_of l = padded 8 (said language l).numbers

-- a line that follows no row, by what it loads
abbrev pub reply_by : Load → Bool → ℕ → World → List ℕ → Reply
reply_by other e n w l = says (not_understood n (get_or (numbers_of l) 0 0)) w
reply_by (faulty y) e n w l = says (not_understood n y) w
reply_by (loads r ws) e n w l = loaded e n r ws w

unfoldable pub reply_to : Bool → ℕ → World → List ℕ → Reply
reply_to e n w l = choose (heard l) (follows e n (said language l).row (numbers_of l) w) (reply_by (loading l) e n w l)

-- the lines behind n others, one after the other, each in the world that the one before it left
unfoldable pub replayed : Bool → ℕ → World → List (List ℕ) → List ℕ
replayed e n w [] = []
replayed e n w (l ∷ ls) = (reply_to e (suc n) w l).text ++ replayed e (suc n) (reply_to e (suc n) w l).world ls

-- a text from its start, on no table, with the calls shown or not
abbrev pub answers : Bool → List ℕ → List ℕ
answers e text = replayed e 0 nothing (lines (without_mark text))

-- one if a line that follows no row is not understood, by what it loads
abbrev pub unheard_by : Load → ℕ
unheard_by other = 1
unheard_by (faulty y) = 1
unheard_by (loads r ws) = 0

unfoldable pub unheard_line : List ℕ → ℕ
unheard_line l = choose (heard l) 0 (unheard_by (loading l))

-- how many lines are not understood
unfoldable pub missed_in : List (List ℕ) → ℕ
missed_in [] = 0
missed_in (l ∷ ls) = unheard_line l + missed_in ls

abbrev pub missed : List ℕ → ℕ
missed text = missed_in (lines (without_mark text))

-- 1 if the answers could not be written; else 2 if some line was not understood; else 0
abbrev pub status : (written : Bool) → ℕ → ℕ
status written n = choose written (choose (eqb n 0) 0 2) 1
