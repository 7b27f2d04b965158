-- What a line of a dump loads: its run, and the run's words. Assumes nothing.
use Rattle.std.specs.Prelude.{ℕ, List, [], ◌∷◌, eqb, ltb, Option, Some, None}
use Rattle.model.specs.Choice.{choose}
use Rattle.replay_words.specs.Words.{number, same, without_comment, without_return, words}
use Rattle.replay_print.specs.Text.{bytes}
use Rattle.replay_lines.specs.Reasons.{instead}
use Rattle.replay_loads.specs.declared.Run.{Run}
use Rattle.replay_loads.specs.declared.Run.TheVariants as runs

-- words that are all numbers; or why the first that is none is none
pub data Weighed : Type 0 where
  good : (ws : List ℕ) → Weighed
  bad : (why : ℕ) → Weighed

-- a word in front of others, given what number it is
abbrev pub in_front : (top : ℕ) → List ℕ → Option ℕ → Weighed → Weighed
in_front top w None r = bad (instead (Some top) w)
in_front top w (Some n) (good ws) = good (n ∷ ws)
in_front top w (Some n) (bad y) = bad y

-- words, each a number up to top
unfoldable pub weighed : (top : ℕ) → List (List ℕ) → Weighed
weighed top [] = good []
weighed top (w ∷ ws) = in_front top w (number top w) (weighed top ws)

-- the run that a word names: 0 slots, 1 counters, 2 items; 3 is none
unfoldable pub run_named : List ℕ → ℕ
run_named w = choose (same w (bytes "slots")) 0 (choose (same w (bytes "counters")) 1 (choose (same w (bytes "items")) 2 3))

-- a run of a table as its number
abbrev pub run_number : Run → ℕ
run_number runs.Slots = 0
run_number runs.Counters = 1
run_number runs.Items = 2

-- the largest word of a run
abbrev pub top_of : ℕ → ℕ
top_of r = choose (ltb r 2) 4294967295 18446744073709551615

-- a line that loads no run; one that names a run and is not understood, and why; one that makes a run as long as it has words, with these words
pub data Load : Type 0 where
  other : Load
  faulty : (why : ℕ) → Load
  loads : (run : ℕ) (ws : List ℕ) → Load

abbrev pub loaded_with : ℕ → Weighed → Load
loaded_with r (good ws) = loads r ws
loaded_with r (bad y) = faulty y

-- by the first of some words
unfoldable pub load_of : List (List ℕ) → Load
load_of [] = other
load_of (w ∷ ws) = choose (eqb (run_named w) 3) other (loaded_with (run_named w) (weighed (top_of (run_named w)) ws))

-- what the bytes of a line load, given without its LF
unfoldable pub loading : List ℕ → Load
loading bs = load_of (words (without_comment (without_return bs)))
