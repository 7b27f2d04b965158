-- A poke of one word. Assumes nothing.
use Rattle.std.specs.Prelude.{ℕ, Bool, false, ◌≡◌, List, length, set, leb, ltb}
use Rattle.model.specs.Choice.{choose}

-- a run whose words are at most top has such a word, and the new one fits
abbrev pub can_poke : ℕ → ℕ → ℕ → List ℕ → Bool
can_poke top at word run = choose (ltb at (length run)) (leb word top) false

-- the run afterwards
abbrev pub poked : ℕ → ℕ → ℕ → List ℕ → List ℕ
poked top at word run = choose (can_poke top at word run) (set run at word) run

pub record Poked (top at word : ℕ) (before after : List ℕ) (r : Bool) : Type 0 where
  pub told : r ≡ can_poke top at word before
  pub left : after ≡ poked top at word before
