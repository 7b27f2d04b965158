-- What is asked of any judge of memory dumps, right or wrong. Assumes nothing.
use Rattle.std.specs.Prelude.{ℕ, ◌≡◌, ◌≢◌, ◌↔◌, true}
use Rattle.model.specs.Memory.{Mem, word, place, animal}
use Rattle.model.specs.Shape.{Shape, Ways, right_lengths, shape_of}
use Rattle.model.specs.WellFormed.{Live, Right, Sole, WellFormed}
use Rattle.model.specs.Demands.{Story, table}
use Rattle.model.specs.Ours.{ours}
use Rattle.judgement.specs.Conditions.{is_stray, is_unsought, is_doubled}
use Rattle.judgement.specs.Verdict.{Verdict, sound, broken, FirstBroken}

module _ (W : Ways) where
  -- the lengths are right and the table is well-formed
  abbrev pub Good : Mem → Type 0
  Good m = (right_lengths W m ≡ true) × WellFormed (shape_of W m) m

  pub record Judges (J : Mem → Verdict) : Type 0 where
    -- it says yes exactly of a good table
    pub yes : (m : Mem) → (J m ≡ sound) ↔ Good m
    -- on a no, it tells the first condition broken and the lowest number that breaks it
    pub no : (m : Mem) (c i : ℕ) → J m ≡ broken c i → FirstBroken W m c i

  -- whatever our own finished calls leave, from a fresh table on, gets a yes
  abbrev pub OursPass : (Mem → Verdict) → Type 0
  OursPass J = (s : Story W) → J (table W (ours W) s) ≡ sound

-- what it is to break 4, 5 and, where the lengths are right, 6, without a count and without a test
module _ (Y : Shape) (m : Mem) where
  abbrev pub StrayIff : Type 0
  StrayIff = (i : ℕ) → (is_stray Y m i ≡ true) ↔ ((word m i ≢ 0) × (¬ Right Y (animal m.items (place (word m i))) (word m i) i))

  abbrev pub UnsoughtIff : Type 0
  UnsoughtIff = (p : ℕ) → (is_unsought Y m p ≡ true) ↔ (Live m.items p × (¬ Sole m.slots p))

  abbrev pub DoubledIff : Type 0
  DoubledIff = (p : ℕ) → (is_doubled Y m p ≡ true) ↔ (Live m.items p × ((q : ℕ) × (q ≢ p) × (animal m.items q ≡ animal m.items p)))

-- a verdict that tells 0 as the lowest number, always
abbrev pub numbered_0 : Verdict → Verdict
numbered_0 sound = sound
numbered_0 (broken c i) = broken c 0
