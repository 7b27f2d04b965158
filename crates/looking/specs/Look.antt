-- What every call about an animal looks at, on lent memory of any ways. Assumes nothing.
use Rattle.std.specs.Prelude.{ℕ, ◌+◌, ◌*◌, ◌<◌, ◌≤◌, ◌≡◌, ◌≢◌, Bool, true, false, List, length, eqb, Option, Result, Ok, Err}
use Rattle.model.specs.Choice.{choose, first}
use Rattle.model.specs.Memory.{Mem}
use Rattle.model.specs.Shape.{Ways, counter_of, right_lengths, second_of, shape_of}
use Rattle.model.specs.Calls.{busy, home_damage}
use Rattle.model.specs.declared.Refusal.{Refusal}
use Rattle.model.specs.declared.Refusal.TheVariants as refusal
use Rattle.home_words.specs.HomeWords.{home_words, leads}
use Rattle.hashing.specs.declared.Homes.{Homes}
use Rattle.looking.specs.declared.Home.{Home}
use Rattle.looking.specs.declared.Looked.{Looked}

-- refusals 1, 2 and 3 in their turn: good says whether the lengths are, x is the animal, bad whether the time is out of range
abbrev pub early : Bool → ℕ → Bool → Result Unit Refusal
early good x bad =
    choose good (choose (eqb x 0) (Err refusal.NoAnimal) (choose bad (Err refusal.Minutes) (Ok tt))) (Err refusal.Lengths)

module _ (W : Ways) where
  -- none of them is due
  pub record Passed (m : Mem) (x : ℕ) (bad : Bool) : Type 0 where
    pub lengths : right_lengths W m ≡ true
    pub real : x ≢ 0
    pub timely : bad ≡ false

  -- the four numbers of animal x in the memory m, and that they lie in its runs
  pub record HomesIn (m : Mem) (x : ℕ) (r : Homes) : Type 0 where
    pub tag_is : r.tag ≡ (shape_of W m).tag_of x
    pub first_is : r.first ≡ (shape_of W m).first_of x
    pub second_is : r.second ≡ second_of (shape_of W m) x
    pub counter_is : r.counter ≡ counter_of (shape_of W m) x
    pub tag_low : 1 ≤ r.tag
    pub tag_high : r.tag < 256
    pub first_in : r.first * W.ways + W.ways ≤ length m.slots
    pub second_in : r.second * W.ways + W.ways ≤ length m.slots
    pub counter_in : r.counter < length m.counters

  -- refusals 8 and 4 in their turn, else what comes behind them
  abbrev pub sound : {A : Type 0} → Mem → ℕ → A → Result A Refusal
  sound m x a =
      choose (busy (shape_of W m) m x) (Err refusal.Busy) (choose (home_damage (shape_of W m) m x) (Err refusal.Damaged) (Ok a))

  -- refusals 1, 2, 3, 8 and 4 in their turn
  abbrev pub due : Mem → ℕ → Bool → Result Unit Refusal
  due m x bad =
      choose (right_lengths W m)
      (choose (eqb x 0) (Err refusal.NoAnimal) (choose bad (Err refusal.Minutes) (sound m x tt))) (Err refusal.Lengths)

  -- the words of the animal's home slots, and the word of its hit
  abbrev pub own_words : Mem → ℕ → List ℕ
  own_words m x = home_words W.ways m.slots ((shape_of W m).first_of x) (second_of (shape_of W m) x)

  abbrev pub own_hit : Mem → ℕ → Option ℕ
  own_hit m x = first (leads m.items ((shape_of W m).tag_of x) x) (own_words m x)

  pub record LooksHome (m : Mem) (x : ℕ) (r : Home) : Type 0 where
    pub words_are : r.words ≡ sound m x (own_words m x)
    pub homes_are : HomesIn m x r.homes

  pub record LooksUp (m : Mem) (x : ℕ) (r : Looked) : Type 0 where
    pub hit_is : r.hit ≡ sound m x (own_hit m x)
    pub homes_are : HomesIn m x r.homes
