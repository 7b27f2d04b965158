-- Every statement that is owed of the judge; proofs/Theorems has them all. Assumes nothing.
use Rattle.std.specs.Prelude.{ℕ, ◌/◌, ◌≡◌, ◌≢◌, ◌↔◌, true, length, eqb, Result}
use Rattle.model.specs.Choice.{any, range}
use Rattle.model.specs.Memory.{Mem, animal, place, word}
use Rattle.model.specs.Shape.{Ways, eight, four, homes, right_lengths, shape_of}
use Rattle.model.specs.WellFormed.{Live, Right, Sole}
use Rattle.model.specs.Ours.{ours}
use Rattle.model.specs.Examples.{AllHold}
use Rattle.judgement.specs.Conditions.{count, names, twin}
use Rattle.judgement.specs.Verdict.{Verdict, broken, judgement, sound, FirstBroken}
use Rattle.judgement.specs.Judges.{Good, Judges, OursPass, DoubledIff, StrayIff, UnsoughtIff, numbered_0}
use Rattle.judgement.specs.FromThenOn.{SoundThenDemands}
use Rattle.judgement.specs.Said.{said}
use Rattle.judgement.specs.Examples.{verdicts}
use Rattle.judgement.specs.declared.Broken.{Broken}

module _ (W : Ways) (m : Mem) where
  -- condition 4 holds of every slot; and 5 of every place
  abbrev pub AllRight : Type 0
  AllRight = (i : ℕ) → word m i ≢ 0 → Right (shape_of W m) (animal m.items (place (word m i))) (word m i) i

  abbrev pub AllSole : Type 0
  AllSole = (p : ℕ) → Live m.items p → Sole m.slots p

  -- where 4 holds, exactly one of all slots points to a place exactly if exactly one home slot of its animal does
  abbrev pub PointersAtHome : Type 0
  PointersAtHome = right_lengths W m ≡ true → AllRight → (p : ℕ)
      → eqb (count (λ i. names p (word m i)) (range 0 (length m.slots))) 1
      ≡ eqb (count (λ i. names p (word m i)) (homes (shape_of W m) (animal m.items p))) 1

  -- where 4 and 5 hold, some place is a live place's twin exactly if the word of some home slot of its animal leads to one
  abbrev pub TwinsAtHome : Type 0
  TwinsAtHome = right_lengths W m ≡ true → AllRight → AllSole → (p : ℕ) → Live m.items p
      → any (twin m.items (animal m.items p) p) (range 0 (length m.items / 4))
      ≡ any (λ i. twin m.items (animal m.items p) p (place (word m i))) (homes (shape_of W m) (animal m.items p))

pub record Owed : Type 0 where
  -- yes exactly if the eight conditions hold; no with the first broken and the lowest number that breaks it; for any ways
  pub sound_iff : (W : Ways) (m : Mem) → (judgement W m ≡ sound) ↔ Good W m
  pub broken_first : (W : Ways) (m : Mem) (c i : ℕ) → judgement W m ≡ broken c i → FirstBroken W m c i
  -- so ours is a judge, and no judge can say anything else, on any memory
  pub ours_judges : (W : Ways) → Judges W (judgement W)
  pub one_judge : (W : Ways) (J : Mem → Verdict) → Judges W J → (m : Mem) → J m ≡ judgement W m
  -- wrong judges: a yes to all, a no to all, and 0 told as the lowest always
  pub yes_to_all : ¬ Judges four (λ m. sound)
  pub no_to_all : (c i : ℕ) → ¬ Judges four (λ m. broken c i)
  pub number_0_always : ¬ Judges four (λ m. numbered_0 (judgement four m))
  -- whatever our own finished calls leave, from a fresh table on, gets a yes, four ways and eight
  pub ours_sound : OursPass four (judgement four)
  pub eight_sound : OursPass eight (judgement eight)
  -- after a yes, whoever built the table, demands 2 and 3 hold from then on
  pub sound_then_demands : (W : Ways) (m : Mem) → SoundThenDemands W (ours W) m
  -- 5 and 6 need only the home slots: the code goes by that
  pub pointers_at_home : (W : Ways) (m : Mem) → PointersAtHome W m
  pub twins_at_home : (W : Ways) (m : Mem) → TwinsAtHome W m
  -- what it is to break 4, 5 and 6, without a count and without a test
  pub stray_iff : (W : Ways) (m : Mem) → StrayIff (shape_of W m) m
  pub unsought_iff : (W : Ways) (m : Mem) → UnsoughtIff (shape_of W m) m
  pub doubled_iff : (W : Ways) (m : Mem) → right_lengths W m ≡ true → DoubledIff (shape_of W m) m
  -- the call's contract leaves nothing open
  pub decides_judge : (W : Ways) (m : Mem) (r s : Result Unit Broken) → said r ≡ judgement W m → said s ≡ judgement W m → r ≡ s
  -- the definitions say what the wish says at its edges
  pub all_hold : AllHold verdicts
