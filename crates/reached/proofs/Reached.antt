-- The memories of the P examples are reached from fresh, and so is refusal 6. Assumes nothing.
use Prim.Native.Nat.{ℕ}
use mathlib.Core.Path.{◌≡◌, refl, ap, ◌∙◌}
use mathlib.Core.List.{List, [], ◌∷◌}
use Rattle.model.specs.Shape.{four}
use Rattle.model.specs.Answers.{refused}
use Rattle.model.specs.Calling.{did, grant, set_animal}
use Rattle.model.specs.Demands.{Story, table}
use Rattle.model.specs.Ours.{gate}
use Rattle.model.specs.Examples.{both_full, two_tags}
use Rattle.refuted.proofs.Refuted.{computing, each_typed, lent, set_each}

-- N = 2: animals 1 to 8 fill both buckets
abbrev pub eight_animals : List ℕ
eight_animals = 1 ∷ 2 ∷ 3 ∷ 4 ∷ 5 ∷ 6 ∷ 7 ∷ 8 ∷ []

abbrev pub full_in : Story four
unfolding computing
full_in = record { memory = lent 8 1 36; right = refl; calls = set_each eight_animals; typed = each_typed eight_animals }

pub full_reached : table four gate full_in ≡ both_full
unfolding computing
full_reached = refl

-- and then a ninth finds no room
pub six_reached : gate.answer (table four gate full_in) (did (set_animal (grant 9 7 100 100))) ≡ refused 6
unfolding computing
six_reached = ap (λ m. gate.answer m (did (set_animal (grant 9 7 100 100)))) full_reached ∙ refl

-- N = 4: bucket 0 with tags 1, 1, 2, 1, bucket 1 with tag 1 four times
abbrev pub tagged_animals : List ℕ
tagged_animals = 358 ∷ 687 ∷ 1012 ∷ 1334 ∷ 248 ∷ 734 ∷ 913 ∷ 1710 ∷ []

abbrev pub tags_in : Story four
unfolding computing
tags_in = record { memory = lent 16 4 36; right = refl; calls = set_each tagged_animals; typed = each_typed tagged_animals }

pub tags_reached : table four gate tags_in ≡ two_tags
unfolding computing
tags_reached = refl
