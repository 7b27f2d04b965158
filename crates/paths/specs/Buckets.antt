-- The buckets of a table: their layout, the words of one, and the lowest free one of them if none is damaged. Assumes nothing.
use Rattle.std.specs.Prelude.{ℕ, ◌*◌, Bool, List, Option, Result, Ok, Err, map, position, get_or, eqb}
use Rattle.std.specs.List.{list_any}
use Rattle.model.specs.Choice.{choose, range}
use Rattle.model.specs.Memory.{damage_at, damaged}
use Rattle.model.specs.Hash.{other_bucket}
use Rattle.model.specs.Shape.{Layout, Ways}
use Rattle.model.specs.declared.Refusal.{Refusal}
use Rattle.model.specs.declared.Refusal.TheVariants.{Damaged}

-- the layout of n buckets: the slots of each, and the rule of the other bucket
abbrev pub layout_of : Ways → ℕ → Layout
layout_of W n = record { ways = W.ways; other = other_bucket n }

-- the words of bucket b, of w slots, in order
abbrev pub bucket_words : ℕ → List ℕ → ℕ → List ℕ
bucket_words w T b = map (λ i. get_or T i 0) (range (b * w) w)

-- the lowest free one of a bucket's words, if there is one and none is damaged among m places
abbrev pub sound_free : ℕ → List ℕ → Result (Option ℕ) Refusal
sound_free m w = choose (list_any (damaged m) w) (Err Damaged) (Ok (position (λ y. eqb y 0) w))

-- bucket b has a word that is damaged among m places
abbrev pub bucket_damage : Layout → List ℕ → ℕ → ℕ → Bool
bucket_damage S T b m = damage_at m T (range (b * S.ways) S.ways)
