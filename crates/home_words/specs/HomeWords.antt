-- The words of an animal's home slots, and what is looked for among them. Assumes nothing.
use Rattle.std.specs.Prelude.{ℕ, ◌+◌, ◌*◌, Bool, false, List, [], ◌∷◌, ◌++◌, map, get_or, eqb}
use Rattle.model.specs.Choice.{choose, range}
use Rattle.model.specs.Memory.{animal, place, tag}

-- the words of two buckets, f and s, of w slots each
abbrev pub home_words : ℕ → List ℕ → ℕ → ℕ → List ℕ
home_words w T f s = map (λ i. get_or T i 0) (range (f * w) w ++ range (s * w) w)

-- the sum of the words that have a tag
unfoldable pub tag_sum : ℕ → List ℕ → ℕ
tag_sum t [] = 0
tag_sum t (w ∷ ws) = choose (eqb (tag w) t) w 0 + tag_sum t ws

-- the word has the tag, and its place holds the number
unfoldable pub leads : List ℕ → ℕ → ℕ → ℕ → Bool
leads l t x w = choose (eqb (tag w) t) (eqb (animal l (place w)) x) false
