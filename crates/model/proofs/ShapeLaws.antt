-- What the arguments need of a shape's numbers, and that document 01's rules give it. Assumes nothing.
use Prim.Native.Nat.{ℕ, ◌<◌, ◌≤◌}
use native.Mathlib.Nat.{mod-lt}
use native.Mathlib.Omega.{arith}
use mathlib.Core.Path.{◌≡◌}
use mathlib.Core.Logic.{◌≢◌}
use Rattle.model.specs.Memory.{tag}
use Rattle.model.specs.Hash.{Size, hash}
use Rattle.model.specs.Shape.{Shape, Ways, shape}
use Rattle.model.proofs.Hash.{hash_lt, other_lt, other_twice, size_pos, tag_range}

pub record Lawful (Y : Shape) : Type 0 where
  pub tag_low : (x : ℕ) → 1 ≤ Y.tag_of x
  pub tag_high : (x : ℕ) → Y.tag_of x ≤ 255
  pub first_in : (x : ℕ) → Y.first_of x < Y.buckets
  pub other_in : (t b : ℕ) → b < Y.buckets → Y.layout.other t b < Y.buckets
  pub other_twice : (t b : ℕ) → Y.layout.other t (Y.layout.other t b) ≡ b
  pub some_counter : 0 < Y.counters
  pub few_places : Y.places ≤ 65536

pub lawful : (W : Ways) (n v p : ℕ) → Size n → 0 < v → p ≤ 65536 → Lawful (shape W n v p)
lawful W n v p s hv hp =
    record {
      tag_low = λ x. (tag_range (hash x) (hash_lt x)).0;
      tag_high = λ x. (tag_range (hash x) (hash_lt x)).1;
      first_in = λ x. mod-lt (hash x) (omega (arith, size_pos s));
      other_in = λ t b h. other_lt s t b h;
      other_twice = λ t b. other_twice n t b;
      some_counter = hv;
      few_places = hp;
    }

-- a word with an animal's tag is not 0
pub tagged_word : {Y : Shape} → Lawful Y → (y x : ℕ) → tag y ≡ Y.tag_of x → y ≢ 0
unfolding tag
tagged_word L y x e z = omega (arith, L.tag_low x)
