-- The shape of a table: how many slots a bucket has, how far the search goes, and what the three lengths say. Assumes nothing.
use Rattle.std.specs.Prelude.{ℕ, zero, suc, ◌+◌, ◌*◌, ◌/◌, ◌%◌, ◌^◌, ◌≤◌, min, ◌≡◌, refl, ◌⊎◌, Bool, ◌&&◌, List, [], ◌∷◌, ◌++◌, length, replicate, leb, eqb}
use Rattle.std.proofs.Common.{arith}
use Rattle.model.specs.Choice.{one_of, range}
use Rattle.model.specs.Memory.{Mem, mem}
use Rattle.model.specs.Hash.{Size, hash, tag_from, other_bucket}

-- each of some numbers of buckets is a power of two
abbrev pub Sizes : List ℕ → Type 0
Sizes [] = Unit {0}
Sizes (n ∷ ns) = Size n × Sizes ns

-- a kind of table: the slots of a bucket, the most moves of a set, and the good numbers of buckets
pub record Ways : Type 0 where
  pub ways : ℕ
  pub reach : ℕ
  pub sizes : List ℕ
  pub powers : Sizes sizes

-- the powers of two from 2^(k+1) on, n of them
abbrev pub powers_from : ℕ → ℕ → List ℕ
powers_from k zero = []
powers_from k (suc n) = 2 ^ suc k ∷ powers_from (suc k) n

pub powers_are : (k n : ℕ) → k + n ≤ 11 → Sizes (powers_from k n)
powers_are k zero h = tt
powers_are k (suc n) h =
    (record { log = suc k; low = omega arith; high = omega arith; power = refl }, powers_are (suc k) n (omega arith))

-- the gate's table: four slots a bucket, at most four moves, 2 to 2,048 buckets; and wish 13's: eight, three, 2 to 1,024
abbrev pub four : Ways
four =
    record {
      ways = 4;
      reach = 4;
      sizes = 2 ∷ 4 ∷ 8 ∷ 16 ∷ 32 ∷ 64 ∷ 128 ∷ 256 ∷ 512 ∷ 1024 ∷ 2048 ∷ [];
      powers = powers_are 0 11 (omega arith);
    }

abbrev pub eight : Ways
eight =
    record {
      ways = 8;
      reach = 3;
      sizes = 2 ∷ 4 ∷ 8 ∷ 16 ∷ 32 ∷ 64 ∷ 128 ∷ 256 ∷ 512 ∷ 1024 ∷ [];
      powers = powers_are 0 10 (omega arith);
    }

-- the slots of a bucket, and the other bucket of an entry by its tag and its bucket
pub record Layout : Type 0 where
  pub ways : ℕ
  pub other : ℕ → ℕ → ℕ

-- a table's numbers: its layout, the most moves of a set, how many buckets, counters and places, and an animal's tag and first bucket
pub record Shape : Type 0 where
  pub layout : Layout
  pub reach : ℕ
  pub buckets : ℕ
  pub counters : ℕ
  pub places : ℕ
  pub tag_of : ℕ → ℕ
  pub first_of : ℕ → ℕ

-- document 01's rules for a table of n buckets, v counters and p places
abbrev pub shape : Ways → ℕ → ℕ → ℕ → Shape
shape W n v p =
    record {
      layout = record { ways = W.ways; other = other_bucket n };
      reach = W.reach;
      buckets = n;
      counters = v;
      places = p;
      tag_of = λ x. tag_from (hash x);
      first_of = λ x. hash x % n;
    }

module _ (Y : Shape) where
  abbrev pub other : ℕ → ℕ → ℕ
  other t b = Y.layout.other t b

  -- the bucket that owns slot i
  abbrev pub bucket : ℕ → ℕ
  bucket i = i / Y.layout.ways

  -- the slots of bucket b, in order
  abbrev pub slots_of : ℕ → List ℕ
  slots_of b = range (b * Y.layout.ways) Y.layout.ways

  -- the other bucket of an animal
  abbrev pub second_of : ℕ → ℕ
  second_of x = other (Y.tag_of x) (Y.first_of x)

  -- the two buckets of an animal, first bucket first
  abbrev pub pair : ℕ → List ℕ
  pair x = Y.first_of x ∷ second_of x ∷ []

  -- the home slots of an animal: those of its first bucket, then those of the other
  abbrev pub homes : ℕ → List ℕ
  homes x = slots_of (Y.first_of x) ++ slots_of (second_of x)

  -- b is one of the two buckets of animal x
  abbrev pub Home : ℕ → ℕ → Type 0
  Home x b = (b ≡ Y.first_of x) ⊎ (b ≡ second_of x)

  -- the counter of an entry with tag t in bucket b: the smaller of its two buckets, mod V; and of an animal
  abbrev pub counter_at : ℕ → ℕ → ℕ
  counter_at t b = min b (other t b) % Y.counters

  abbrev pub counter_of : ℕ → ℕ
  counter_of x = counter_at (Y.tag_of x) (Y.first_of x)

  -- what fresh leaves: zero everywhere
  abbrev pub fresh_memory : Mem
  fresh_memory = mem (replicate (Y.buckets * Y.layout.ways) 0) (replicate Y.counters 0) (replicate (4 * Y.places) 0)

-- the lengths of counters and items are good: 1 to 1,024 counters; 1 to 4,096 places of four words
unfoldable pub good_counters : ℕ → Bool
good_counters v = leb 1 v && leb v 1024

unfoldable pub good_items : ℕ → Bool
good_items i = eqb (i % 4) 0 && (leb 4 i && leb i 16384)

module _ (W : Ways) where
  -- the length of the slots is good: whole buckets, a good number of them
  unfoldable pub good_slots : ℕ → Bool
  good_slots s = eqb (s % W.ways) 0 && one_of (s / W.ways) W.sizes

  -- all three lengths are good: else refusal 1
  unfoldable pub good_lengths : ℕ → ℕ → ℕ → Bool
  good_lengths s v i = good_slots s && (good_counters v && good_items i)

  abbrev pub right_lengths : Mem → Bool
  right_lengths m = good_lengths (length m.slots) (length m.counters) (length m.items)

  -- the table that three lengths make
  abbrev pub shape_of : Mem → Shape
  shape_of m = shape W (length m.slots / W.ways) (length m.counters) (length m.items / 4)
