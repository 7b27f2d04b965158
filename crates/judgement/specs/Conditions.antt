-- Wish 5's eight conditions, in its order: for each, which run, slot, counter or place breaks it, on any memory. Assumes nothing.
use Rattle.std.specs.Prelude.{ℕ, ◌+◌, ◌%◌, ◌^◌, Bool, false, not, ◌&&◌, ◌||◌, List, [], ◌∷◌, length, get_or, leb, eqb}
use Rattle.model.specs.Choice.{choose, range, any}
use Rattle.model.specs.Memory.{Mem, word, tag, place, damaged, animal, permission, stamp, recent, live}
use Rattle.model.specs.Shape.{Shape, Ways, bucket, second_of, good_slots, good_counters, good_items, shape_of}

-- how many numbers of a list pass a test
unfoldable pub count : (ℕ → Bool) → List ℕ → ℕ
count f [] = 0
count f (i ∷ l) = choose (f i) 1 0 + count f l

-- the word y is occupied and points to place p
unfoldable pub names : ℕ → ℕ → Bool
names p y = not (eqb y 0) && eqb (place y) p

-- q is another place than p with the animal x
unfoldable pub twin : List ℕ → ℕ → ℕ → ℕ → Bool
twin l x p q = not (eqb q p) && eqb (animal l q) x

-- 1, shapes: run r, 0 slots, 1 counters, 2 items, has a wrong length
unfoldable pub is_misshapen : Ways → (s v i r : ℕ) → Bool
is_misshapen W s v i r = get_or (not (good_slots W s) ∷ not (good_counters v) ∷ not (good_items i) ∷ []) r false

-- 2: among M places, the word in slot i of T is damaged
abbrev pub is_hurt : ℕ → List ℕ → ℕ → Bool
is_hurt M T i = damaged M (get_or T i 0)

-- 3: counter c isn't even
abbrev pub is_uneven : List ℕ → ℕ → Bool
is_uneven C c = not (eqb (get_or C c 0 % 2) 0)

module _ (Y : Shape) where
  -- the word y in slot i is right for x, the animal of its place: x is a number, y has its tag, and the bucket is one of its two
  unfoldable pub right_word : ℕ → ℕ → ℕ → Bool
  right_word x y i =
      not (eqb x 0) && (eqb (tag y) (Y.tag_of x) && (eqb (bucket Y i) (Y.first_of x) || eqb (bucket Y i) (second_of Y x)))

  module _ (m : Mem) where
    -- 4: slot i is occupied and doesn't point to a live place whose animal has that tag and that bucket as one of its two
    unfoldable pub is_stray : ℕ → Bool
    is_stray i = not (eqb (word m i) 0) && not (right_word (animal m.items (place (word m i))) (word m i) i)

    -- 5: place p is live, and not exactly one of all slots points to it
    unfoldable pub is_unsought : ℕ → Bool
    is_unsought p = live m.items p && not (eqb (count (λ i. names p (word m i)) (range 0 (length m.slots))) 1)

    -- 6: place p is live, and another one of all places holds the same animal
    unfoldable pub is_doubled : ℕ → Bool
    is_doubled p = live m.items p && any (twin m.items (animal m.items p) p) (range 0 Y.places)

-- 7: the permission of place p, live or vacant, doesn't fit 32 bits
abbrev pub is_wide : List ℕ → ℕ → Bool
is_wide l p = leb (2 ^ 32) (permission l p)

-- 8: place p is vacant and not all zero
abbrev pub is_unswept : List ℕ → ℕ → Bool
is_unswept l p = eqb (animal l p) 0 && not (eqb (permission l p) 0 && (eqb (stamp l p) 0 && eqb (recent l p) 0))

-- a condition: how many things it looks at, and which of them break it
pub record Condition : Type 0 where
  pub extent : ℕ
  pub breaks : ℕ → Bool

module _ (W : Ways) (m : Mem) where
  abbrev Y : Shape
  Y = shape_of W m

  -- the eight, in the wish's order
  abbrev pub conditions : List Condition
  conditions =
      record { extent = 3; breaks = is_misshapen W (length m.slots) (length m.counters) (length m.items) }
      ∷ record { extent = length m.slots; breaks = is_hurt Y.places m.slots }
      ∷ record { extent = length m.counters; breaks = is_uneven m.counters }
      ∷ record { extent = length m.slots; breaks = is_stray Y m }
      ∷ record { extent = Y.places; breaks = is_unsought Y m }
      ∷ record { extent = Y.places; breaks = is_doubled Y m }
      ∷ record { extent = Y.places; breaks = is_wide m.items }
      ∷ record { extent = Y.places; breaks = is_unswept m.items }
      ∷ []
