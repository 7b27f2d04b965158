-- Words of the argument for the fewest moves: paths over slots, levels, and what a shortest path is. Assumes nothing.
use Prim.Native.Nat.{ℕ, zero, suc, ◌+◌, ◌*◌, ◌/◌, ◌<◌, ◌≤◌}
use mathlib.Core.Path.{◌≡◌}
use mathlib.Core.Logic.{◌≢◌}
use mathlib.Core.List.{List, [], ◌∷◌, ◌++◌, Memᴰ as Mem}
use lib.ListN.{length, get_or}
use Rattle.model.specs.Shape.{Layout}
use Rattle.model.specs.Moves.{Free, Move, Run, moved, moved_by, word_in}
use Rattle.model.specs.Visits.{hop, lands, next_level, visits}

-- x is none of a list's numbers; the numbers are pairwise different
abbrev pub Away : ℕ → List ℕ → Type 0
Away x [] = Unit {0}
Away x (y ∷ ys) = (x ≢ y) × Away x ys

abbrev pub Distinct : List ℕ → Type 0
Distinct [] = Unit {0}
Distinct (x ∷ xs) = Away x xs × Distinct xs

-- the first slot of a path that ends at slot r
abbrev pub into : List ℕ → ℕ → ℕ
into [] r = r
into (s ∷ p) r = s

-- each of some moves finds in its source, when its turn comes in the slots U, the word that stands there in T
abbrev pub Untouched : List ℕ → List ℕ → List Move → Type 0
Untouched T U [] = Unit {0}
Untouched T U (m ∷ ms) = (get_or U m.from 0 ≡ get_or T m.from 0) × Untouched T (moved U m) ms

module _ (S : Layout) where
  -- level k of the visit list, where bs is level 0
  unfoldable pub level : List ℕ → ℕ → List ℕ → List ℕ
  level T zero bs = bs
  level T (suc k) bs = level T k (next_level S T bs)

  -- a path from bucket b is the slots that it goes by: they are slots of a bucket; the buckets that it comes to, and the last
  abbrev pub Slots : List ℕ → Type 0
  Slots [] = Unit {0}
  Slots (s ∷ p) = (s < S.ways) × Slots p

  abbrev pub stops : List ℕ → ℕ → List ℕ → List ℕ
  stops T b [] = []
  stops T b (s ∷ p) = hop S T b s ∷ stops T (hop S T b s) p

  abbrev pub walk : List ℕ → ℕ → List ℕ → ℕ
  walk T b [] = b
  walk T b (s ∷ p) = walk T (hop S T b s) p

  -- the moves along a path to slot r of its last bucket: the far end first, each into the slot just freed
  abbrev pub path_moves : List ℕ → ℕ → List ℕ → ℕ → List Move
  path_moves T b [] r = []
  path_moves T b (s ∷ p) r =
      path_moves T (hop S T b s) p r
      ++ (record { from = b * S.ways + s; to = hop S T b s * S.ways + into p r } ∷ [])

  module _ (T : List ℕ) (bs : List ℕ) where
    -- no sequence of at most d legal moves leaves a free slot in a bucket of bs
    abbrev pub Shut : ℕ → Type 0
    Shut d = (ms : List Move) → length ms ≤ d → Run S T ms → (b : ℕ) → Mem b bs → ¬ Free S (moved_by T ms) b

    -- no bucket of the visit list has a free slot
    abbrev pub AllFull : ℕ → Type 0
    AllFull d = (v : ℕ) → Mem v (visits S T d bs) → ¬ Free S T v

    -- a path from a home b to a bucket with the free slot r, and no bucket of an earlier level has a free slot
    pub record Found (b : ℕ) (p : List ℕ) (r : ℕ) : Type 0 where
      pub home : Mem b bs
      pub slots : Slots p
      pub slot : r < S.ways
      pub free : word_in S T (walk T b p) r ≡ 0
      pub first : (k v : ℕ) → k < length p → Mem v (level T k bs) → ¬ Free S T v

    -- the path's buckets differ, the moves along it are legal one after the other, move what stood there at first and free a slot of the
    -- home, and no fewer moves do
    pub record Fewest (b : ℕ) (p : List ℕ) (r : ℕ) : Type 0 where
      pub different : Distinct (b ∷ stops T b p)
      pub run : Run S T (path_moves T b p r)
      pub untouched : Untouched T T (path_moves T b p r)
      pub count : length (path_moves T b p r) ≡ length p
      pub slot : into p r < S.ways
      pub freed : word_in S (moved_by T (path_moves T b p r)) b (into p r) ≡ 0
      pub fewest : (ms : List Move) → Run S T ms → (c : ℕ) → Mem c bs → Free S (moved_by T ms) c → length p ≤ length ms

    -- the moves ms are legal one after the other and move what stood there at first, the slot i or, if there are moves, the source of the
    -- last is then free and in a home, and no fewer moves leave a free slot in a home
    pub record Shortest (i : ℕ) (ms : List Move) : Type 0 where
      pub run : Run S T ms
      pub untouched : Untouched T T ms
      pub inside : lands i ms < length T
      pub freed : get_or (moved_by T ms) (lands i ms) 0 ≡ 0
      pub home : Mem (lands i ms / S.ways) bs
      pub fewest : (ms' : List Move) → Run S T ms' → (c : ℕ) → Mem c bs → Free S (moved_by T ms') c → length ms ≤ length ms'
