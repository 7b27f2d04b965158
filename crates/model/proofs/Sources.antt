-- The moves that the search finds empty slots of buckets that it visited: where it met no damage, their words are sound. Assumes nothing.
use Prim.Native.Nat.{ℕ, zero, suc, ◌+◌, ◌-◌, ◌*◌, ◌/◌, ◌%◌, ◌<◌, ◌≤◌}
use native.Mathlib.Nat.{div-le_self, mod-lt}
use native.Mathlib.Omega.{arith}
use native.Mathlib.Decide.{dec_lt}
use mathlib.Core.Path.{◌≡◌, refl}
use mathlib.Core.Logic.{dite}
use mathlib.Core.Bool.{Bool, true, false}
use Rattle.std.specs.Prelude.{Option}
use mathlib.Core.List.{List, [], ◌∷◌, Memᴰ as In}
use lib.ListN.{length, get_or, take, length-take}
use lib.Seq.{get_or-take}
use borrow.Author.Tests.{le-ltb, lt-ltb}
use Rattle.model.specs.Choice.{any, range, there}
use Rattle.model.specs.Memory.{damage_at, damaged}
use Rattle.model.specs.Shape.{Layout}
use Rattle.model.specs.Moves.{Move}
use Rattle.model.specs.Visits.{climb, free_slot, meets_damage, search_moves, stop, stop_bucket, visit_list}
use Rattle.model.proofs.ListLaws.{First, first_is, found, missing, range_in, true_false}
use Rattle.model.proofs.Positions.{mem_at}

-- the word in the source of each move is sound among M places
abbrev pub Sound : ℕ → List ℕ → List Move → Type 0
Sound M T [] = Unit {0}
Sound M T (v ∷ vs) = (damaged M (get_or T v.from 0) ≡ false) × Sound M T vs

-- what no number of a list passes
pub none_of : (f : ℕ → Bool) (l : List ℕ) → any f l ≡ false → {i : ℕ} → In i l → f i ≡ false
none_of f l e q = go (first_is f l) e q
  where
    go : {o : Option ℕ} {i : ℕ} → First f l o → there o ≡ false → In i l → f i ≡ false
    go (found t u) e q = true_false {b = true} refl e
    go {i = i} (missing h) e q = h i q

module _ (S : Layout) (T : List ℕ) (M : ℕ) (Q : List ℕ) (h : ℕ) where
  -- the buckets of Q before position q have sound words
  module _ (top : ℕ) (sound : (j s : ℕ) → j < top → s < S.ways → damaged M (get_or T (get_or Q j 0 * S.ways + s) 0) ≡ false) where
    climb_sound : 0 < S.ways → 0 < h → (f q r : ℕ) → q ≤ top → Sound M T (climb S Q h f q r)
    unfolding climb
    climb_sound pos Some zero q r l = tt
    climb_sound pos Some (suc f) q r l =
        dite (dec_lt q h) (λ k. rw (lt-ltb q h k) tt) λ k.
        let low : (q - h) / S.ways ≤ q - h = div-le_self (q - h) S.ways in
        rw (le-ltb q h (omega arith)) (
          sound ((q - h) / S.ways) ((q - h) % S.ways) (omega arith) (mod-lt (q - h) pos),
          climb_sound pos Some f ((q - h) / S.ways) ((q - h) % S.ways) (omega arith),
        )

-- the search from the buckets bs within d moves, which met no word that is damaged among M places and stopped before the end
module _ (S : Layout) (T bs : List ℕ) (M d : ℕ) (pos : 0 < S.ways) (Some : 0 < length bs)
    (undamaged : meets_damage S T bs M d ≡ false) (h : stop S T bs d < length (visit_list S T bs d)) where
  visited_sound : (j s : ℕ) → j < stop S T bs d → s < S.ways → damaged M (get_or T (get_or (visit_list S T bs d) j 0 * S.ways + s) 0) ≡ false
  visited_sound j s l k =
      let n = stop S T bs d + 1 in
      let inside : j < length (take n (visit_list S T bs d)) = rw length-take (omega arith) in
      let b = get_or (visit_list S T bs d) j 0 in
      let early : j < stop S T bs d + 1 = omega arith in
      let there : In b (take n (visit_list S T bs d)) = rw get_or-take at (mem_at (take n (visit_list S T bs d)) j inside) in
      none_of (λ i. damaged M (get_or T i 0)) (range (b * S.ways) S.ways)
      (none_of (λ b. damage_at M T (range (b * S.ways) S.ways)) (take n (visit_list S T bs d)) undamaged there)
      (range_in (b * S.ways) S.ways (omega arith) (omega arith))

  pub moves_sound : Sound M T (search_moves S T bs d)
  moves_sound =
      climb_sound S T M (visit_list S T bs d) (length bs) (stop S T bs d) visited_sound pos Some d (stop S T bs d)
      (free_slot S T (stop_bucket S T bs d)) (omega arith)
