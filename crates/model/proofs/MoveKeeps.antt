-- A move that may be made changes nothing that the next step asks first, on any memory: no counter's parity, no slot's damage, and who was
-- absent stays absent. Assumes nothing.
use Prim.Native.Nat.{ℕ, ◌*◌, ◌%◌, ◌<◌, ◌≤◌}
use native.Mathlib.Omega.{arith}
use native.Mathlib.Decide.{ℕ_discrete, dec_lt}
use mathlib.Core.Path.{◌≡◌, refl, sym, ap, ◌∙◌}
use mathlib.Core.Logic.{dite}
use mathlib.Core.Bool.{true, false}
use Rattle.std.specs.Prelude.{Option, Some, None}
use mathlib.Core.List.{List, Memᴰ as In}
use lib.ListN.{length, get_or, length-set}
use lib.Seq.{get_or-set_same, get_or-set_other, set_out}
use lib.Dec.{eqb}
use Rattle.model.specs.Choice.{choose, there}
use Rattle.model.specs.Memory.{Mem, animal, damaged, place, tag, word}
use Rattle.model.specs.Shape.{Home, Shape, bucket, counter_of, homes}
use Rattle.model.specs.Stores.{whole}
use Rattle.model.specs.Moves.{Legal, as_move}
use Rattle.model.specs.Calls.{busy, held, hit, hits, home_damage, move_block, place_at}
use Rattle.model.specs.InSteps.{MayMove}
use Rattle.model.specs.declared.MoveRecord.{MoveRecord}
use Rattle.model.proofs.ShapeLaws.{Lawful}
use Rattle.model.proofs.ListLaws.{First, both_no, both_yes, first_is, first_same, found, missing, true_false}
use Rattle.model.proofs.HomeSlots.{home_in, in_home}
use Rattle.model.proofs.MovedWords.{across, at_else, at_from, at_to}
use Rattle.model.proofs.KeepBlocks.{free_sound, up}
use Rattle.model.proofs.MaySteps.{may_legal}

-- two additions to a counter leave every counter's parity
parity : (l : List ℕ) (c j : ℕ) → get_or (up (up l c) c) j 0 % 2 ≡ get_or l j 0 % 2
parity l c j =
    dite (dec_lt c (length l))
    (λ h. dite (ℕ_discrete j c) (λ e. let k : c < length (up l c) = rw length-set h in simp (e, get_or-set_same) (omega arith)) λ ne. simp get_or-set_other)
    λ h. let k : length l ≤ c = omega arith in simp set_out

-- the hit, or none
pub no_hit : (m : Mem) (o : Option ℕ) → place_at m o ≡ None → o ≡ None
no_hit m None e = refl
no_hit m (Some i) e = true_false {b = true} refl (ap there e)

module _ (Y : Shape) (L : Lawful Y) (m : Mem) (v : MoveRecord) (h : MayMove Y m.slots v) where
  abbrev m' : Mem
  m' = whole (move_block Y m.slots (as_move v)) m

  abbrev l : Legal Y.layout m.slots (as_move v)
  l = may_legal Y m.slots v h

  -- a property of a slot's word: of the destination it is the source's, of the source a free slot's, else what it was
  at_slot : (P : ℕ → ℕ → Type 0) → P v.to (word m v.from) → P v.from 0 → ((i : ℕ) → P i (word m i)) → (i : ℕ) → P i (word m' i)
  at_slot P to from rest i =
      dite (ℕ_discrete i v.to) (λ e. rw (e, at_to Y.layout L.other_twice l) to) λ ne.
      dite (ℕ_discrete i v.from) (λ e. rw (e, at_from Y.layout L.other_twice l) from) λ ne'.
      rw (at_else Y.layout L.other_twice l i ne ne') (rest i)

  same_damage : (i : ℕ) → damaged Y.places (word m' i) ≡ damaged Y.places (word m i)
  same_damage =
      at_slot (λ i w. damaged Y.places w ≡ damaged Y.places (word m i)) (rw (h.sound, h.free) (sym (free_sound Y)))
      (rw h.sound (free_sound Y)) λ i. refl

  module _ (x : ℕ) where
    pub calm_later : busy Y m x ≡ false → busy Y m' x ≡ false
    calm_later e = ap (λ n. eqb n 1) (parity m.counters _ (counter_of Y x)) ∙ e

    pub sound_later : home_damage Y m x ≡ false → home_damage Y m' x ≡ false
    sound_later e =
        ap there (first_same (λ i. damaged Y.places (word m' i)) (λ i. damaged Y.places (word m i)) same_damage (homes Y x)) ∙ e

    -- a word with the animal's tag moves inside of its pair: so no hit comes about
    module _ (long : length m.slots ≡ Y.buckets * Y.layout.ways) where
      no_hits : ((i : ℕ) → In i (homes Y x) → hits Y m x i ≡ false) → (i : ℕ) → In i (homes Y x) → hits Y m' x i ≡ false
      unfolding hits tag
      no_hits before =
          at_slot (λ i w. In i (homes Y x) → choose (eqb (tag w) (Y.tag_of x)) (eqb (animal m.items (place w)) x) false ≡ false) to from before
        where
          w : ℕ
          w = word m v.from

          to : In v.to (homes Y x) → choose (eqb (tag w) (Y.tag_of x)) (eqb (animal m.items (place w)) x) false ≡ false
          to q =
              both_no (tag w) (Y.tag_of x) (animal m.items (place w)) x λ t a.
              let there : Home Y x (bucket Y v.from) = source t (in_home Y x v.to q) in
              true_false (hit_by t a) (before v.from (home_in Y m long h.occupied there))
            where
              hit_by : tag w ≡ Y.tag_of x → animal m.items (place w) ≡ x → hits Y m x v.from ≡ true
              hit_by t a = both_yes t a

              source : tag w ≡ Y.tag_of x → Home Y x (bucket Y v.to) → Home Y x (bucket Y v.from)
              source t b =
                  across Y.layout L.other_twice (sym (L.other_twice (Y.tag_of x) (bucket Y v.from)) ∙ ap (Y.layout.other (Y.tag_of x)) (sym (rw t at h.goes))) b

          from : In v.from (homes Y x) → choose (eqb (tag 0) (Y.tag_of x)) (eqb (animal m.items (place 0)) x) false ≡ false
          from q = both_no (tag 0) (Y.tag_of x) (animal m.items (place 0)) x λ t a. absurd (omega (arith, L.tag_low x))

      pub away_later : held Y m x ≡ None → held Y m' x ≡ None
      unfolding hit
      away_later e = ap (place_at m') (go (first_is (hits Y m x) (homes Y x)) (first_is (hits Y m' x) (homes Y x)) (no_hit m (hit Y m x) e))
        where
          go : {o o' : Option ℕ} → First (hits Y m x) (homes Y x) o → First (hits Y m' x) (homes Y x) o' → o ≡ None → o' ≡ None
          go (found q t) f e = true_false {b = true} refl (ap there e)
          go (missing n) (missing n') e = refl
          go (missing n) (found {i = i} q t) e = true_false t (no_hits n i q)
