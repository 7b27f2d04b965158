-- Ours is a judge, and every judge says what ours says; what it is to break 4, 5 and 6 in the wish's words. Assumes nothing.
use Prim.Native.Nat.{ℕ, ◌*◌}
use native.Mathlib.Omega.{arith}
use mathlib.Core.Path.{◌≡◌, refl, sym, ◌∙◌}
use mathlib.Core.Logic.{◌≢◌}
use mathlib.Core.Bool.{Bool, true, not}
use mathlib.Core.List.{List}
use lib.ListN.{length}
use lib.Dec.{eqb}
use borrow.Author.Tests.{eqb-false, ne_eqb, not-true}
use Rattle.model.specs.Choice.{range, any}
use Rattle.model.specs.Memory.{Mem, word, place, animal, live}
use Rattle.model.specs.Shape.{Shape, Ways}
use Rattle.model.proofs.ListLaws.{bool, true_false, range_in}
use Rattle.model.proofs.Lent.{and_is}
use Rattle.judgement.specs.Conditions.{count, names, twin, right_word, is_stray, is_unsought, is_doubled}
use Rattle.judgement.specs.Verdict.{Verdict, sound, broken, judgement}
use Rattle.judgement.specs.Judges.{Judges, StrayIff, UnsoughtIff, DoubledIff}
use Rattle.judgement.proofs.Counting.{once_range, single_count, count_single, in_any, any_in}
use Rattle.judgement.proofs.Conditions.{and_yes, full_yes, live_yes, yes_live, right_is, is_right, single_sole, sole_single, live_inside, twin_is, is_twin}
use Rattle.judgement.proofs.Sound.{sound_iff, broken_first, first_broken, well_sound}

module _ (W : Ways) where
  pub ours_judges : Judges W (judgement W)
  ours_judges = record { yes = sound_iff W; no = broken_first W }

  -- every judge says what ours says
  pub one_judge : (J : Mem → Verdict) → Judges W J → (m : Mem) → J m ≡ judgement W m
  one_judge J j m = go (J m) refl
    where
      go : (v : Verdict) → J m ≡ v → J m ≡ judgement W m
      go sound e = let h = (j.yes m).0 e in e ∙ sym (well_sound W m h.0 h.1)
      go (broken c i) e = e ∙ sym (first_broken W m c i (j.no m c i e))

-- conditions 4, 5 and 6, broken, in the wish's words
module _ (Y : Shape) (m : Mem) where
  pub stray_words : StrayIff Y m
  unfolding is_stray
  stray_words i = (
    λ t. let a = and_is (not (eqb (word m i) 0)) (not (right_word Y (animal m.items (place (word m i))) (word m i) i)) t in (
      eqb-false (word m i) 0 (not-true (eqb (word m i) 0) a.0),
      λ r. true_false (is_right Y (animal m.items (place (word m i))) (word m i) i r)
          (not-true (right_word Y (animal m.items (place (word m i))) (word m i) i) a.1),
    ),
    λ h. and_yes (full_yes (word m i) h.0) (bool
        (λ b. right_word Y (animal m.items (place (word m i))) (word m i) i ≡ b → not b ≡ true)
        (right_word Y (animal m.items (place (word m i))) (word m i) i)
        (λ q t. absurd (h.1 (right_is Y (animal m.items (place (word m i))) (word m i) i t))) (λ q t. refl) refl),
  )

  pub unsought_words : UnsoughtIff Y m
  unfolding is_unsought
  unsought_words p = (
    λ t. let a = and_is (live m.items p) (not (eqb (count f all) 1)) t in (
      yes_live m.items p a.0,
      λ s. eqb-false (count f all) 1 (not-true (eqb (count f all) 1) a.1)
          (single_count f all (once_range 0 (length m.slots)) (sole_single Y m p s)),
    ),
    λ h. let ne : count f all ≢ 1 = λ e. h.1 (single_sole Y m p (count_single f all e)) in
        and_yes (live_yes m.items p h.0) (rw (ne_eqb (count f all) 1 ne)),
  )
    where
      f : ℕ → Bool
      f i = names p (word m i)

      all : List ℕ
      all = range 0 (length m.slots)

  module _ (long : length m.items ≡ 4 * Y.places) where
    pub doubled_words : DoubledIff Y m
    unfolding is_doubled
    doubled_words p = (
      λ t. let a = and_is (live m.items p) (any f all) t in
          let q = in_any f all a.1 in
          let e = twin_is m.items (animal m.items p) p q.0 q.2 in
          (yes_live m.items p a.0, (q.0, e.0, e.1)),
      λ h. and_yes (live_yes m.items p h.0)
          (any_in f all h.1.0
          (range_in 0 Y.places (omega arith) (omega (arith, live_inside Y m long h.1.0 (λ z. h.0 (sym h.1.2 ∙ z)))))
          (is_twin m.items (animal m.items p) p h.1.0 h.1.1 h.1.2)),
    )
      where
        f : ℕ → Bool
        f q = twin m.items (animal m.items p) p q

        all : List ℕ
        all = range 0 Y.places
