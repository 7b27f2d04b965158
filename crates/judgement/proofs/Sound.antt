-- The verdict: yes exactly if the lengths are right and the table is well-formed; no with the first broken condition and the lowest
-- number that breaks it; and ours gets a yes. Assumes nothing.
use Prim.Native.Nat.{ℕ}
use native.Mathlib.Omega.{arith}
use mathlib.Core.Path.{◌≡◌, refl, sym, subst}
use mathlib.Core.Logic.{◌↔◌}
use mathlib.Core.Bool.{true, ◌&&◌}
use Rattle.std.specs.Prelude.{None}
use lib.ListN.{length}
use borrow.Author.Tests.{not-false}
use Rattle.model.specs.Choice.{range, first}
use Rattle.model.specs.Memory.{Mem}
use Rattle.model.specs.Shape.{Shape, Ways, shape_of, right_lengths, good_slots, good_counters, good_items, good_lengths}
use Rattle.model.specs.WellFormed.{WellFormed}
use Rattle.model.specs.Demands.{Story, table}
use Rattle.model.specs.Ours.{ours}
use Rattle.model.proofs.Lent.{and_is, fit, well_alike}
use Rattle.model.proofs.OnWellFormed.{still_right}
use Rattle.model.proofs.Demands.{well_story}
use Rattle.judgement.specs.Conditions.{conditions, is_misshapen}
use Rattle.judgement.specs.Verdict.{sound, broken, condition, judgement, FirstBroken}
use Rattle.judgement.specs.Judges.{Good}
use Rattle.judgement.proofs.Counting.{none_range, range_none, lowest}
use Rattle.judgement.proofs.InTurn.{sound_unbroken, unbroken_sound, broken_at, at_broken, found_lowest}
use Rattle.judgement.proofs.Conditions.{and_yes, two_holds, three_holds, four_holds, five_holds, six_holds, seven_holds, eight_holds}
use Rattle.judgement.proofs.Conditions.{holds_two, holds_three, holds_four, holds_five, holds_six, holds_seven, holds_eight}

module _ (W : Ways) where
  -- on a no, the first condition broken and the lowest that breaks it
  pub broken_first : (m : Mem) (c i : ℕ) → judgement W m ≡ broken c i → FirstBroken W m c i
  unfolding judgement
  broken_first m c i e =
      let r = broken_at 1 (conditions W m) c i e in
      let l = lowest (condition W m c).breaks 0 (condition W m c).extent i r.here in
      record {
        one = r.low;
        eight = omega (arith, r.high);
        inside = omega (arith, l.inside);
        breaks = l.passes;
        lowest = λ j h. l.below j (omega arith) h;
        before = λ b h h' j k. none_range (condition W m b).breaks (condition W m b).extent (r.before b h h') j k;
      }

  -- no more than one no fits
  pub first_broken : (m : Mem) (c i : ℕ) → FirstBroken W m c i → judgement W m ≡ broken c i
  unfolding judgement
  first_broken m c i b =
      at_broken 1 (conditions W m) c i (record {
        low = b.one;
        high = omega (arith, b.eight);
        here = found_lowest (condition W m c).breaks 0 (condition W m c).extent i (record {
          from = omega arith;
          inside = omega (arith, b.inside);
          passes = b.breaks;
          below = λ j h h'. b.lowest j h';
        });
        before = λ a h h'. range_none (condition W m a).breaks (condition W m a).extent (b.before a h h');
      })

  -- condition 1
  pub shapes_right : (m : Mem) → first (is_misshapen W (length m.slots) (length m.counters) (length m.items)) (range 0 3) ≡ None → right_lengths W m ≡ true
  unfolding is_misshapen good_lengths
  shapes_right m e =
      and_yes (not-false (good_slots W (length m.slots)) (none_range (is_misshapen W (length m.slots) (length m.counters) (length m.items)) 3 e 0 (omega arith)))
      (and_yes (not-false (good_counters (length m.counters)) (none_range (is_misshapen W (length m.slots) (length m.counters) (length m.items)) 3 e 1 (omega arith)))
      (not-false (good_items (length m.items)) (none_range (is_misshapen W (length m.slots) (length m.counters) (length m.items)) 3 e 2 (omega arith))))

  right_shapes : (m : Mem) → right_lengths W m ≡ true → first (is_misshapen W (length m.slots) (length m.counters) (length m.items)) (range 0 3) ≡ None
  unfolding is_misshapen good_lengths first range
  right_shapes m e =
      let a = and_is (good_slots W (length m.slots)) (good_counters (length m.counters) && good_items (length m.items)) e in
      let b = and_is (good_counters (length m.counters)) (good_items (length m.items)) a.1 in
      rw (a.0, b.0, b.1)

  pub sound_well : (m : Mem) → judgement W m ≡ sound → Good W m
  unfolding judgement
  sound_well m e =
      let u = sound_unbroken 1 (conditions W m) e in
      let r = shapes_right m u.0 in
      let f = fit W m r in (
        r,
        record {
          slots_long = f.slots_fit;
          counters_long = refl;
          items_long = f.items_fit;
          undamaged = two_holds Y m u.1.0;
          even = three_holds Y m u.1.1.0;
          points = four_holds Y m u.1.1.1.0;
          pointed = five_holds Y m f.items_fit u.1.1.1.1.0;
          distinct = six_holds Y m f.items_fit u.1.1.1.1.1.0;
          narrow = seven_holds Y m f.items_fit u.1.1.1.1.1.1.0;
          bare = eight_holds Y m f.items_fit u.1.1.1.1.1.1.1.0;
        },
      )
    where
      Y : Shape
      Y = shape_of W m

  pub well_sound : (m : Mem) → right_lengths W m ≡ true → WellFormed (shape_of W m) m → judgement W m ≡ sound
  unfolding judgement
  well_sound m r g =
      unbroken_sound 1 (conditions W m)
      (right_shapes m r, (holds_two Y m g, (holds_three Y m g, (holds_four Y m g, (holds_five Y m g, (holds_six Y m g, (holds_seven Y m g, (holds_eight Y m g, tt))))))))
    where
      Y : Shape
      Y = shape_of W m

  -- yes exactly if the lengths are right and all conditions hold
  pub sound_iff : (m : Mem) → (judgement W m ≡ sound) ↔ Good W m
  sound_iff m = (sound_well m, λ h. well_sound m h.0 h.1)

  -- a well-formed table of the lengths of another
  module _ (m₀ : Mem) (right : right_lengths W m₀ ≡ true) (m : Mem) (g : WellFormed (shape_of W m₀) m) where
    same_shape : shape_of W m ≡ shape_of W m₀
    same_shape = let a = well_alike W m₀ right g in rw (a.slots_same, a.counters_same, a.items_same)

    pub alike_sound : judgement W m ≡ sound
    alike_sound =
        well_sound m (still_right W m₀ right m g) (subst (λ (Z : Shape). WellFormed Z m) (sym same_shape) g)

  -- whatever our own finished calls leave, from a fresh table on, gets a yes
  pub ours_sound : (s : Story W) → judgement W (table W (ours W) s) ≡ sound
  ours_sound s = alike_sound s.memory s.right (table W (ours W) s) (well_story W s)
