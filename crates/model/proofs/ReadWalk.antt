-- In a well-formed table a read finds what a walk over the places finds. Assumes nothing.
use Prim.Native.Nat.{ℕ}
use native.Mathlib.Omega.{arith}
use native.Mathlib.Decide.{ℕ_discrete}
use mathlib.Core.Path.{◌≡◌, refl, sym, ap, ◌∙◌}
use mathlib.Core.Logic.{◌≢◌, dite}
use mathlib.Core.Bool.{Bool, true}
use Rattle.std.specs.Prelude.{Option, Some}
use mathlib.Core.List.{List, Memᴰ as In}
use lib.Dec.{eqb}
use borrow.Author.Tests.{eq-eqb, eqb-true}
use Rattle.model.specs.Choice.{range}
use Rattle.model.specs.Memory.{Mem, animal, place, tag, word}
use Rattle.model.specs.Shape.{Shape, counter_of, homes}
use Rattle.model.specs.Answers.{Answer}
use Rattle.model.specs.Age.{bad_time, judge}
use Rattle.model.specs.Calls.{Outcome, held, hit, hits, place_at, reading, tell}
use Rattle.model.specs.Row.{walk_to}
use Rattle.model.specs.WellFormed.{Live, Right, WellFormed}
use Rattle.model.proofs.ListLaws.{First, both_is, both_yes, first_is, found, missing, range_in, true_false, walk_is}
use Rattle.model.proofs.Calm.{calm, quick}
use Rattle.model.proofs.KeepBlocks.{live_in}
use Rattle.model.proofs.HomeSlots.{home_in}

module _ (Y : Shape) (m : Mem) (g : WellFormed Y m) where
  module _ (x : ℕ) (nz : x ≢ 0) where
    pub hit_number : (i : ℕ) → hits Y m x i ≡ true → animal m.items (place (word m i)) ≡ x
    unfolding hits
    hit_number i t = (both_is (tag (word m i)) (Y.tag_of x) (animal m.items (place (word m i))) x t).1

    -- the slot that points to the place p of animal x is a hit
    pub hit_at : {p i : ℕ} → animal m.items p ≡ x → word m i ≢ 0 → place (word m i) ≡ p → In i (homes Y x) × (hits Y m x i ≡ true)
    unfolding hits
    hit_at {p} {i} e nw f =
        let a : animal m.items (place (word m i)) ≡ x = rw f e in
        let r : Right Y x (word m i) i = rw a at (g.points i nw) in
        (home_in Y m g.slots_long nw r.home, both_yes r.tagged a)

    agree : {o o' : Option ℕ} → First (hits Y m x) (homes Y x) o → First (λ p. eqb (animal m.items p) x) (range 0 Y.places) o' → place_at m o ≡ o'
    agree (found {i = i} q t) (found {i = p} q' t') =
        ap Some (g.distinct (place (word m i)) p (rw (hit_number i t) nz) (hit_number i t ∙ sym (eqb-true (animal m.items p) x t')))
    agree (found {i = i} q t) (missing h) =
        let lv : Live m.items (place (word m i)) = rw (hit_number i t) nz in
        true_false (eq-eqb (animal m.items (place (word m i))) x (hit_number i t))
        (h (place (word m i)) (range_in 0 Y.places (omega arith) (omega (arith, live_in Y g (place (word m i)) lv))))
    agree (missing h) (found {i = p} q t) =
        let e = eqb-true (animal m.items p) x t in
        let s = g.pointed p (rw e nz) in
        let k = hit_at e s.1.0 s.1.1 in
        true_false k.1 (h s.0 k.0)
    agree (missing h) (missing h') = refl

    pub held_walk : held Y m x ≡ walk_to m.items x Y.places 0
    unfolding hit
    held_walk = agree (first_is (hits Y m x) (homes Y x)) (walk_is m.items x Y.places 0)

-- what a read says by a walk over the places
abbrev pub walk_read : ℕ → List ℕ → ℕ → ℕ → ℕ → Answer
walk_read M l x limit now = (quick x (bad_time limit now) (tell (judge l limit now (walk_to l x M 0)))).answer

pub quick_same : (x : ℕ) (bad : Bool) (o o' : Outcome) → (x ≢ 0 → o ≡ o') → quick x bad o ≡ quick x bad o'
quick_same x bad o o' h = dite (ℕ_discrete x 0) (λ z. rw (eq-eqb x 0 z)) λ nz. ap (quick x bad) (h nz)

pub read_walk : (Y : Shape) (m : Mem) → WellFormed Y m → (x limit now : ℕ)
    → reading Y m x limit now ≡ walk_read Y.places m.items x limit now
unfolding reading
read_walk Y m g x limit now =
    ap (λ (o : Outcome). o.answer)
    (calm Y m x (g.even (counter_of Y x)) g.undamaged bad (tell (judge m.items limit now (held Y m x)))
    ∙ quick_same x bad (tell (judge m.items limit now (held Y m x)))
    (tell (judge m.items limit now (walk_to m.items x Y.places 0))) λ nz. rw (held_walk Y m g x nz))
  where
    bad : Bool
    bad = bad_time limit now
