-- The plain engine, a law a way out, in the code's own words. Assumes nothing.
use Prim.Native.Nat.{ℕ, ◌+◌, ◌*◌, ◌/◌, ◌%◌, ◌≤◌}
use native.Mathlib.Omega.{arith}
use mathlib.Core.Path.{◌≡◌, sym, ap, ◌∙◌}
use mathlib.Core.Logic.{◌≢◌}
use mathlib.Core.Bool.{Bool, true, false, not, ◌&&◌}
use mathlib.Core.List.{List}
use lib.ListN.{length}
use lib.Dec.{eqb, leb}
use borrow.Author.Tests.{eq-eqb, eqb-true, leb-true, ne_eqb, not-false, not-true}
use Rattle.model.specs.Memory.{permission, stamp}
use Rattle.model.specs.Shape.{good_items}
use Rattle.model.specs.Answers.{absent, refused}
use Rattle.model.specs.Age.{bad_time, judge, verdict}
use Rattle.model.specs.Said.{said_reading}
use Rattle.model.proofs.ListLaws.{walk_first}
use Rattle.model.proofs.Lent.{and_is}
use Rattle.places.specs.Walks.{first_with}
use Rattle.places.proofs.Found.{place_within}
use Rattle.model.specs.declared.Reading.{Reading}
use Rattle.std.specs.Prelude.{Option, Some, None, Ok}
use Rattle.plain.specs.Plain.{plain_read}

-- items of a good length: whole places, at most 4,096
module _ (i : ℕ) {g : Bool} (e : g ≡ good_items i) (n : not g ≡ false) where
  good : (i % 4 ≡ 0) × (i ≤ 16384)
  unfolding good_items
  good =
      let a = and_is (eqb (i % 4) 0) (leb 4 i && leb i 16384) (sym e ∙ not-false g n) in
      let b = and_is (leb 4 i) (leb i 16384) a.1 in
      (eqb-true (i % 4) 0 a.0, leb-true i 16384 b.1)

  pub few_places : i / 4 ≤ 4096
  few_places = omega (arith, good.1)

  pub whole_places : i ≡ 4 * (i / 4)
  whole_places = omega (arith, good.0)

-- the words of the place that was found
pub words_there : (l : List ℕ) (x : ℕ) {p : ℕ} {r : Option ℕ} → r ≡ first_with (length l / 4) l x → r ≡ Some p → 4 * p + 4 ≤ length l
words_there l x e q = omega (arith, place_within (length l / 4) l x e q)

-- the refusals in their turn, then the place
module _ (l : List ℕ) (x limit now : ℕ) {g : Bool} (long : g ≡ good_items (length l)) where
  pub says_one : not g ≡ true → refused 1 ≡ plain_read l x limit now
  unfolding plain_read
  says_one q = rw (← long, not-true g q)

  module _ (good : not g ≡ false) where
    pub says_two : x ≡ 0 → refused 2 ≡ plain_read l x limit now
    unfolding plain_read
    says_two z = rw (← long, not-false g good, eq-eqb x 0 z)

    module _ (real : x ≢ 0) {b : Bool} (time : b ≡ bad_time limit now) where
      pub says_three : b ≡ true → refused 3 ≡ plain_read l x limit now
      unfolding plain_read
      says_three q = rw (← long, not-false g good, ne_eqb x 0 real, ← time, q)

      module _ (timely : b ≡ false) {r : Option ℕ} (found : r ≡ first_with (length l / 4) l x) where
        judged : judge l limit now r ≡ plain_read l x limit now
        unfolding plain_read
        judged = ap (judge l limit now) (found ∙ sym (walk_first l x (length l / 4) 0)) ∙ rw (← long, not-false g good, ne_eqb x 0 real, ← time, timely)

        pub says_judged : {p : ℕ} → r ≡ Some p → (a : Reading) → said_reading (Ok a) ≡ verdict limit now (permission l p) (stamp l p)
            → said_reading (Ok a) ≡ plain_read l x limit now
        says_judged q a v = v ∙ sym (ap (judge l limit now) q) ∙ judged

        pub says_absent : r ≡ None → absent ≡ plain_read l x limit now
        says_absent q = sym (ap (judge l limit now) q) ∙ judged
