-- The tests of a step are wish 7's conditions, and a move that may be made is a legal one. Assumes nothing.
use Prim.Native.Nat.{ℕ}
use mathlib.Core.Path.{◌≡◌, refl, ap}
use mathlib.Core.Logic.{inl, inr}
use mathlib.Core.Bool.{Bool, true, false, not}
use Rattle.std.specs.Prelude.{Option, Some, None}
use mathlib.Core.List.{List}
use lib.ListN.{length, get_or}
use lib.Dec.{eqb, ltb}
use borrow.Author.Tests.{eq-eqb, eqb-false, eqb-true, lt-ltb, ltb-true, ne_eqb, not-true}
use Rattle.model.specs.Choice.{choose, one_of, there}
use Rattle.model.specs.Memory.{Mem, animal, damaged, tag, word}
use Rattle.model.specs.Shape.{Home, Shape, bucket, other, pair, second_of}
use Rattle.model.specs.Moves.{Legal, as_move}
use Rattle.model.specs.Calls.{held, may_enter, may_move}
use Rattle.model.specs.InSteps.{MayEnter, MayMove}
use Rattle.model.specs.declared.MoveRecord.{MoveRecord}
use Rattle.model.proofs.ListLaws.{bool, true_false}
use Rattle.model.proofs.Lent.{and_is}

not_there : (o : Option ℕ) → there o ≡ false → o ≡ None
not_there None e = refl
not_there (Some i) e = true_false {b = true} refl e

module _ (Y : Shape) where
  -- one of the two buckets of an animal
  home_only : (x b : ℕ) → one_of b (pair Y x) ≡ true → Home Y x b
  home_only x b e =
      bool (λ t. eqb b (Y.first_of x) ≡ t → choose t true (choose (eqb b (second_of Y x)) true false) ≡ true → Home Y x b) (eqb b (Y.first_of x))
      (λ z f g. inl (eqb-true b (Y.first_of x) f))
      (λ z f g. inr (eqb-true b (second_of Y x) (chosen (eqb b (second_of Y x)) g))) refl e
    where
      chosen : (t : Bool) → choose t true false ≡ true → t ≡ true
      chosen true e = refl
      chosen false e = e

  home_if : (x b : ℕ) → Home Y x b → one_of b (pair Y x) ≡ true
  home_if x b (inl e) = rw (eq-eqb b (Y.first_of x) e)
  home_if x b (inr e) =
      bool (λ t. choose t true (choose (eqb b (second_of Y x)) true false) ≡ true) (eqb b (Y.first_of x)) (λ z. refl) λ z. rw (eq-eqb b (second_of Y x) e)

  module _ (T : List ℕ) (v : MoveRecord) where
    abbrev w : ℕ
    w = get_or T v.from 0

    abbrev far : ℕ
    far = other Y (tag w) (bucket Y v.from)

    pub move_only : may_move Y T v ≡ true → MayMove Y T v
    unfolding may_move
    move_only e =
        let a = and_is (ltb v.from (length T)) _ e in
        let b = and_is (ltb v.to (length T)) _ a.1 in
        let c = and_is (not (eqb w 0)) _ b.1 in
        let d = and_is (not (damaged Y.places w)) _ c.1 in
        let f = and_is (eqb (tag w) v.tag) _ d.1 in
        let g = and_is (eqb (get_or T v.to 0) 0) _ f.1 in
        record {
          from_in = ltb-true v.from (length T) a.0;
          to_in = ltb-true v.to (length T) b.0;
          occupied = eqb-false w 0 (not-true (eqb w 0) c.0);
          sound = not-true (damaged Y.places w) d.0;
          same_tag = eqb-true (tag w) v.tag f.0;
          free = eqb-true (get_or T v.to 0) 0 g.0;
          goes = eqb-true (bucket Y v.to) far g.1;
        }

    pub move_if : MayMove Y T v → may_move Y T v ≡ true
    unfolding may_move
    move_if h =
        rw (
          lt-ltb v.from (length T) h.from_in,
          lt-ltb v.to (length T) h.to_in,
          ne_eqb w 0 h.occupied,
          h.sound,
          eq-eqb (tag w) v.tag h.same_tag,
          eq-eqb (get_or T v.to 0) 0 h.free,
          eq-eqb (bucket Y v.to) far h.goes,
        )

    pub may_legal : MayMove Y T v → Legal Y.layout T (as_move v)
    may_legal h = record { held = h.occupied; inside = h.to_in; vacant = h.free; goes = h.goes }

  module _ (m : Mem) (x p i : ℕ) where
    pub enter_only : may_enter Y m x p i ≡ true → MayEnter Y m x p i
    unfolding may_enter
    enter_only e =
        let a = and_is (not (there (held Y m x))) _ e in
        let b = and_is (ltb p Y.places) _ a.1 in
        let c = and_is (ltb i (length m.slots)) _ b.1 in
        let d = and_is (eqb (animal m.items p) 0) _ c.1 in
        let f = and_is (eqb (word m i) 0) _ d.1 in
        record {
          away = not_there (held Y m x) (not-true (there (held Y m x)) a.0);
          place_in = ltb-true p Y.places b.0;
          slot_in = ltb-true i (length m.slots) c.0;
          vacant = eqb-true (animal m.items p) 0 d.0;
          free = eqb-true (word m i) 0 f.0;
          home = home_only x (bucket Y i) f.1;
        }

    pub enter_if : MayEnter Y m x p i → may_enter Y m x p i ≡ true
    unfolding may_enter
    enter_if h =
        rw (
          ap there h.away,
          lt-ltb p Y.places h.place_in,
          lt-ltb i (length m.slots) h.slot_in,
          eq-eqb (animal m.items p) 0 h.vacant,
          eq-eqb (word m i) 0 h.free,
          home_if x (bucket Y i) h.home,
        )
