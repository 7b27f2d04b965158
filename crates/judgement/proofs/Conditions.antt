-- The computed tests of the seven conditions on contents say what a well-formed table says. Assumes nothing.
use Prim.Native.Nat.{ℕ, ◌+◌, ◌*◌, ◌%◌, ◌^◌, ◌<◌, ◌≤◌}
use native.Mathlib.Omega.{arith}
use native.Mathlib.Decide.{ℕ_discrete, dec_lt}
use mathlib.Core.Path.{◌≡◌, refl, sym, ap, ◌∙◌}
use mathlib.Core.Logic.{◌≢◌, ◌⊎◌, inl, inr, dite, ⊎_elim}
use mathlib.Core.Bool.{Bool, true, false, not, ◌&&◌, ◌||◌}
use Rattle.std.specs.Prelude.{None}
use mathlib.Core.List.{List}
use lib.ListN.{length, get_or, get_or-eq_default}
use lib.Dec.{eqb}
use borrow.Author.Tests.{eq-eqb, ne_eqb, eqb-true, eqb-false, leb-false, lt-leb, not-false, not-true}
use Rattle.model.specs.Choice.{range, first}
use Rattle.model.specs.Memory.{Mem, word, tag, place, damaged, animal, permission, stamp, recent, live}
use Rattle.model.specs.Shape.{Shape, bucket, second_of}
use Rattle.model.specs.WellFormed.{Live, Sole, Right, WellFormed}
use Rattle.model.proofs.ListLaws.{bool, true_false, range_in}
use Rattle.model.proofs.ListLaws.{inside_held}
use Rattle.model.proofs.Lent.{and_is}
use Rattle.model.proofs.KeepBlocks.{free_sound}
use Rattle.judgement.specs.Conditions.{count, names, twin, right_word, is_hurt, is_uneven, is_stray, is_unsought, is_doubled}
use Rattle.judgement.specs.Conditions.{is_wide, is_unswept}
use Rattle.judgement.proofs.Counting.{none_range, range_none, Single, count_single, single_count, once_range, any_in, not_any}

-- tests joined
pub and_yes : {b c : Bool} → b ≡ true → c ≡ true → (b && c) ≡ true
and_yes p q = rw (p, q)

pub and_not : {b c : Bool} → (b ≡ true → c ≡ false) → (b && c) ≡ false
and_not {b} {c} h = go b h
  where
    go : (b : Bool) → (b ≡ true → c ≡ false) → (b && c) ≡ false
    go true h = h refl
    go false h = refl

-- where a joined test fails and its first part passes, its second fails
pub and_no : {b c : Bool} → (b && c) ≡ false → b ≡ true → c ≡ false
and_no {b} {c} e t = sym (ap (λ b. b && c) t) ∙ e

pub or_is : (b c : Bool) → (b || c) ≡ true → (b ≡ true) ⊎ (c ≡ true)
or_is true c e = inl refl
or_is false c e = inr e

pub or_left : {b : Bool} (c : Bool) → b ≡ true → (b || c) ≡ true
or_left c p = rw p

pub or_right : (b : Bool) {c : Bool} → c ≡ true → (b || c) ≡ true
or_right true q = refl
or_right false q = q

-- outside of a run every word reads 0
pub outside : (l : List ℕ) (i : ℕ) → length l ≤ i → get_or l i 0 ≡ 0
outside l i h = get_or-eq_default l 0 h

pub full_yes : (y : ℕ) → y ≢ 0 → not (eqb y 0) ≡ true
full_yes y nz = rw (ne_eqb y 0 nz)

pub live_yes : (l : List ℕ) (p : ℕ) → Live l p → live l p ≡ true
live_yes l p h = rw (ne_eqb (animal l p) 0 h)

pub yes_live : (l : List ℕ) (p : ℕ) → live l p ≡ true → Live l p
yes_live l p h = eqb-false (animal l p) 0 (not-true (eqb (animal l p) 0) h)

pub names_is : (p y : ℕ) → names p y ≡ true → (y ≢ 0) × (place y ≡ p)
unfolding names
names_is p y t =
    let a = and_is (not (eqb y 0)) (eqb (place y) p) t in (eqb-false y 0 (not-true (eqb y 0) a.0), eqb-true (place y) p a.1)

pub is_names : (p y : ℕ) → y ≢ 0 → place y ≡ p → names p y ≡ true
unfolding names
is_names p y nz e = rw (ne_eqb y 0 nz, eq-eqb (place y) p e)

pub twin_is : (l : List ℕ) (x p q : ℕ) → twin l x p q ≡ true → (q ≢ p) × (animal l q ≡ x)
unfolding twin
twin_is l x p q t =
    let a = and_is (not (eqb q p)) (eqb (animal l q) x) t in (eqb-false q p (not-true (eqb q p) a.0), eqb-true (animal l q) x a.1)

pub is_twin : (l : List ℕ) (x p q : ℕ) → q ≢ p → animal l q ≡ x → twin l x p q ≡ true
unfolding twin
is_twin l x p q ne e = rw (ne_eqb q p ne, eq-eqb (animal l q) x e)

module _ (Y : Shape) where
  pub right_is : (x y i : ℕ) → right_word Y x y i ≡ true → Right Y x y i
  unfolding right_word
  right_is x y i t =
      let a = and_is (not (eqb x 0)) (eqb (tag y) (Y.tag_of x) && (eqb (bucket Y i) (Y.first_of x) || eqb (bucket Y i) (second_of Y x))) t in
      let b = and_is (eqb (tag y) (Y.tag_of x)) (eqb (bucket Y i) (Y.first_of x) || eqb (bucket Y i) (second_of Y x)) a.1 in
      record {
        live = eqb-false x 0 (not-true (eqb x 0) a.0);
        tagged = eqb-true (tag y) (Y.tag_of x) b.0;
        home = ⊎_elim (λ e. inl (eqb-true (bucket Y i) (Y.first_of x) e)) (λ e. inr (eqb-true (bucket Y i) (second_of Y x) e))
            (or_is (eqb (bucket Y i) (Y.first_of x)) (eqb (bucket Y i) (second_of Y x)) b.1);
      }

  pub is_right : (x y i : ℕ) → Right Y x y i → right_word Y x y i ≡ true
  unfolding right_word
  is_right x y i r =
      and_yes (full_yes x r.live) (and_yes (eq-eqb (tag y) (Y.tag_of x) r.tagged)
      (⊎_elim (λ e. or_left (eqb (bucket Y i) (second_of Y x)) (eq-eqb (bucket Y i) (Y.first_of x) e))
      (λ e. or_right (eqb (bucket Y i) (Y.first_of x)) (eq-eqb (bucket Y i) (second_of Y x) e)) r.home))

  module _ (m : Mem) where
    -- each condition, where no slot, counter or place breaks it, holds of every number: outside of a run every word reads 0
    pub two_holds : first (is_hurt Y.places m.slots) (range 0 (length m.slots)) ≡ None → (i : ℕ) → damaged Y.places (word m i) ≡ false
    two_holds e i =
        dite (dec_lt i (length m.slots)) (λ h. none_range (is_hurt Y.places m.slots) (length m.slots) e i h)
        λ h. rw (outside m.slots i (omega arith)) (free_sound Y)

    pub three_holds : first (is_uneven m.counters) (range 0 (length m.counters)) ≡ None → (c : ℕ) → get_or m.counters c 0 % 2 ≡ 0
    three_holds e c =
        dite (dec_lt c (length m.counters))
        (λ h. eqb-true (get_or m.counters c 0 % 2) 0 (not-false (eqb (get_or m.counters c 0 % 2) 0)
        (none_range (is_uneven m.counters) (length m.counters) e c h)))
        λ h. rw (outside m.counters c (omega arith))

    pub four_holds : first (is_stray Y m) (range 0 (length m.slots)) ≡ None
        → (i : ℕ) → word m i ≢ 0 → Right Y (animal m.items (place (word m i))) (word m i) i
    unfolding is_stray
    four_holds e i nz =
        right_is (animal m.items (place (word m i))) (word m i) i
        (not-false (right_word Y (animal m.items (place (word m i))) (word m i) i)
        (and_no (none_range (is_stray Y m) (length m.slots) e i (inside_held m.slots i nz)) (full_yes (word m i) nz)))

    pub single_sole : (p : ℕ) → Single (λ i. names p (word m i)) (range 0 (length m.slots)) → Sole m.slots p
    single_sole p s = (
      s.one,
      names_is p (word m s.one) s.passes,
      λ j h. s.alone j (range_in 0 (length m.slots) (omega arith) (omega (arith, inside_held m.slots j h.0))) (is_names p (word m j) h.0 h.1),
    )

    pub sole_single : (p : ℕ) → Sole m.slots p → Single (λ i. names p (word m i)) (range 0 (length m.slots))
    sole_single p s =
        record {
          one = s.0;
          there = range_in 0 (length m.slots) (omega arith) (omega (arith, inside_held m.slots s.0 s.1.0));
          passes = is_names p (word m s.0) s.1.0 s.1.1;
          alone = λ j q t. s.2 j (names_is p (word m j) t);
        }

    module _ (long : length m.items ≡ 4 * Y.places) where
      pub live_inside : (p : ℕ) → Live m.items p → p < Y.places
      live_inside p h = dite (dec_lt p Y.places) (λ l. l) λ l. absurd (h (get_or-eq_default m.items 0 (omega (arith, long))))

      pub five_holds : first (is_unsought Y m) (range 0 Y.places) ≡ None → (p : ℕ) → Live m.items p → Sole m.slots p
      unfolding is_unsought
      five_holds e p h =
          single_sole p (count_single (λ i. names p (word m i)) (range 0 (length m.slots))
          (eqb-true (count (λ i. names p (word m i)) (range 0 (length m.slots))) 1
          (not-false (eqb (count (λ i. names p (word m i)) (range 0 (length m.slots))) 1)
          (and_no (none_range (is_unsought Y m) Y.places e p (live_inside p h)) (live_yes m.items p h)))))

      pub six_holds : first (is_doubled Y m) (range 0 Y.places) ≡ None
          → (p q : ℕ) → Live m.items p → animal m.items p ≡ animal m.items q → p ≡ q
      unfolding is_doubled
      six_holds e p q h a =
          dite (ℕ_discrete p q) (λ k. k)
          λ ne. let l : q < Y.places = live_inside q (λ z. h (a ∙ z)) in
          true_false
          (any_in (twin m.items (animal m.items p) p) (range 0 Y.places) q (range_in 0 Y.places (omega arith) (omega arith))
          (is_twin m.items (animal m.items p) p q (λ k. ne (sym k)) (sym a)))
          (and_no (none_range (is_doubled Y m) Y.places e p (live_inside p h)) (live_yes m.items p h))

      pub seven_holds : first (is_wide m.items) (range 0 Y.places) ≡ None → (p : ℕ) → permission m.items p < 2 ^ 32
      seven_holds e p =
          dite (dec_lt p Y.places) (λ h. leb-false (2 ^ 32) (permission m.items p) (none_range (is_wide m.items) Y.places e p h))
          λ h. rw (outside m.items (4 * p + 1) (omega (arith, long))) (omega arith)

      pub eight_holds : first (is_unswept m.items) (range 0 Y.places) ≡ None → (p : ℕ) → animal m.items p ≡ 0
          → (permission m.items p ≡ 0) × (stamp m.items p ≡ 0) × (recent m.items p ≡ 0)
      eight_holds e p z =
          dite (dec_lt p Y.places)
          (λ h. let t = not-false (eqb v 0 && (eqb s 0 && eqb r 0))
          (and_no (none_range (is_unswept m.items) Y.places e p h) (eq-eqb (animal m.items p) 0 z)) in
          let a = and_is (eqb v 0) (eqb s 0 && eqb r 0) t in
          let b = and_is (eqb s 0) (eqb r 0) a.1 in
          (eqb-true v 0 a.0, eqb-true s 0 b.0, eqb-true r 0 b.1))
          λ h. (
            get_or-eq_default m.items 0 (omega (arith, long)),
            get_or-eq_default m.items 0 (omega (arith, long)),
            get_or-eq_default m.items 0 (omega (arith, long)),
          )
        where
          v : ℕ
          v = permission m.items p

          s : ℕ
          s = stamp m.items p

          r : ℕ
          r = recent m.items p

    -- and the other way round
    module _ (g : WellFormed Y m) where
      pub holds_two : first (is_hurt Y.places m.slots) (range 0 (length m.slots)) ≡ None
      holds_two = range_none (is_hurt Y.places m.slots) (length m.slots) (λ i h. g.undamaged i)

      pub holds_three : first (is_uneven m.counters) (range 0 (length m.counters)) ≡ None
      holds_three = range_none (is_uneven m.counters) (length m.counters) (λ c h. rw (eq-eqb (get_or m.counters c 0 % 2) 0 (g.even c)))

      pub holds_four : first (is_stray Y m) (range 0 (length m.slots)) ≡ None
      unfolding is_stray
      holds_four =
          range_none (is_stray Y m) (length m.slots)
          λ i h. and_not (λ t. rw (is_right (animal m.items (place (word m i))) (word m i) i
          (g.points i (eqb-false (word m i) 0 (not-true (eqb (word m i) 0) t)))))

      pub holds_five : first (is_unsought Y m) (range 0 Y.places) ≡ None
      unfolding is_unsought
      holds_five =
          range_none (is_unsought Y m) Y.places
          λ p h. and_not (λ t. rw (eq-eqb (count (λ i. names p (word m i)) (range 0 (length m.slots))) 1
          (single_count (λ i. names p (word m i)) (range 0 (length m.slots)) (once_range 0 (length m.slots))
          (sole_single p (g.pointed p (yes_live m.items p t))))))

      pub holds_six : first (is_doubled Y m) (range 0 Y.places) ≡ None
      unfolding is_doubled
      holds_six =
          range_none (is_doubled Y m) Y.places
          λ p h. and_not (λ t. not_any (twin m.items (animal m.items p) p) (range 0 Y.places)
          λ q k. bool (λ b. twin m.items (animal m.items p) p q ≡ b → b ≡ false) (twin m.items (animal m.items p) p q)
          (λ u v. let w = twin_is m.items (animal m.items p) p q v in absurd (w.0 (sym (g.distinct p q (yes_live m.items p t) (sym w.1)))))
          (λ u v. refl) refl)

      pub holds_seven : first (is_wide m.items) (range 0 Y.places) ≡ None
      holds_seven = range_none (is_wide m.items) Y.places (λ p h. lt-leb (2 ^ 32) (permission m.items p) (g.narrow p))

      pub holds_eight : first (is_unswept m.items) (range 0 Y.places) ≡ None
      holds_eight =
          range_none (is_unswept m.items) Y.places
          λ p h. and_not (λ t. let b = g.bare p (eqb-true (animal m.items p) 0 t) in
          rw (eq-eqb (permission m.items p) 0 b.0, eq-eqb (stamp m.items p) 0 b.1, eq-eqb (recent m.items p) 0 b.2))
