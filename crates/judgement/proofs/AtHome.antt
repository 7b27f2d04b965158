-- Where every occupied slot is right for its place, all slots that point to a live place are home slots of its animal: so conditions 5
-- and 6 are decided there. Assumes nothing.
use Prim.Native.Nat.{ℕ, ◌+◌, ◌*◌, ◌/◌, ◌<◌, ◌≤◌}
use native.Mathlib.Nat.{mul-le-mul_right, add-mul, one-mul}
use native.Mathlib.Omega.{arith}
use native.Mathlib.Decide.{ℕ_discrete, dec_lt}
use mathlib.Core.Path.{◌≡◌, refl, sym, ◌∙◌}
use mathlib.Core.Logic.{◌≢◌, dite}
use mathlib.Core.Bool.{Bool, true, false}
use mathlib.Core.List.{List, Memᴰ as In}
use lib.ListN.{length}
use lib.Dec.{eqb}
use borrow.Author.Tests.{eq-eqb, ne_eqb}
use Rattle.model.specs.Choice.{range, any}
use Rattle.model.specs.Memory.{Mem, word, place, animal}
use Rattle.model.specs.Shape.{Shape, Ways, second_of, slots_of, homes, shape_of}
use Rattle.model.specs.WellFormed.{Live, Right, Sole}
use Rattle.model.proofs.ListLaws.{in_range, inside_held, range_in}
use Rattle.model.proofs.HomeSlots.{home_in}
use Rattle.model.proofs.Hash.{other_not}
use Rattle.model.proofs.Lent.{fit}
use Rattle.judgement.specs.Conditions.{count, names, twin}
use Rattle.judgement.specs.Owed.{PointersAtHome, TwinsAtHome}
use Rattle.judgement.proofs.Counting.{Single, count_single, single_count, Once, once_range, once_append, any_in, in_any}
use Rattle.judgement.proofs.Conditions.{names_is, is_names, twin_is, live_inside}

-- two lists that hold the same passing numbers
single_too : {f : ℕ → Bool} {l : List ℕ} (l' : List ℕ) → ((i : ℕ) → f i ≡ true → In i l → In i l') → ((i : ℕ) → f i ≡ true → In i l' → In i l)
    → Single f l → Single f l'
single_too l' to from s =
    record { one = s.one; there = to s.one s.passes s.there; passes = s.passes; alone = λ j q t. s.alone j (from j t q) t }

same_test : (a b : ℕ) → (a ≡ 1 → b ≡ 1) → (b ≡ 1 → a ≡ 1) → eqb a 1 ≡ eqb b 1
same_test a b h k =
    dite (ℕ_discrete a 1) (λ e. rw (eq-eqb a 1 e, eq-eqb b 1 (h e))) λ ne. let nb : b ≢ 1 = λ e. ne (k e) in rw (ne_eqb a 1 ne, ne_eqb b 1 nb)

same_bool : (b c : Bool) → (b ≡ true → c ≡ true) → (c ≡ true → b ≡ true) → b ≡ c
same_bool true c h k = sym (h refl)
same_bool false true h k = k refl
same_bool false false h k = refl

module _ (Y : Shape) (m : Mem) (slots_long : length m.slots ≡ Y.buckets * Y.layout.ways)
    (apart : (t b : ℕ) → Y.layout.other t b ≢ b)
    (points : (i : ℕ) → word m i ≢ 0 → Right Y (animal m.items (place (word m i))) (word m i) i) where
  -- every slot that points to a place with animal x is a home slot of x
  pub pointer_in : (p x i : ℕ) → animal m.items p ≡ x → names p (word m i) ≡ true → In i (homes Y x)
  pointer_in p x i e t =
      let n = names_is p (word m i) t in
      let a : animal m.items (place (word m i)) ≡ x = rw n.1 e in
      let r : Right Y x (word m i) i = rw a at (points i n.0) in
      home_in Y m slots_long n.0 r.home

  -- two buckets share no slot
  far_apart : (a b i : ℕ) → a ≢ b → In i (slots_of Y a) → ¬ In i (slots_of Y b)
  far_apart a b i ne q r =
      let w = Y.layout.ways in
      let u = in_range (a * w) w q in
      let v = in_range (b * w) w r in
      dite (dec_lt a b)
      (λ h. absurd (omega (arith, u, v, more a b h)))
      λ h. let k : b < a = omega arith in absurd (omega (arith, u, v, more b a k))
    where
      more : (a b : ℕ) → a < b → a * Y.layout.ways + Y.layout.ways ≤ b * Y.layout.ways
      more a b h = let k : a + 1 ≤ b = omega arith in omega (arith, mul-le-mul_right Y.layout.ways k, add-mul a 1 Y.layout.ways, one-mul Y.layout.ways)

  pub homes_once : (x : ℕ) → Once (homes Y x)
  homes_once x =
      once_append (slots_of Y (Y.first_of x)) (slots_of Y (second_of Y x)) (once_range (Y.first_of x * Y.layout.ways) Y.layout.ways)
      (once_range (second_of Y x * Y.layout.ways) Y.layout.ways)
      λ i. far_apart (Y.first_of x) (second_of Y x) i (λ e. apart (Y.tag_of x) (Y.first_of x) (sym e))

  -- condition 5 by the home slots
  one_at_home : (p x : ℕ) → animal m.items p ≡ x
      → eqb (count (λ i. names p (word m i)) (range 0 (length m.slots))) 1 ≡ eqb (count (λ i. names p (word m i)) (homes Y x)) 1
  one_at_home p x e =
      same_test (count f all) (count f (homes Y x))
      (λ k. single_count f (homes Y x) (homes_once x) (single_too (homes Y x) to from (count_single f all k)))
      λ k. single_count f all (once_range 0 (length m.slots)) (single_too all from to (count_single f (homes Y x) k))
    where
      f : ℕ → Bool
      f i = names p (word m i)

      all : List ℕ
      all = range 0 (length m.slots)

      to : (i : ℕ) → f i ≡ true → In i all → In i (homes Y x)
      to i t q = pointer_in p x i e t

      from : (i : ℕ) → f i ≡ true → In i (homes Y x) → In i all
      from i t q = range_in 0 (length m.slots) (omega arith) (omega (arith, inside_held m.slots i (names_is p (word m i) t).0))

  -- condition 6 by the home slots, where every live place is pointed to: any word there, free or not, that leads to a twin will do
  any_at_home : length m.items ≡ 4 * Y.places → ((p : ℕ) → Live m.items p → Sole m.slots p)
      → (p x : ℕ) → x ≢ 0 → any (twin m.items x p) (range 0 Y.places) ≡ any (λ i. twin m.items x p (place (word m i))) (homes Y x)
  any_at_home long pointed p x nz =
      same_bool (any (twin m.items x p) (range 0 Y.places)) (any there (homes Y x)) to from
    where
      there : ℕ → Bool
      there i = twin m.items x p (place (word m i))

      to : any (twin m.items x p) (range 0 Y.places) ≡ true → any there (homes Y x) ≡ true
      to t =
          let q = in_any (twin m.items x p) (range 0 Y.places) t in
          let e = twin_is m.items x p q.0 q.2 in
          let s = pointed q.0 (λ z. nz (sym e.1 ∙ z)) in
          any_in there (homes Y x) s.0 (pointer_in q.0 x s.0 e.1 (is_names q.0 (word m s.0) s.1.0 s.1.1))
          (rw s.1.1 q.2)

      from : any there (homes Y x) ≡ true → any (twin m.items x p) (range 0 Y.places) ≡ true
      from t =
          let i = in_any there (homes Y x) t in
          let e = twin_is m.items x p (place (word m i.0)) i.2 in
          any_in (twin m.items x p) (range 0 Y.places) (place (word m i.0))
          (range_in 0 Y.places (omega arith) (omega (arith, live_inside Y m long (place (word m i.0)) (λ z. nz (sym e.1 ∙ z))))) i.2

-- on lent memory of right lengths
module _ (W : Ways) (m : Mem) where
  apart : (t b : ℕ) → (shape_of W m).layout.other t b ≢ b
  apart t b = other_not (length m.slots / W.ways) t b

  pub pointers_at_home : PointersAtHome W m
  pointers_at_home right points p =
      one_at_home (shape_of W m) m (fit W m right).slots_fit apart points p (animal m.items p) refl

  pub twins_at_home : TwinsAtHome W m
  twins_at_home right points pointed p h =
      any_at_home (shape_of W m) m (fit W m right).slots_fit apart points (fit W m right).items_fit pointed p (animal m.items p) h
