-- A length from 8 to 8,192 has one bit set exactly if it is a good one: computed at every length, once. Assumes nothing.
use Prim.Native.Nat.{ℕ, ◌+◌, ◌*◌, ◌^◌, ◌<◌, suc, ◌≤◌, ◌%◌, ◌/◌, zero}
use native.Mathlib.Nat.{pow-suc}
use native.Mathlib.Omega.{arith}
use native.Mathlib.Decide.{ℕ_discrete}
use mathlib.Core.Path.{◌≡◌, refl, sym, ap, ◌∙◌, subst}
use mathlib.Core.Logic.{◌≢◌, dite}
use mathlib.Core.Bool.{Bool, true, false, not, ◌&&◌}
use mathlib.Core.List.{List, [], ◌∷◌}
use lib.Dec.{eqb, leb, T}
use borrow.Author.Tests.{ne_eqb, eqb-true, leb-false, leb-true, le-leb, lt-leb}
use lib.Count.{ones, ones_in, ones_step}
use Rattle.model.specs.Shape.{good_slots, four}
use Rattle.model.proofs.ListLaws.{bool}
use Rattle.model.specs.Choice.{one_of}

pub ones_by_width : (d n : ℕ) → n < 2 ^ d → ones n ≡ ones_in d n
unfolding ones_in ones
ones_by_width zero n h = let e : n ≡ 0 = omega arith in rw e
ones_by_width (suc d) n h =
    let p : n < 2 ^ d * 2 = subst (λ (m : ℕ). n < m) (pow-suc 2 d) h in
    ones_step n ∙ ap (λ (x : ℕ). n % 2 + x) (ones_by_width d (n / 2) (omega arith))

-- two tests agree
abbrev same : Bool → Bool → Bool
same true b = b
same false b = not b

same_eq : (a b : Bool) → T (same a b) → a ≡ b
same_eq true true t = refl
same_eq true false t = absurd t
same_eq false true t = absurd t
same_eq false false t = refl

front : (a b : Bool) → T (a && b) → T a
front true b t = tt
front false b t = t

back : (a b : Bool) → T (a && b) → T b
back true b t = t
back false b t = absurd t

holds : (b : Bool) → T b → b ≡ true
holds true t = refl
holds false t = absurd t

-- every number of a list is at most 2,048
abbrev all_most : List ℕ → Bool
all_most [] = true
all_most (k ∷ ks) = leb k 2048 && all_most ks

-- a test at each number below n
abbrev all_below : (ℕ → Bool) → ℕ → Bool
all_below f zero = true
all_below f (suc n) = f n && all_below f n

below : (f : ℕ → Bool) (n : ℕ) → T (all_below f n) → (k : ℕ) → k < n → T (f k)
below f zero t k h = absurd (omega arith)
below f (suc n) t k h =
    dite (ℕ_discrete k n) (λ e. subst (λ (m : ℕ). T (f m)) (sym e) (front (f n) (all_below f n) t))
    λ ne. below f n (back (f n) (all_below f n) t) k (omega arith)

-- outside of 8 to 8,192, or one bit exactly where the length is good
test : ℕ → Bool
unfolding good_slots ones_in
test n = same (leb 8 n && eqb (ones_in 14 n) 1) (good_slots four n)

passed : T (all_below test 8193)
unfolding test good_slots ones_in
passed = tt

tested : (n : ℕ) → n ≤ 8192 → (leb 8 n && eqb (ones n) 1) ≡ good_slots four n
unfolding test
tested n h =
    rw (ones_by_width 14 n (omega arith)) (same_eq (leb 8 n && eqb (ones_in 14 n) 1) (good_slots four n) (below test 8193 passed n (omega arith)))

short_length : (n : ℕ) → n < 8 → false ≡ good_slots four n
short_length n h = sym (ap (λ b. b && eqb (ones n) 1) (lt-leb 8 n h)) ∙ tested n (omega arith)

pub middle_length : (n : ℕ) → 8 ≤ n → n ≤ 8192 → eqb (ones n) 1 ≡ good_slots four n
middle_length n l h = sym (ap (λ b. b && eqb (ones n) 1) (le-leb 8 n l)) ∙ tested n h

-- beyond 8,192 the number of buckets is none of the good ones
above : (n : ℕ) (ks : List ℕ) → T (all_most ks) → 2048 < n → one_of n ks ≡ false
above n [] t h = refl
above n (k ∷ ks) t h =
    let l : k ≤ 2048 = leb-true k 2048 (holds (leb k 2048) (front (leb k 2048) (all_most ks) t)) in
    let ne : n ≢ k = λ e. absurd (omega arith) in
    rw (ne_eqb n k ne) (above n ks (back (leb k 2048) (all_most ks) t) h)

pub long_length : (n : ℕ) → 8192 < n → false ≡ good_slots four n
unfolding good_slots
long_length n h =
    bool (λ b. false ≡ (b && one_of (n / 4) four.sizes)) (eqb (n % 4) 0)
    (λ e. let z : n % 4 ≡ 0 = eqb-true (n % 4) 0 e in sym (above (n / 4) four.sizes tt (omega arith))) λ e. refl

pub outer_length : (n : ℕ) → (8 ≤ n → n ≤ 8192 → ⊥) → false ≡ good_slots four n
outer_length n out =
    bool (λ b. false ≡ good_slots four n) (leb 8 n)
    (λ e. let l : 8 ≤ n = leb-true 8 n e in long_length n (omega (arith, out l))) λ e. short_length n (leb-false 8 n e)

-- both tests of the code at once
pub one_bit : (n : ℕ) (b : Bool) → (b ≡ true → (8 ≤ n) × (n ≤ 8192)) → (b ≡ false → 8 ≤ n → n ≤ 8192 → ⊥) → (b && eqb (ones n) 1) ≡ good_slots four n
one_bit n true y z = middle_length n (y refl).0 (y refl).1
one_bit n false y z = outer_length n (z refl)
