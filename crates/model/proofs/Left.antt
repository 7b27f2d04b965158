-- How long is left: the limit minus the age, -2^62 at the least, and not negative exactly where the age is within the limit. Assumes nothing.
use Prim.Native.Nat.{ℕ, zero, suc, ◌+◌, ◌-◌, ◌^◌, ◌<◌, ◌≤◌, min}
use native.Mathlib.Omega.{arith}
use native.Mathlib.Nat.{le-min, min-eq_left, min-eq_right, min-le_right}
use native.Mathlib.Decide.{dec_le}
use mathlib.Core.Path.{◌≡◌, refl, sym, ap, subst, ◌∙◌}
use mathlib.Core.Logic.{dite}
use lib.IntN.{ℤ, pos, neg_ℤ, ◌-ℤ◌}
use lib.Signed.{◌≤ℤ◌, ◌<ℤ◌}
use lib.Dec.{leb→le, ltb→lt, le→leb}
use borrow.Author.Tests.{le-leb, le-ltb, lt-leb, lt-ltb}
use Rattle.model.specs.Age.{least_left, left_of}
use Rattle.model.specs.Left.{LeftIs, LeftLeast, limit_minus_age}

-- a difference of two numbers, by which is the larger
pub minus_small : (n k : ℕ) → k ≤ n → pos n -ℤ pos k ≡ pos (n - k)
minus_small n zero h = ap pos (omega arith)
minus_small n (suc k) h = rw (le-ltb n (suc k) h) refl

minus_large : (n k : ℕ) → n < k → pos n -ℤ pos k ≡ neg_ℤ (pos (k - n))
minus_large n zero h = absurd (omega arith)
minus_large n (suc k) h =
    let e : suc k - n ≡ suc (suc k - suc n) = omega arith in
    rw (lt-ltb n (suc k) h, e) refl

-- within the limit, and overdue
pub within : (limit a : ℕ) → a ≤ limit → left_of limit a ≡ pos (limit - a)
unfolding left_of
within limit a h = rw (le-leb a limit h) refl

pub overdue : (limit a : ℕ) → limit < a → left_of limit a ≡ neg_ℤ (pos (min (a - limit) (2 ^ 62)))
unfolding left_of
overdue limit a h = rw (lt-leb a limit h) refl

-- up to 2^62 minutes overdue it is the difference, from there on -2^62
pub near : (limit a : ℕ) → a ≤ limit + 2 ^ 62 → left_of limit a ≡ limit_minus_age limit a
near limit a h =
    dite (dec_le a limit) (λ l. within limit a l ∙ sym (minus_small limit a l))
    λ l. let k : limit < a = omega arith in
    let n : a - limit ≤ 2 ^ 62 = omega arith in
    overdue limit a k ∙ ap (λ (n : ℕ). neg_ℤ (pos n)) (min-eq_left n) ∙ sym (minus_large limit a k)

pub far : (limit a : ℕ) → limit + 2 ^ 62 ≤ a → left_of limit a ≡ least_left
far limit a h =
    let n : 2 ^ 62 ≤ a - limit = omega arith in
    overdue limit a (omega arith) ∙ ap (λ (n : ℕ). neg_ℤ (pos n)) (min-eq_right n)

-- the same, told by the signed difference itself: where it is -2^62 the two agree
few : (n : ℕ) → least_left ≤ℤ neg_ℤ (pos n) → n ≤ 2 ^ 62
few zero h = omega arith
few (suc k) h = let p : k ≤ 2 ^ 62 - 1 = leb→le k (2 ^ 62 - 1) h.le in omega arith

many : (n : ℕ) → neg_ℤ (pos n) <ℤ least_left → 2 ^ 62 < n
many zero h = absurd h.lt
many (suc k) h = let p : 2 ^ 62 - 1 < k = ltb→lt (2 ^ 62 - 1) k h.lt in omega arith

pub left_is : LeftIs
left_is limit a h =
    near limit a (dite (dec_le a limit) (λ l. omega arith) λ l. let k : limit < a = omega arith in
    omega (arith, few (a - limit) (subst (λ (z : ℤ). least_left ≤ℤ z) (minus_large limit a k) h)))

pub left_least : LeftLeast
left_least limit a h =
    far limit a (dite (dec_le a limit) (λ l. absurd (subst (λ (z : ℤ). z <ℤ least_left) (minus_small limit a l) h).lt)
    λ l. let k : limit < a = omega arith in
    omega (arith, many (a - limit) (subst (λ (z : ℤ). z <ℤ least_left) (minus_large limit a k) h)))

-- its sign
pub not_negative : (limit a : ℕ) → a ≤ limit → pos 0 ≤ℤ left_of limit a
not_negative limit a h = subst (λ (z : ℤ). pos 0 ≤ℤ z) (sym (within limit a h)) (record { le = le→leb 0 (limit - a) (omega arith) })

below_zero : (n : ℕ) → 0 < n → neg_ℤ (pos n) <ℤ pos 0
below_zero zero h = absurd (omega arith)
below_zero (suc k) h = record { lt = tt }

pub negative : (limit a : ℕ) → limit < a → left_of limit a <ℤ pos 0
negative limit a h =
    subst (λ (z : ℤ). z <ℤ pos 0) (sym (overdue limit a h)) (below_zero (min (a - limit) (2 ^ 62)) (le-min (omega arith) (omega arith)))

-- and its bounds
above_least : (n : ℕ) → n ≤ 2 ^ 62 → least_left ≤ℤ neg_ℤ (pos n)
above_least zero h = record { le = tt }
above_least (suc k) h = record { le = le→leb k (2 ^ 62 - 1) (omega arith) }

below_limit : (limit n : ℕ) → neg_ℤ (pos n) ≤ℤ pos limit
below_limit limit zero = record { le = le→leb 0 limit (omega arith) }
below_limit limit (suc k) = record { le = tt }

pub bounds : (limit a : ℕ) → (least_left ≤ℤ left_of limit a) × (left_of limit a ≤ℤ pos limit)
bounds limit a =
    dite (dec_le a limit)
    (λ h. subst (λ (z : ℤ). (least_left ≤ℤ z) × (z ≤ℤ pos limit)) (sym (within limit a h))
    (record { le = tt }, record { le = le→leb (limit - a) limit (omega arith) }))
    λ h. let k : limit < a = omega arith in
    let n = min (a - limit) (2 ^ 62) in
    subst (λ (z : ℤ). (least_left ≤ℤ z) × (z ≤ℤ pos limit)) (sym (overdue limit a k)) (above_least n (min-le_right (a - limit) (2 ^ 62)), below_limit limit n)
