-- Laws of the hash, the tag, the spread and the other bucket. Assumes nothing.
use Prim.Native.Nat.{ℕ, ◌+◌, ◌*◌, ◌^◌, ◌<◌, suc, ◌≤◌, ◌%◌, ◌/◌, zero}
use native.Mathlib.Nat.{div-add-mod', mod-lt, pow-suc}
use native.Mathlib.Omega.{arith}
use native.Mathlib.Decide.{ℕ_discrete}
use mathlib.Core.Path.{◌≡◌, refl, sym, ap, ◌∙◌, subst, ap₂}
use mathlib.Core.Logic.{◌⊎◌, inl, inr, ⊎_elim, dite}
use mathlib.Core.List.{List, [], ◌∷◌}
use lib.Arith.{bin_ind}
use lib.Bits.{bit_xor, differ, xor_step, xor_self, xor_lt, xor_zero_l}
use lib.Pow.{pow_pos, pow_mono}
use lib.Dec.{lit<}
use borrow.Author.Tests.{eq-eqb, ne_eqb}
use Rattle.model.specs.Hash.{Size, bytes, fnv, fnv_step, hash, odd_up, other_bucket, spread, tag_from}

two : (x : ℕ) → x < 2 → (x ≡ 0) ⊎ (x ≡ 1)
two zero h = inl refl
two (suc zero) h = inr refl
two (suc (suc x)) h = absurd (omega arith)

-- one digit, differed twice by the same digit, is back
differ_twice : (x y : ℕ) → x < 2 → y < 2 → differ (differ x y) y ≡ x
differ_twice zero zero hx hy = refl
differ_twice zero (suc zero) hx hy = refl
differ_twice (suc zero) zero hx hy = refl
differ_twice (suc zero) (suc zero) hx hy = refl
differ_twice zero (suc (suc y)) hx hy = absurd (omega arith)
differ_twice (suc zero) (suc (suc y)) hx hy = absurd (omega arith)
differ_twice (suc (suc x)) y hx hy = absurd (omega arith)

differ_lt : (x y : ℕ) → x < 2 → y < 2 → differ x y < 2
differ_lt zero y hx hy = hy
differ_lt (suc zero) zero hx hy = lit< tt
differ_lt (suc zero) (suc zero) hx hy = lit< tt
differ_lt (suc zero) (suc (suc y)) hx hy = absurd (omega arith)
differ_lt (suc (suc x)) y hx hy = absurd (omega arith)

half : (q r : ℕ) → r < 2 → (q * 2 + r) / 2 ≡ q
half q r h = omega arith

digit : (q r : ℕ) → r < 2 → (q * 2 + r) % 2 ≡ r
digit q r h = omega arith

xor_half : (a b : ℕ) → bit_xor a b / 2 ≡ bit_xor (a / 2) (b / 2)
xor_half a b = ap (λ (x : ℕ). x / 2) (xor_step a b) ∙ half (bit_xor (a / 2) (b / 2)) (differ (a % 2) (b % 2)) (differ_lt (a % 2) (b % 2) (omega arith) (omega arith))

xor_digit : (a b : ℕ) → bit_xor a b % 2 ≡ differ (a % 2) (b % 2)
xor_digit a b = ap (λ (x : ℕ). x % 2) (xor_step a b) ∙ digit (bit_xor (a / 2) (b / 2)) (differ (a % 2) (b % 2)) (differ_lt (a % 2) (b % 2) (omega arith) (omega arith))

-- exclusive-or with one number twice changes nothing
pub xor_twice : (a b : ℕ) → bit_xor (bit_xor a b) b ≡ a
xor_twice a =
    bin_ind (λ (n : ℕ). (b : ℕ) → bit_xor (bit_xor n b) b ≡ n)
    (λ b. ap (λ (x : ℕ). bit_xor x b) (xor_zero_l b) ∙ xor_self b)
    (λ n ih b.
    xor_step (bit_xor n b) b
    ∙ ap₂ (λ (x y : ℕ). x * 2 + y)
    (ap (λ (x : ℕ). bit_xor x (b / 2)) (xor_half n b) ∙ ih (b / 2))
    (ap (λ (x : ℕ). differ x (b % 2)) (xor_digit n b) ∙ differ_twice (n % 2) (b % 2) (omega arith) (omega arith))
    ∙ div-add-mod' n 2)
    a

-- an odd number always changes the lowest digit
pub xor_odd : (b s : ℕ) → s % 2 ≡ 1 → bit_xor b s ≡ b → ⊥
xor_odd b s o e =
    let d : b % 2 ≡ differ (b % 2) 1 = sym (ap (λ (x : ℕ). x % 2) e) ∙ xor_digit b s ∙ ap (λ (x : ℕ). differ (b % 2) x) o in
    ⊎_elim
    (λ (p : b % 2 ≡ 0). let z : ◌≡◌ {A = ℕ} 0 1 = sym p ∙ d ∙ ap (λ (x : ℕ). differ x 1) p in omega arith)
    (λ (p : b % 2 ≡ 1). let z : ◌≡◌ {A = ℕ} 1 0 = sym p ∙ d ∙ ap (λ (x : ℕ). differ x 1) p in omega arith)
    (two (b % 2) (omega arith))

power_even : (k : ℕ) → 1 ≤ k → (2 ≤ 2 ^ k) × (2 ^ k % 2 ≡ 0)
power_even zero h = absurd (omega arith)
power_even (suc k) h = let p : 0 < 2 ^ k = pow_pos k in rw (pow-suc 2 k) (omega arith)

pub size_pos : {n : ℕ} → Size n → 2 ≤ n
size_pos s = rw s.power (power_even s.log s.low).0

pub size_most : {n : ℕ} → Size n → n ≤ 2048
size_most s = rw s.power (pow_mono s.high)

pub size_even : {n : ℕ} → Size n → n % 2 ≡ 0
size_even s = rw s.power (power_even s.log s.low).1

pub odd_up_odd : (x : ℕ) → odd_up x % 2 ≡ 1
unfolding odd_up
odd_up_odd x =
    ⊎_elim
    (λ (p : x % 2 ≡ 0). rw (eq-eqb (x % 2) 0 p) (omega arith))
    (λ (p : x % 2 ≡ 1). rw (ne_eqb (x % 2) 0 (λ q. omega arith)) p)
    (two (x % 2) (omega arith))

pub odd_up_lt : (x n : ℕ) → x < n → n % 2 ≡ 0 → odd_up x < n
unfolding odd_up
odd_up_lt x n h e =
    ⊎_elim
    (λ (p : x % 2 ≡ 0). rw (eq-eqb (x % 2) 0 p) (omega arith))
    (λ (p : x % 2 ≡ 1). rw (ne_eqb (x % 2) 0 (λ q. omega arith)) h)
    (two (x % 2) (omega arith))

pub spread_odd : (n t : ℕ) → spread n t % 2 ≡ 1
unfolding spread
spread_odd n t = odd_up_odd ((t * 1540483477) % n)

pub spread_lt : {n : ℕ} → Size n → (t : ℕ) → spread n t < n
unfolding spread
spread_lt {n} s t = let p : 2 ≤ n = size_pos s in odd_up_lt ((t * 1540483477) % n) n (mod-lt (t * 1540483477) (omega arith)) (size_even s)

pub other_twice : (n t b : ℕ) → other_bucket n t (other_bucket n t b) ≡ b
unfolding other_bucket
other_twice n t b = xor_twice b (spread n t)

pub other_not : (n t b : ℕ) → other_bucket n t b ≡ b → ⊥
unfolding other_bucket
other_not n t b e = xor_odd b (spread n t) (spread_odd n t) e

pub other_lt : {n : ℕ} → Size n → (t b : ℕ) → b < n → other_bucket n t b < n
unfolding other_bucket
other_lt {n} s t b h =
    let p : spread n t < n = spread_lt s t in
    subst (λ (m : ℕ). other_bucket n t b < m) (sym s.power) (xor_lt s.log b (spread n t) (subst (λ (m : ℕ). b < m) s.power h) (subst (λ (m : ℕ). spread n t < m) s.power p))

hash_from : (bs : List ℕ) (h : ℕ) → h < 2 ^ 32 → fnv h bs < 2 ^ 32
unfolding fnv fnv_step
hash_from [] h l = l
hash_from (b ∷ bs) h l = hash_from bs (fnv_step h b) (mod-lt _ (omega arith))

pub hash_lt : (x : ℕ) → hash x < 2 ^ 32
unfolding hash
hash_lt x = hash_from (bytes 8 x) 2166136261 (omega arith)

pub tag_range : (h : ℕ) → h < 2 ^ 32 → (1 ≤ tag_from h) × (tag_from h ≤ 255)
unfolding tag_from
tag_range h l =
    dite (ℕ_discrete (h / 2 ^ 24) 0) (λ e. rw (eq-eqb (h / 2 ^ 24) 0 e) (omega arith, omega arith))
    λ ne. rw (ne_eqb (h / 2 ^ 24) 0 ne) (omega arith, omega arith)
