-- The eight bytes of a number, a step each; bytes of 0 are products by the prime, and those are one product. Assumes nothing.
use Prim.Native.Nat.{ℕ, zero, suc, ◌*◌, ◌^◌, ◌<◌, ◌%◌, ◌/◌}
use native.Mathlib.Nat.{add-mul, div-add-mod', div-div-eq-div-mul, mul-add-mod_self_right, mul_assoc, mul_comm, mul_right_comm, pow-succ'}
use native.Mathlib.Omega.{arith}
use mathlib.Core.Path.{◌≡◌, sym, ◌∙◌}
use mathlib.Core.Path.{ap}
use mathlib.Core.List.{List}
use lib.ListN.{get_or}
use lib.Bits.{xor_zero_r}
use Rattle.std.specs.Int.{to_le_bytes, w64}
use Rattle.model.specs.Hash.{bytes, fnv, fnv_step, hash}

-- a remainder may be taken before a product
low_product : (a c m : ℕ) → (a % m * c) % m ≡ (a * c) % m
low_product a c m =
    rw (← mul-add-mod_self_right (a / m * c) m (a % m * c), mul_right_comm (a / m) c m, ← add-mul (a / m * m) (a % m) c, div-add-mod' a m)

-- bytes of 0 are products by the prime
zeros : (k h : ℕ) → fnv h (bytes (suc k) 0) ≡ (h * 16777619 ^ suc k) % 2 ^ 32
unfolding fnv bytes fnv_step
zeros zero h = rw (xor_zero_r h)
zeros (suc k) h =
    rw (zeros k (fnv_step h 0), xor_zero_r h, low_product (h * 16777619) (16777619 ^ suc k) (2 ^ 32), mul_assoc h 16777619 (16777619 ^ suc k), pow-succ' 16777619 (suc k))

-- and those are one product, by a power of the prime modulo 2^32
one_product : (k h : ℕ) → fnv h (bytes (suc k) 0) ≡ (h * (16777619 ^ suc k % 2 ^ 32)) % 2 ^ 32
one_product k h =
    rw (zeros k h, mul_comm h (16777619 ^ suc k % 2 ^ 32), low_product (16777619 ^ suc k) h (2 ^ 32), mul_comm h (16777619 ^ suc k))

-- two steps take two bytes off the front
two_steps : (k x h : ℕ) {h₁ h₂ : ℕ} → h₁ ≡ fnv_step h (x % 256) → h₂ ≡ fnv_step h₁ (x / 256 % 256) → fnv h (bytes (suc (suc k)) x) ≡ fnv h₂ (bytes k (x / 65536))
unfolding fnv bytes
two_steps k x h e₁ e₂ = rw (div-div-eq-div-mul x 256 256, e₂, e₁)

-- and four steps four
four_steps : (k x h : ℕ) {h₁ h₂ h₃ h₄ : ℕ} → h₁ ≡ fnv_step h (x % 256) → h₂ ≡ fnv_step h₁ (x / 256 % 256) → h₃ ≡ fnv_step h₂ (x / 65536 % 256)
    → h₄ ≡ fnv_step h₃ (x / 16777216 % 256) → fnv h (bytes (suc (suc (suc (suc k)))) x) ≡ fnv h₄ (bytes k (x / 4294967296))
unfolding fnv bytes
four_steps k x h e₁ e₂ e₃ e₄ =
    rw (div-div-eq-div-mul x 256 256, div-div-eq-div-mul x 65536 256, div-div-eq-div-mul x 16777216 256, e₄, e₃, e₂, e₁)

-- the ways out of the code, by the bytes of the number: after four, after six, after eight
module _ (x : ℕ) {bs : List ℕ} (e : bs ≡ to_le_bytes w64 x) {h₁ h₂ h₃ h₄ : ℕ} (e₁ : h₁ ≡ fnv_step 2166136261 (get_or bs 0 0))
    (e₂ : h₂ ≡ fnv_step h₁ (get_or bs 1 0)) (e₃ : h₃ ≡ fnv_step h₂ (get_or bs 2 0)) (e₄ : h₄ ≡ fnv_step h₃ (get_or bs 3 0)) where
  -- a byte of the upper half
  upper : (i : ℕ) → x / 4294967296 / i % 256 ≡ x / (4294967296 * i) % 256
  upper i = ap (λ (y : ℕ). y % 256) (div-div-eq-div-mul x 4294967296 i)

  lower : hash x ≡ fnv h₄ (bytes 4 (x / 4294967296))
  unfolding hash
  lower = four_steps 4 x 2166136261 (rw e at e₁) (rw e at e₂) (rw e at e₃) (rw e at e₄)

  pub after_four : {r : ℕ} → x / 4294967296 ≡ 0 → r ≡ (h₄ * 1345077009) % 2 ^ 32 → r ≡ hash x
  after_four z e = e ∙ sym (lower ∙ rw z (one_product 3 h₄))

  module _ {h₅ h₆ : ℕ} (e₅ : h₅ ≡ fnv_step h₄ (get_or bs 4 0)) (e₆ : h₆ ≡ fnv_step h₅ (get_or bs 5 0)) where
    f₅ : h₅ ≡ fnv_step h₄ (x / 4294967296 % 256)
    f₅ = rw e at e₅

    f₆ : h₆ ≡ fnv_step h₅ (x / 4294967296 / 256 % 256)
    f₆ = rw (e, ← upper 256) at e₆

    pub after_six : {r : ℕ} → x / 4294967296 < 65536 → r ≡ (h₆ * 637696617) % 2 ^ 32 → r ≡ hash x
    after_six l e =
        let z : x / 4294967296 / 65536 ≡ 0 = omega arith in
        e ∙ sym (lower ∙ two_steps 2 (x / 4294967296) h₄ f₅ f₆ ∙ rw z (one_product 1 h₆))

    pub after_eight : {h₇ h₈ : ℕ} → h₇ ≡ fnv_step h₆ (get_or bs 6 0) → h₈ ≡ fnv_step h₇ (get_or bs 7 0) → h₈ ≡ hash x
    unfolding fnv bytes
    after_eight {h₇} {h₈} e₇ e₈ =
        let f₇ : h₇ ≡ fnv_step h₆ (x / 4294967296 / 65536 % 256) = rw (e, ← upper 65536) at e₇ in
        let f₈ : h₈ ≡ fnv_step h₇ (x / 4294967296 / 16777216 % 256) = rw (e, ← upper 16777216) at e₈ in
        sym (lower ∙ four_steps 0 (x / 4294967296) h₄ f₅ f₆ f₇ f₈)
