-- Laws that the proofs of the hashing functions cite. Assumes nothing.
use Prim.Native.Nat.{ℕ, ◌+◌, ◌*◌, ◌^◌, ◌<◌, ◌-◌, ◌%◌, ◌/◌, min}
use native.Mathlib.Nat.{add-zero, mod-lt, mod-one}
use native.Mathlib.Omega.{arith}
use mathlib.Core.Path.{subst, ◌≡◌, ap, ◌∙◌}
use lib.Arith.{digits_mod, mod-mul}
use lib.Pow.{pow_pos, pow-add}
use Rattle.model.specs.Hash.{Size, hash, odd_up, other_bucket, tag_from}
use Rattle.model.proofs.Hash.{size_pos}
use Rattle.std.specs.Int.RustNames.{bit_or}
use Rattle.std.proofs.lemmas.Nat.{and_mask, or_block, or_disjoint}
use native.Mathlib.Decide.{ℕ_discrete}
use mathlib.Core.Logic.{dite}
use borrow.Author.Tests.{eq-eqb, ne_eqb}
use Rattle.hashing.specs.Homes.{HomesAre}

-- the remainder by a number of buckets is the same before and after one by 2^32
pub low_of_low : {n : ℕ} → Size n → (x : ℕ) → x % 2 ^ 32 % n ≡ x % n
low_of_low {n} s x =
    let e : 32 ≡ 32 - s.log + s.log = omega (arith, s.high) in
    rw s.power
    (ap (λ k. x % 2 ^ k % 2 ^ s.log) e
    ∙ ap (λ k. x % k % 2 ^ s.log) (pow-add 2 (32 - s.log) s.log)
    ∙ ap (λ k. k % 2 ^ s.log) (mod-mul x (pow_pos (32 - s.log)) (pow_pos s.log))
    ∙ digits_mod (x / 2 ^ s.log % 2 ^ (32 - s.log)) (mod-lt x (pow_pos s.log)))

-- the lowest bit set makes a number odd
pub bit_odd : (x : ℕ) → bit_or x 1 ≡ odd_up x
unfolding odd_up
bit_odd x =
    dite (ℕ_discrete (x % 2) 0) (λ e. rw (eq-eqb (x % 2) 0 e) (or_disjoint x 1 (and_mask x 1 ∙ e)))
    λ ne.
    let r : x % 2 ≡ 1 = omega arith in
    let h : bit_or (x / 2) 0 ≡ x / 2 = or_disjoint (x / 2) 0 (and_mask (x / 2) 0 ∙ mod-one (x / 2)) ∙ add-zero (x / 2) in
    let k : x / 2 * 2 + 1 ≡ x = omega arith in
    rw (ne_eqb (x % 2) 0 ne) (subst (λ (y : ℕ). bit_or y 1 ≡ y) k (or_block 1 (x / 2) 0 1 1 (omega arith) (omega arith) ∙ rw h))

-- the lesser of an animal's buckets is a bucket
pub lesser_in : {n : ℕ} → Size n → (h f s : ℕ) {k : ℕ} → f ≡ h % n → k ≡ min f s → k < n
lesser_in {n} z h f s ef ek = let p : 0 < n = omega (arith, size_pos z) in omega (arith, mod-lt h p, ef, ek)

-- the four numbers of an animal, one from the other
pub by_homes : {n v x h t f s k c : ℕ} → h ≡ hash x → (t ≡ tag_from h) × (t < 256) → f ≡ h % n → s ≡ other_bucket n t f → k ≡ min f s → c ≡ k % v
    → HomesAre n v x (record { tag = t; first = f; second = s; counter = c })
by_homes eh et ef es ek ec =
    record { tag_is = cc; first_is = cc; second_is = cc; counter_is = cc }
