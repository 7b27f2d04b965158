-- Bytes put one after the other. Assumes nothing.
use Prim.Native.Nat.{ℕ, zero, suc, ◌+◌, ◌-◌, ◌/◌, ◌%◌, ◌^◌, ◌≤◌}
use native.Mathlib.Nat.{add-zero}
use native.Mathlib.Omega.{arith}
use mathlib.Core.Path.{◌≡◌, refl, sym, ap, ap₂, ◌∙◌}
use mathlib.Core.List.{List, [], ◌∷◌, ◌++◌, append_assoc}
use lib.ListN.{length, set, take, drop, length-append}
use lib.Seq.{drop-drop, length-sets, sets, sets-eq}
use Rattle.std.proofs.Math.Nat.{div-div-eq-div-mul, div-one, pow-suc}
use Rattle.std.specs.Int.{byte_at, bytes_low_first, to_le_bytes}
use Rattle.std.proofs.Common.{w64}
use borrow.Rule.Slice.PartMut.{put_mid}
use Rattle.model.specs.Hash.{bytes}
use Rattle.buffer.specs.Put.{Put}

-- a list of n bytes has n
pub bytes_length : (n x : ℕ) → length (bytes n x) ≡ n
unfolding bytes
bytes_length zero x = refl
bytes_length (suc n) x = ap suc (bytes_length n (x / 256))

-- what putting means: the bytes before and behind are as they were
pub put_is : {bs : List ℕ} {at r : ℕ} {before after : List ℕ} → Put bs at before after r → at + length bs ≤ length before
    → after ≡ take at before ++ bs ++ drop (at + length bs) before
put_is {bs} {at} {r} {before} p h = p.bytes_put ∙ sets-eq bs before at h

pub put_length : {bs : List ℕ} {at r : ℕ} {before after : List ℕ} → Put bs at before after r → length after ≡ length before
put_length {bs} {at} {r} {before} p = ap length p.bytes_put ∙ length-sets before at bs

-- one text behind the other is both
pub sets_both : (xs ys before : List ℕ) (at : ℕ) → sets (sets before at xs) (at + length xs) ys ≡ sets before at (xs ++ ys)
sets_both [] ys before at = ap (λ (k : ℕ). sets before k ys) (add-zero at)
sets_both (b ∷ xs) ys before at =
    let e : at + suc (length xs) ≡ suc at + length xs = omega arith in
    ap (λ (k : ℕ). sets (sets (set before at b) (suc at) xs) k ys) e ∙ sets_both xs ys (set before at b) (suc at)

pub put_both : {xs ys : List ℕ} {at r s : ℕ} {before middle after : List ℕ} → Put xs at before middle r → Put ys r middle after s
    → Put (xs ++ ys) at before after s
put_both {xs} {ys} {at} {r} {s} {before} {middle} {after} p q =
    record {
      bytes_put =
          q.bytes_put ∙ ap₂ (λ (l : List ℕ) (k : ℕ). sets l k ys) p.bytes_put p.next
          ∙ sets_both xs ys before at;
      next = omega (arith, p.next, q.next, length-append xs ys);
    }

-- a text copied over a part as long as it
pub put_text : {text new before : List ℕ} {at : ℕ} → at + length text ≤ length before → new ≡ text
    → Put text at before (put_mid at (at + length text - at) before new) (at + length text)
put_text {text} {new} {before} {at} h e =
    let k : at + length text - at ≡ length text = omega arith in
    let q : drop (at + length text - at) (drop at before) ≡ drop (at + length text) before = ap (λ n. drop n (drop at before)) k ∙ drop-drop (length text) at before in
    record {
      bytes_put =
          ap₂ (λ (l r : List ℕ). take at before ++ (l ++ r)) e q ∙ sym (append_assoc (take at before) text (drop (at + length text) before))
          ∙ sym (sets-eq text before at h);
      next = refl;
    }

-- the lowest bytes as the library has them
low_from : (i k x : ℕ) → bytes_low_first i k x ≡ bytes k (x / 256 ^ i)
unfolding bytes
low_from i zero x = refl
low_from i (suc k) x = ap₂ (λ (b : ℕ) (l : List ℕ). b ∷ l) (first i) (low_from (suc i) k x ∙ ap (bytes k) (ap (λ (n : ℕ). x / n) (pow-suc 256 i) ∙ sym (div-div-eq-div-mul x (256 ^ i) 256)))
  where
    first : (i : ℕ) → byte_at i x ≡ x / 256 ^ i % 256
    first zero = ap (λ (n : ℕ). n % 256) (sym (div-one x))
    first (suc i) = refl

first_bytes : (n m x : ℕ) → n ≤ m → take n (bytes m x) ≡ bytes n x
unfolding bytes
first_bytes zero m x h = refl
first_bytes (suc n) zero x h = absurd (omega arith)
first_bytes (suc n) (suc m) x h = ap (λ (l : List ℕ). x % 256 ∷ l) (first_bytes n m (x / 256) (omega arith))

pub low_bytes : (n x : ℕ) → n ≤ 8 → take n (to_le_bytes w64 x) ≡ bytes n x
low_bytes n x h = ap (take n) (low_from 0 8 x ∙ ap (bytes 8) (div-one x)) ∙ first_bytes n 8 x h
