-- A signed number: its size, its digits behind a minus, and that what is printed is read again. Assumes nothing.
use Prim.Native.Nat.{ℕ, zero, suc, ◌≤◌, ◌<◌}
use native.Mathlib.Omega.{arith}
use native.Mathlib.Nat.{le_of_lt}
use mathlib.Core.Path.{◌≡◌, refl, sym, ap, subst}
use mathlib.Core.Logic.{◌≢◌}
use mathlib.Core.Bool.{true, false}
use Rattle.std.specs.Prelude.{Some}
use mathlib.Core.List.{List, []}
use lib.ListN.{length, get_or}
use lib.IntN.{ℤ, pos, negsuc, nat_abs}
use lib.Signed.{lt_z}
use borrow.Author.Tests.{ltb-true}
use mir.Syntax.{w64}
use mir.Val.{SFits, of_z, to_z}
use mir.ValLaws.{to_z-of_z}
use Rattle.buffer.specs.Put.{Put}
use Rattle.buffer.proofs.Putting.{put_both}
use Rattle.replay_words.specs.Words.{negative, signed}
use Rattle.replay_words.proofs.SignedWord.{signed_whole}
use Rattle.replay_print.specs.Text.{bytes}
use Rattle.model.proofs.ListLaws.{inside_held, true_false}
use Rattle.replay_print.specs.Print.{decimal_of, line, signed_line, signed_of}
use Rattle.replay_print.proofs.Printing.{no_zero_in_front, printed_is_read}

-- a number as the code holds it, by its bits: a minus and the digits of a negative one, the digits of any other
module _ (z : ℤ) (f : SFits w64 z) where
  abbrev held : ℤ
  held = to_z w64 (of_z w64 z)

  module _ {at r : ℕ} {before after : List ℕ} where
    pub put_whole : {n : ℕ} → lt_z held (pos 0) ≡ false → n ≡ nat_abs held → Put (decimal_of n) at before after r → Put (signed_of z) at before after r
    unfolding signed_of
    put_whole h e d =
        subst (λ (y : ℤ). Put (signed_of y) at before after r) (to_z-of_z w64 z f)
        (go held h (subst (λ (n : ℕ). Put (decimal_of n) at before after r) e d))
      where
        go : (y : ℤ) → lt_z y (pos 0) ≡ false → Put (decimal_of (nat_abs y)) at before after r → Put (signed_of y) at before after r
        go (pos n) h d = d
        go (negsuc n) h d = true_false refl h

    pub put_negative : {middle : List ℕ} {s n : ℕ} → lt_z held (pos 0) ≡ true → n ≡ nat_abs held → Put (bytes "-") at before middle s
        → Put (decimal_of n) s middle after r → Put (signed_of z) at before after r
    unfolding signed_of
    put_negative {middle} {s} h e p d =
        subst (λ (y : ℤ). Put (signed_of y) at before after r) (to_z-of_z w64 z f)
        (go held h (subst (λ (n : ℕ). Put (decimal_of n) s middle after r) e d))
      where
        go : (y : ℤ) → lt_z y (pos 0) ≡ true → Put (decimal_of (nat_abs y)) s middle after r → Put (signed_of y) at before after r
        go (pos n) h d = let l : n < 0 = ltb-true n 0 h in absurd (omega arith)
        go (negsuc k) h d = put_both p d

    -- words, a space, the number and the line's end
    pub put_signed_words : {second third fourth : List ℕ} {s t u : ℕ} (words : List ℕ) → Put words at before second s → Put (bytes " ") s second third t
        → Put (signed_of held) t third fourth u → Put (line []) u fourth after r → Put (signed_line words z) at before after r
    put_signed_words words p q d e =
        subst (λ (y : ℤ). Put (signed_line words y) at before after r) (to_z-of_z w64 z f) (put_both (put_both (put_both p q) d) e)

-- the first digit is no sign
first_of : (n : ℕ) → 48 ≤ get_or (decimal_of n) 0 0
unfolding decimal_of
first_of zero = omega arith
first_of (suc x) = le_of_lt (no_zero_in_front (suc x) (omega arith))

-- what is printed is read again
pub printed_signed_is_read : (top : ℕ) (z : ℤ) → nat_abs z ≤ top → signed top (signed_of z) ≡ Some z
unfolding signed signed_of
printed_signed_is_read top (pos n) h =
    sym (signed_whole top (decimal_of n) some_digit no_minus (sym (printed_is_read top n h)) refl)
  where
    first : 48 ≤ get_or (decimal_of n) 0 0
    first = first_of n

    some_digit : length (decimal_of n) ≢ 0
    some_digit e = absurd (omega (arith, inside_held (decimal_of n) 0 λ q. absurd (omega (arith, first))))

    no_minus : get_or (decimal_of n) 0 0 ≢ 45
    no_minus e = absurd (omega (arith, first))
printed_signed_is_read top (negsuc k) h = ap negative (printed_is_read top (suc k) h)
