-- A word as a signed number. Assumes nothing.
use Prim.Native.Nat.{ℕ, ◌<◌}
use native.Mathlib.Omega.{arith}
use mathlib.Core.Path.{◌≡◌, refl, ap, ◌∙◌}
use mathlib.Core.Logic.{◌≢◌}
use mathlib.Core.Bool.{true, false, ◌&&◌}
use Rattle.std.specs.Prelude.{Option, Some, None}
use mathlib.Core.List.{List, [], ◌∷◌}
use lib.ListN.{length, get_or, take, drop}
use lib.IntN.{ℤ}
use lib.Dec.{eqb, leb}
use lib.Pointwise.{pointwise}
use borrow.Author.Tests.{leb-true, ne_eqb}
use Rattle.model.proofs.ListLaws.{true_false}
use Rattle.model.specs.Choice.{choose}
use Rattle.replay_words.specs.Words.{all_digits, negative, number, number_from, signed, value, whole}
use Rattle.replay_words.specs.Cursor.{Small}
use Rattle.replay_words.proofs.Scan.{bool}

-- a number of a word is at most its top
module _ (top : ℕ) (fits : top < 9223372036854775808) where
  at_most : (v : ℕ) (ds : List ℕ) → Small (number_from top v ds)
  unfolding number_from
  at_most v ds =
      bool (λ t. Small (choose t (choose (leb (value v ds) top) (Some (value v ds)) None) None)) (all_digits ds)
      (λ _. bool (λ t. Small (choose t (Some (value v ds)) None)) (leb (value v ds) top) (λ l. omega (arith, leb-true (value v ds) top l)) λ _. tt)
      λ _. tt

  number_small : (w : List ℕ) → Small (number top w)
  unfolding number
  number_small [] = tt
  number_small (d ∷ ds) = at_most 0 (d ∷ ds)

  pub small_size : (w : List ℕ) {o : Option ℕ} → o ≡ number top w → Small o
  small_size w e = rw e (number_small w)

-- a word that starts with a minus, and one that does not
module _ (top : ℕ) {o : Option ℕ} {z : Option ℤ} where
  pub signed_minus : (w size : List ℕ) → pointwise eqb (take 1 w) (45 ∷ []) ≡ true → size ≡ drop 1 w → o ≡ number top size → z ≡ negative o → z ≡ signed top w
  unfolding signed
  signed_minus [] size m e f g = true_false m refl
  signed_minus (b ∷ bs) size m e f g =
      bool (λ t. t && true ≡ true → z ≡ choose t (negative (number top bs)) (whole (number top (b ∷ bs)))) (eqb b 45)
      (λ _ _. g ∙ ap negative (f ∙ ap (number top) e)) (λ _ q. true_false q refl) m

  pub signed_plain : (w : List ℕ) → pointwise eqb (take 1 w) (45 ∷ []) ≡ false → o ≡ number top w → z ≡ whole o → z ≡ signed top w
  unfolding signed number
  signed_plain [] m f g = g ∙ ap whole f
  signed_plain (b ∷ bs) m f g =
      bool (λ t. t && true ≡ false → z ≡ choose t (negative (number top bs)) (whole (number top (b ∷ bs)))) (eqb b 45)
      (λ _ q. true_false refl q) (λ _ _. g ∙ ap whole f) m

-- a word with a byte in front that is no minus
pub signed_whole : (top : ℕ) (w : List ℕ) → length w ≢ 0 → {o : Option ℕ} {z : Option ℤ} → get_or w 0 0 ≢ 45 → o ≡ number top w → z ≡ whole o → z ≡ signed top w
signed_whole top [] ne m e f = absurd (ne refl)
signed_whole top (b ∷ bs) ne m e f = signed_plain top (b ∷ bs) (rw (ne_eqb b 45 m) refl) e f
