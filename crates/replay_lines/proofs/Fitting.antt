-- Laws on one row: one a way out of the code. Assumes nothing.
use Prim.Native.Nat.{ℕ, ◌+◌, ◌≤◌}
use native.Mathlib.Numerals.{add-one}
use native.Mathlib.Omega.{arith}
use mathlib.Core.Path.{◌≡◌, refl, sym, ap, ◌∙◌}
use mathlib.Core.Bool.{Bool, true, false, not}
use Rattle.std.specs.Prelude.{Option, Some, None, MatchOption}
use Rattle.std.specs.Option.{is_some as is_one}
use Rattle.std.proofs.Common.{Bor}
use Rattle.model.proofs.ListLaws.{true_false}
use mathlib.Core.List.{List, [], ◌∷◌}
use lib.ListN.{length, set}
use Rattle.replay_words.specs.Words.{same, words}
use Rattle.replay_words.proofs.Scan.{words_few}
use Rattle.replay_lines.specs.Taking.{bound, is_some, taken, taken_up_to, takes}
use Rattle.replay_lines.specs.Line.{both, fitting}
use Rattle.replay_lines.specs.Cursor.{Fits, stored, told}
use Rattle.replay_lines.specs.declared.Taken.{Taken}
use Rattle.replay_lines.specs.declared.Taken.TheVariants as taken

-- the largest number that a word takes, in the order of the tests
module _ (p : List ℕ) {t₁ : Bool} (e₁ : t₁ ≡ same p (78 ∷ [])) where
  pub bound_number : t₁ ≡ true → Some 18446744073709551615 ≡ bound p
  unfolding bound
  bound_number y = rw (sym e₁ ∙ y)

  module _ {t₂ : Bool} (n₁ : t₁ ≡ false) (e₂ : t₂ ≡ same p (80 ∷ [])) where
    pub bound_permission : t₂ ≡ true → Some 4294967295 ≡ bound p
    unfolding bound
    bound_permission y = rw (sym e₁ ∙ n₁, sym e₂ ∙ y)

    module _ {t₃ : Bool} (n₂ : t₂ ≡ false) (e₃ : t₃ ≡ same p (66 ∷ [])) where
      pub bound_buffer : t₃ ≡ true → Some 81920 ≡ bound p
      unfolding bound
      bound_buffer y = rw (sym e₁ ∙ n₁, sym e₂ ∙ n₂, sym e₃ ∙ y)

      pub bound_none : t₃ ≡ false → None ≡ bound p
      unfolding bound
      bound_none n₃ = rw (sym e₁ ∙ n₁, sym e₂ ∙ n₂, sym e₃ ∙ n₃)

-- a word by its bound
pub by_bound : (p w : List ℕ) {b : Option ℕ} {o : Option (List ℕ)} → b ≡ bound p → o ≡ taken_up_to b p w → o ≡ taken p w
unfolding taken
by_bound p w e q = q ∙ ap (λ (b : Option ℕ). taken_up_to b p w) e

-- whether a word fits
pub takes_is : (p w : List ℕ) {o : Option (List ℕ)} → o ≡ taken p w → is_some o ≡ takes p w
unfolding takes
takes_is p w e = ap is_some e

pub takes_other : (p w : List ℕ) (t : Taken) → told t ≡ taken p w → (t ≡ taken.No → ⊥) → true ≡ takes p w
takes_other p w taken.No e ne = absurd (ne refl)
takes_other p w taken.Word e ne = takes_is p w e
takes_other p w (taken.Number n) e ne = takes_is p w e

-- a row and a line have been read up to what is left of them, and n numbers are stored
pub record Reading (row line before now row_left line_left : List ℕ) (n : ℕ) : Type 0 where
  pub few : n + length (words row_left) ≤ length row
  pub ahead : stored now n (fitting (words row_left) (words line_left)) ≡ stored before 0 (fitting (words row) (words line))

pub read_first : (row line numbers : List ℕ) → Reading row line numbers numbers row line 0
read_first row line numbers = record { few = omega (arith, words_few row); ahead = refl }

-- what one word took goes before the rest
both_word : (l : List ℕ) (n : ℕ) (o : Option (List ℕ)) → stored l n (both (Some []) o) ≡ stored l n o
both_word l n None = refl
both_word l n (Some ns) = refl

both_number : (l : List ℕ) (n v : ℕ) (o : Option (List ℕ)) → stored l n (both (Some (v ∷ [])) o) ≡ stored (set l n v) (n + 1) o
both_number l n v None = refl
both_number l n v (Some ns) = rw add-one

module _ {row line before now row_left line_left : List ℕ} {n : ℕ} (s : Reading row line before now row_left line_left n) where
  -- the row is over, and the line is if it gives no further word
  pub read_over : words row_left ≡ [] → (r : Option (Bor (List ℕ))) (b : Bool) (behind : List (List ℕ))
      → MatchOption r ((words line_left ≡ []) × (behind ≡ [])) (λ w. words line_left ≡ w.now ∷ behind) → is_one r ≡ not b → Fits row line before now b
  unfolding fitting
  read_over e None true behind f q = record { fits = rw (e, f.0) at s.ahead }
  read_over e None false behind f q = true_false q refl
  read_over e (Some w) true behind f q = true_false refl q
  read_over e (Some w) false behind f q = record { fits = rw (e, f) at s.ahead }

  module _ {p : List ℕ} (row_behind : List ℕ) (e : words row_left ≡ p ∷ words row_behind) where
    pub read_short : words line_left ≡ [] → Fits row line before now false
    unfolding fitting
    read_short f = record { fits = rw (e, f) at s.ahead }

    module _ {w : List ℕ} (line_behind : List ℕ) (f : words line_left ≡ w ∷ words line_behind) where
      -- one step of each
      step : {o : Option (List ℕ)} → o ≡ taken p w → stored now n (both o (fitting (words row_behind) (words line_behind))) ≡ stored before 0 (fitting (words row) (words line))
      unfolding fitting
      step {o} q = rw q (rw (e, f) at s.ahead)

      pub read_unfit : None ≡ taken p w → Fits row line before now false
      read_unfit q = record { fits = step q }

      pub read_word : Some [] ≡ taken p w → Reading row line before now row_behind line_behind n
      read_word q = record { few = omega (arith, s.few, ap length e); ahead = sym (both_word now n (fitting (words row_behind) (words line_behind))) ∙ step q }

      pub read_number : {v : ℕ} {after : List ℕ} → Some (v ∷ []) ≡ taken p w → after ≡ set now n v → Reading row line before after row_behind line_behind (n + 1)
      read_number {v} {after} q g =
          let rest = fitting (words row_behind) (words line_behind) in
          record { few = omega (arith, s.few, ap length e); ahead = ap (λ (l : List ℕ). stored l (n + 1) rest) g ∙ sym (both_number now n v rest) ∙ step q }
