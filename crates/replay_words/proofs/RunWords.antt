-- The numbers of words of a run: one for each word. Assumes nothing.
use Prim.Native.Nat.{ℕ, zero, suc, ◌<◌}
use native.Mathlib.Omega.{arith}
use mathlib.Core.Path.{◌≡◌, ap, sym, ◌∙◌}
use mathlib.Core.List.{List, [], ◌∷◌}
use lib.ListN.{length, get_or, set}

module _ {X : Type 0} {number : X → ℕ} {numbers : List X → List ℕ} (none : numbers [] ≡ [])
    (more : (x : X) (xs : List X) → numbers (x ∷ xs) ≡ number x ∷ numbers xs) where
  pub numbers_length : (xs : List X) → length (numbers xs) ≡ length xs
  numbers_length [] = ap length none
  numbers_length (x ∷ xs) = ap length (more x xs) ∙ ap suc (numbers_length xs)

  pub number_at : (xs : List X) (i : ℕ) (d : X) → i < length xs → number (get_or xs i d) ≡ get_or (numbers xs) i 0
  number_at [] i d h = absurd (omega arith)
  number_at (x ∷ xs) zero d h = ap (λ (l : List ℕ). get_or l 0 0) (sym (more x xs))
  number_at (x ∷ xs) (suc i) d h = number_at xs i d (omega arith) ∙ ap (λ (l : List ℕ). get_or l (suc i) 0) (sym (more x xs))

  pub numbers_set : (xs : List X) (i : ℕ) (y : X) → numbers (set xs i y) ≡ set (numbers xs) i (number y)
  numbers_set [] i y = none ∙ ap (λ (l : List ℕ). set l i (number y)) (sym none)
  numbers_set (x ∷ xs) zero y = more y xs ∙ ap (λ (l : List ℕ). set l 0 (number y)) (sym (more x xs))
  numbers_set (x ∷ xs) (suc i) y =
      more x (set xs i y) ∙ ap (λ (l : List ℕ). number x ∷ l) (numbers_set xs i y) ∙ ap (λ (l : List ℕ). set l (suc i) (number y)) (sym (more x xs))
