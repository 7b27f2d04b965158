-- The slot of a word among the slots of two buckets: a law a way out, in the code's own words. Assumes nothing.
use Prim.Native.Nat.{ℕ, ◌+◌, ◌*◌, ◌<◌, suc, ◌≤◌}
use native.Mathlib.Omega.{arith}
use mathlib.Core.Path.{◌≡◌, refl, sym, ap, ◌∙◌, ap₂}
use mathlib.Core.Bool.{Bool}
use Rattle.std.specs.Prelude.{Option, Some, None, unwrap_or}
use mathlib.Core.List.Memᴰ.{head}
use mathlib.Core.List.Memᴰ.{tail}
use mathlib.Core.List.{List, [], ◌∷◌, ◌++◌, Memᴰ as In}
use lib.ListN.{get_or}
use lib.Dec.{eqb, ltb}
use borrow.Author.Tests.{lt-ltb, le-ltb}
use Rattle.std.specs.Bool.{then_some}
use Rattle.model.specs.Choice.{choose, first, range}
use Rattle.model.proofs.ListLaws.{First, bool, first_is, found, in_range, missing}

four_slots_of : (a : ℕ) → range a 4 ≡ a ∷ (a + 1) ∷ (a + 2) ∷ (a + 3) ∷ []
unfolding range
four_slots_of a =
    let e₁ : suc a ≡ a + 1 = omega arith in
    let e₂ : suc (suc a) ≡ a + 2 = omega arith in
    let e₃ : suc (suc (suc a)) ≡ a + 3 = omega arith in
    ap₂ (λ (i j : ℕ). a ∷ i ∷ j ∷ suc (suc (suc a)) ∷ []) e₁ e₂ ∙ ap (λ (k : ℕ). a ∷ (a + 1) ∷ (a + 2) ∷ k ∷ []) e₃

-- the slot that was found, or another number
abbrev slot_or : ℕ → Option ℕ → ℕ
slot_or other o = unwrap_or o other

-- the first of two finds
abbrev or_first : Option ℕ → Option ℕ → Option ℕ
or_first None o = o
or_first (Some i) o = Some i

first_append : (f : ℕ → Bool) (xs ys : List ℕ) → first f (xs ++ ys) ≡ or_first (first f xs) (first f ys)
unfolding first
first_append f [] ys = refl
first_append f (x ∷ xs) ys =
    bool (λ b. choose b (Some x) (first f (xs ++ ys)) ≡ or_first (choose b (Some x) (first f xs)) (first f ys)) (f x) (λ e. refl) λ e. first_append f xs ys

slot_or_first : (other : ℕ) (o o' : Option ℕ) → slot_or (slot_or other o') o ≡ slot_or other (or_first o o')
slot_or_first other None o' = refl
slot_or_first other (Some i) o' = refl

below_both : {L : ℕ} (xs ys : List ℕ) → ((i : ℕ) → In i xs → i < L) → ((i : ℕ) → In i ys → i < L) → (i : ℕ) → In i (xs ++ ys) → i < L
below_both [] ys h h' i q = h' i q
below_both (x ∷ xs) ys h h' i (head e) = h i (head e)
below_both (x ∷ xs) ys h h' i (tail q) = below_both xs ys (λ j p. h j (tail p)) h' i q

module _ (T : List ℕ) (w : ℕ) where
  abbrev has : ℕ → Bool
  has i = eqb (get_or T i 0) w

  one_slot : (i other : ℕ) (is : List ℕ) → choose (has i) i (slot_or other (first has is)) ≡ slot_or other (first has (i ∷ is))
  unfolding first
  one_slot i other is = bool (λ b. choose b i (slot_or other (first has is)) ≡ slot_or other (choose b (Some i) (first has is))) (has i) (λ e. refl) λ e. refl

  no_slot : (other : ℕ) → other ≡ slot_or other (first has [])
  unfolding first
  no_slot other = refl

  -- from the last slot of a bucket back to its first
  pub four_slots : (a other : ℕ) {a₃ a₂ a₁ r : ℕ} → a₃ ≡ choose (has (a + 3)) (a + 3) other → a₂ ≡ choose (has (a + 2)) (a + 2) a₃
      → a₁ ≡ choose (has (a + 1)) (a + 1) a₂ → r ≡ choose (has a) a a₁ → r ≡ slot_or other (first has (range a 4))
  four_slots a other e₃ e₂ e₁ e₀ =
      let s₃ = e₃ ∙ ap (choose (has (a + 3)) (a + 3)) (no_slot other) ∙ one_slot (a + 3) other [] in
      let s₂ = e₂ ∙ ap (choose (has (a + 2)) (a + 2)) s₃ ∙ one_slot (a + 2) other ((a + 3) ∷ []) in
      let s₁ = e₁ ∙ ap (choose (has (a + 1)) (a + 1)) s₂ ∙ one_slot (a + 1) other ((a + 2) ∷ (a + 3) ∷ []) in
      let s₀ = e₀ ∙ ap (choose (has a) a) s₁ ∙ one_slot a other ((a + 1) ∷ (a + 2) ∷ (a + 3) ∷ []) in
      s₀ ∙ ap (λ (is : List ℕ). slot_or other (first has is)) (sym (four_slots_of a))

  -- in the near bucket, in the far one, or nowhere: at L, where no slot is
  module _ (L near far : ℕ) (in_run : (near * 4 + 4 ≤ L) × (far * 4 + 4 ≤ L)) {t r : ℕ} (there : t ≡ slot_or L (first has (range (far * 4) 4)))
      (seen : r ≡ slot_or t (first has (range (near * 4) 4))) where
    abbrev both : List ℕ
    both = range (near * 4) 4 ++ range (far * 4) 4

    slot_is : r ≡ slot_or L (first has both)
    slot_is =
        seen ∙ ap (λ (t : ℕ). slot_or t (first has (range (near * 4) 4))) there
        ∙ slot_or_first L (first has (range (near * 4) 4)) (first has (range (far * 4) 4))
        ∙ ap (slot_or L) (sym (first_append has (range (near * 4) 4) (range (far * 4) 4)))

    below : (i : ℕ) → In i both → i < L
    below =
        below_both (range (near * 4) 4) (range (far * 4) 4) (λ i q. omega (arith, in_range (near * 4) 4 q))
        λ i q. omega (arith, in_range (far * 4) 4 q)

    pub slot_there : then_some (ltb r L) r ≡ first has both
    slot_there = go (first_is has both) slot_is
      where
        go : {o : Option ℕ} → First has both o → r ≡ slot_or L o → then_some (ltb r L) r ≡ o
        go (missing h) e = rw (le-ltb r L (omega arith))
        go (found {i = i} q t) e = rw (lt-ltb r L (omega (arith, below i q))) (ap Some e)
