-- What the library's searches find is the first number that passes. Assumes nothing.
use Prim.Native.Nat.{ℕ, zero, suc, ◌+◌, ◌-◌, ◌<◌, ◌≤◌}
use native.Mathlib.Omega.{arith}
use native.Mathlib.Decide.{ℕ_discrete, dec_lt}
use mathlib.Core.Path.{◌≡◌, refl, sym, ◌∙◌}
use mathlib.Core.Logic.{dite}
use mathlib.Core.Bool.{Bool, true, false}
use mathlib.Core.List.{List}
use lib.ListN.{length, get_or}
use denote.Ref.{Bor}
use denote.Param.Members.{Mut}
use Rattle.std.specs.Prelude.{Option, Some, None}
use Rattle.std.specs.Bool.{⊤}
use Rattle.std.specs.Option.{MatchOption}
use Rattle.std.specs.Fn.{Called, CalledAt}
use Rattle.std.specs.Iterator.{YieldsThen}
use Rattle.std.specs.List.{FoldsTo, position, position_or_len}
use Rattle.std.specs.declared.ops.Range.{Range}
use Rattle.std.specs.Slice.Iter.{iter_rest}
use Rattle.std.proofs.Common.{Iter}
use Rattle.std.proofs.iter.Yields.{fronts, nat_range_steps}
use Rattle.std.proofs.lemmas.Iterator.{first_from_Range, YieldsList-from_slice}
use Rattle.std.proofs.lemmas.Iterator.Search.{position_from_yields_List}
use Rattle.std.proofs.lemmas.List.Sums.{fails_before_first}
use Rattle.std.proofs.lemmas.List.Quantifiers.{position-Some}
use borrow.Author.Tests.{lt-ltb}
use Rattle.model.specs.Choice.{first, range}

module _ (f : ℕ → Bool) where
  -- the lowest of n numbers from a on that passes
  lowest_first : (a n i : ℕ) → a ≤ i → i < a + n → f i ≡ true → ((k : ℕ) → a ≤ k → k < i → f k ≡ false) → Some i ≡ first f (range a n)
  unfolding first range
  lowest_first a zero i h h' t b = absurd (omega arith)
  lowest_first a (suc n) i h h' t b =
      dite (ℕ_discrete a i) (λ e. let t' : f a ≡ true = rw e t in rw (t', e))
      λ ne. rw (b a (omega arith) (omega arith)) (lowest_first (suc a) n i (omega arith) (omega arith) t (λ k l l'. b k (omega arith) l'))

  none_first : (a n : ℕ) → ((k : ℕ) → a ≤ k → k < a + n → f k ≡ false) → None ≡ first f (range a n)
  unfolding first range
  none_first a zero b = refl
  none_first a (suc n) b = rw (b a (omega arith) (omega arith)) (none_first (suc a) n (λ k h h'. b k (omega arith) (omega arith)))

  -- `find` over a range of n numbers from a on, whose closure makes the test
  pub by_find : {a n : ℕ} {F : Type 0} {g : Mut F (Bor ℕ × Unit {0}) Bool} (s u : Range ℕ) (c : F) {r : Option ℕ}
      → (xs : List ℕ) × (j : F) × YieldsThen nat_range_steps s xs r u × FoldsTo (λ p x q. CalledAt g p x false q) c xs j
      × MatchOption r ⊤ (λ x. (h : F) × CalledAt g j x true h)
      → s.start ≡ a → s.end - a ≡ n → ((x : ℕ) (b : Bool) (q : F) → CalledAt g c x b q → (q ≡ c) × (b ≡ f x)) → r ≡ first f (range a n)
  by_find {a} {n} s u c {r = r} ran e e' calls =
      go r (first_from_Range s u c r (λ x. f x ≡ true) (λ x. f x ≡ false) ran (λ x q k. sym (calls x true q k).1)
      (λ x q k. ((calls x false q k).0, sym (calls x false q k).1)))
    where
      go : (r : Option ℕ) → MatchOption r ((k : ℕ) → s.start ≤ k → k < s.end → f k ≡ false)
          (λ i. (s.start ≤ i) × (i < s.end) × (f i ≡ true) × ((k : ℕ) → s.start ≤ k → k < i → f k ≡ false)) → r ≡ first f (range a n)
      go None h = none_first a n (λ k l l'. h k (omega arith) (omega arith))
      go (Some i) h = lowest_first a n i (omega (arith, h.0)) (omega (arith, h.1)) h.2 (λ k l l'. h.3 k (omega arith) l')

-- `position` over a run, whose closure makes the test
pub by_position : {X F : Type 0} {g : Mut F (Bor X × Unit {0}) Bool} (t : X → Bool) (xs : List X) (d : X) (s u : Iter X) (c : F) {r : Option ℕ}
    → (ys : List (Bor X)) × (o : Option (Bor X)) × (j : F) × YieldsThen fronts s ys o u × FoldsTo (λ p x q. Called g p (x, tt) false q) c ys j
    × MatchOption o (r ≡ None) (λ x. (r ≡ Some (length ys)) × ((h : F) × Called g j (x, tt) true h))
    → iter_rest s ≡ xs → ((x : Bor X) (b : Bool) (q : F) → Called g c (x, tt) b q → (q ≡ c) × (b ≡ t x.now))
    → r ≡ first (λ i. t (get_or xs i d)) (range 0 (length xs))
by_position t xs d s u c {r} ran e calls =
    position_from_yields_List t u c r ran (YieldsList-from_slice xs e) calls ∙ go (position t xs) refl
  where
    f : ℕ → Bool
    f i = t (get_or xs i d)

    go : (o : Option ℕ) → position t xs ≡ o → o ≡ first f (range 0 (length xs))
    go (Some i) q = let h = position-Some t xs i d q in lowest_first f 0 (length xs) i (omega arith) (omega (arith, h.0)) h.1 (λ k l. h.2 k)
    go None q =
        none_first f 0 (length xs) λ k l l'. fails_before_first t xs k d (dite (dec_lt (position_or_len t xs) (length xs))
        (λ h. let z : ◌≡◌ {A = Option ℕ} (Some (position_or_len t xs)) None = rw (lt-ltb (position_or_len t xs) (length xs) h) at q in cc) (λ h. omega arith))
