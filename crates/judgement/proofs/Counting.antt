-- First numbers, and counts over lists without repeats. Assumes nothing.
use Prim.Native.Nat.{ℕ, zero, suc, ◌+◌, ◌<◌, ◌≤◌}
use native.Mathlib.Omega.{arith}
use native.Mathlib.Decide.{ℕ_discrete}
use mathlib.Core.Path.{◌≡◌, refl, sym, ap, ◌∙◌, subst}
use mathlib.Core.Logic.{◌⊎◌, inl, inr, dite, ⊎_elim}
use mathlib.Core.Bool.{Bool, true, false}
use Rattle.std.specs.Prelude.{Option, Some, None}
use mathlib.Core.List.Memᴰ.{head}
use mathlib.Core.List.Memᴰ.{tail}
use mathlib.Core.List.{List, [], ◌∷◌, ◌++◌, Memᴰ as In}
use mathlib.Core.List.Memᴰ.{not-nil}
use Rattle.model.specs.Choice.{choose, first, range, any, there}
use Rattle.model.proofs.ListLaws.{First, found, missing, first_is, bool, true_false, range_in, in_range}
use Rattle.judgement.specs.Conditions.{count}

-- nothing found: none passes
none_in : {f : ℕ → Bool} {l : List ℕ} {o : Option ℕ} → First f l o → o ≡ None → (i : ℕ) → In i l → f i ≡ false
none_in (missing h) e = h
none_in (found {i = k} q t) e = let z : ◌≡◌ {A = ℕ} 0 1 = cc in absurd (omega arith)

pub none_all : (f : ℕ → Bool) (l : List ℕ) → first f l ≡ None → (i : ℕ) → In i l → f i ≡ false
none_all f l e = none_in (first_is f l) e

pub none_range : (f : ℕ → Bool) (n : ℕ) → first f (range 0 n) ≡ None → (i : ℕ) → i < n → f i ≡ false
none_range f n e i h = none_all f (range 0 n) e i (range_in 0 n (omega arith) (omega arith))

pub all_none : (f : ℕ → Bool) (l : List ℕ) → ((i : ℕ) → In i l → f i ≡ false) → first f l ≡ None
unfolding first
all_none f [] h = refl
all_none f (i ∷ l) h = rw (h i (head refl)) (all_none f l (λ j q. h j (tail q)))

pub range_none : (f : ℕ → Bool) (n : ℕ) → ((i : ℕ) → i < n → f i ≡ false) → first f (range 0 n) ≡ None
range_none f n h = all_none f (range 0 n) (λ i q. h i (omega (arith, in_range 0 n q)))

-- something found: the lowest that passes
pub record Lowest (f : ℕ → Bool) (a n i : ℕ) : Type 0 where
  pub from : a ≤ i
  pub inside : i < a + n
  pub passes : f i ≡ true
  pub below : (j : ℕ) → a ≤ j → j < i → f j ≡ false

pub lowest : (f : ℕ → Bool) (a n i : ℕ) → first f (range a n) ≡ Some i → Lowest f a n i
unfolding first range
lowest f a zero i e = let z : ◌≡◌ {A = ℕ} 0 1 = cc in absurd (omega arith)
lowest f a (suc n) i e =
    bool (λ b. choose b (Some a) (first f (range (suc a) n)) ≡ Some i → f a ≡ b → Lowest f a (suc n) i) (f a)
    (λ q e t. let k : a ≡ i = cc in
    record { from = omega arith; inside = omega arith; passes = rw (← k) t; below = λ j h h'. absurd (omega arith) })
    (λ q e t. let r = lowest f (suc a) n i e in
    record {
      from = omega (arith, r.from);
      inside = omega (arith, r.inside);
      passes = r.passes;
      below = λ j h h'. dite (ℕ_discrete j a) (λ k. rw k t) (λ k. r.below j (omega arith) h');
    }) e refl

-- any of a list passes
pub any_in : (f : ℕ → Bool) (l : List ℕ) (i : ℕ) → In i l → f i ≡ true → any f l ≡ true
any_in f l i q t = bool (λ b. any f l ≡ b → b ≡ true) (any f l) (λ e h. refl) (λ e h. true_false t (none_all f l (none_of (first f l) h) i q)) refl
  where
    none_of : (o : Option ℕ) → there o ≡ false → o ≡ None
    none_of None h = refl
    none_of (Some i) h = true_false refl h

pub in_any : (f : ℕ → Bool) (l : List ℕ) → any f l ≡ true → (i : ℕ) × In i l × (f i ≡ true)
in_any f l t = go (first_is f l) t
  where
    go : {o : Option ℕ} → First f l o → there o ≡ true → (i : ℕ) × In i l × (f i ≡ true)
    go (found {i = i} q t) h = (i, q, t)
    go (missing h) e = true_false e refl

pub not_any : (f : ℕ → Bool) (l : List ℕ) → ((i : ℕ) → In i l → f i ≡ false) → any f l ≡ false
not_any f l h = ap there (all_none f l h)

-- no number stands twice in a list
abbrev pub Once : List ℕ → Type 0
Once [] = Unit {0}
Once (i ∷ l) = (¬ In i l) × Once l

pub once_range : (a n : ℕ) → Once (range a n)
unfolding range
once_range a zero = tt
once_range a (suc n) = (λ q. absurd (omega (arith, in_range (suc a) n q)), once_range (suc a) n)

pub in_append : {i : ℕ} (xs ys : List ℕ) → In i (xs ++ ys) → In i xs ⊎ In i ys
in_append [] ys q = inr q
in_append (x ∷ xs) ys (head e) = inl (head e)
in_append (x ∷ xs) ys (tail q) = ⊎_elim (λ p. inl (tail p)) (λ p. inr p) (in_append xs ys q)

pub once_append : (xs ys : List ℕ) → Once xs → Once ys → ((i : ℕ) → In i xs → ¬ In i ys) → Once (xs ++ ys)
once_append [] ys hx hy h = hy
once_append (x ∷ xs) ys hx hy h =
    (λ q. ⊎_elim (λ p. hx.0 p) (λ p. h x (head refl) p) (in_append xs ys q), once_append xs ys hx.1 hy (λ i q. h i (tail q)))

-- exactly one number of a list passes
pub record Single (f : ℕ → Bool) (l : List ℕ) : Type 0 where
  pub one : ℕ
  pub there : In one l
  pub passes : f one ≡ true
  pub alone : (j : ℕ) → In j l → f j ≡ true → j ≡ one

module _ (f : ℕ → Bool) where
  count_none : (l : List ℕ) → ((i : ℕ) → In i l → f i ≡ false) → count f l ≡ 0
  unfolding count
  count_none [] h = refl
  count_none (i ∷ l) h = rw (h i (head refl)) (omega (arith, count_none l (λ j q. h j (tail q))))

  none_count : (l : List ℕ) → count f l ≡ 0 → (i : ℕ) → In i l → f i ≡ true → ⊥
  unfolding count
  none_count [] e i q t = not-nil q
  none_count (k ∷ l) e i (head p) t = let u : ◌≡◌ {A = ℕ} (choose (f k) 1 0) 1 = rw (← p, t) in absurd (omega arith)
  none_count (k ∷ l) e i (tail q) t = none_count l (omega arith) i q t

  pub single_count : (l : List ℕ) → Once l → Single f l → count f l ≡ 1
  unfolding count
  single_count [] o s = absurd (not-nil s.there)
  single_count (k ∷ l) o s =
      bool (λ b. f k ≡ b → choose b 1 0 + count f l ≡ 1) (f k)
      (λ q t. let e : k ≡ s.one = s.alone k (head refl) t in
      let z : count f l ≡ 0 = count_none l (λ i p. bool (λ b. f i ≡ b → b ≡ false) (f i)
      (λ q u. absurd (o.0 (subst (λ (i : ℕ). In i l) (s.alone i (tail p) u ∙ sym e) p))) (λ q u. refl) refl) in omega arith)
      (λ q t. omega (arith, single_count l o.1 (rest t s.there))) refl
    where
      rest : f k ≡ false → In s.one (k ∷ l) → Single f l
      rest t (head e) = true_false s.passes (rw e t)
      rest t (tail p) = record { one = s.one; there = p; passes = s.passes; alone = λ j q u. s.alone j (tail q) u }

  pub count_single : (l : List ℕ) → count f l ≡ 1 → Single f l
  unfolding count
  count_single [] e = absurd (omega arith)
  count_single (k ∷ l) e =
      bool (λ b. f k ≡ b → choose b 1 0 + count f l ≡ 1 → Single f (k ∷ l)) (f k)
      (λ q t e. record { one = k; there = head refl; passes = t; alone = sole (omega arith) })
      (λ q t e. later t (count_single l (omega arith))) refl e
    where
      sole : count f l ≡ 0 → (j : ℕ) → In j (k ∷ l) → f j ≡ true → j ≡ k
      sole z j (head p) u = p
      sole z j (tail p) u = absurd (none_count l z j p u)

      later : f k ≡ false → Single f l → Single f (k ∷ l)
      later t s = record { one = s.one; there = tail s.there; passes = s.passes; alone = only }
        where
          only : (j : ℕ) → In j (k ∷ l) → f j ≡ true → j ≡ s.one
          only j (head p) u = true_false u (rw p t)
          only j (tail p) u = s.alone j p u
