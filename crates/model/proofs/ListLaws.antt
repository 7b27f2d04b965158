-- Lists, tests and first numbers. Assumes nothing.
use Prim.Native.Nat.{ℕ, zero, suc, ◌+◌, ◌-◌, ◌<◌, ◌≤◌}
use native.Mathlib.Omega.{arith}
use native.Mathlib.Decide.{ℕ_discrete, dec_lt}
use mathlib.Core.Path.{◌≡◌, refl, sym, ap, ◌∙◌}
use mathlib.Core.Logic.{◌≢◌, ◌⊎◌, inl, inr, dite}
use mathlib.Core.Bool.{Bool, true, false}
use Rattle.std.specs.Prelude.{Option, Some, None}
use mathlib.Core.List.Memᴰ.{head}
use mathlib.Core.List.Memᴰ.{not-nil}
use mathlib.Core.List.Memᴰ.{tail}
use mathlib.Core.List.{List, [], ◌∷◌, ◌++◌, Memᴰ as In}
use lib.ListN.{length, get_or, set, take, replicate, get_or-replicate, get_or-eq_default, length-replicate}
use lib.Seq.{get_or-set_same, get_or-set_other, set_out, take-append-add}
use lib.Dec.{eqb}
use borrow.Author.Tests.{eq-eqb, ne_eqb}
use Rattle.model.specs.Choice.{choose, first, range}
use Rattle.model.specs.Memory.{Mem, animal}
use Rattle.model.specs.Stores.{Store, apply, apply_all}
use Rattle.model.specs.Row.{walk_to}

-- a word after one store: the stored one at its place, else as before
pub at_set : (l : List ℕ) (i v j : ℕ) → ((j ≡ i) × (get_or (set l i v) j 0 ≡ v)) ⊎ (get_or (set l i v) j 0 ≡ get_or l j 0)
at_set l i v j =
    dite (ℕ_discrete j i)
    (λ e. dite (dec_lt i (length l)) (λ h. inl (e, rw (e, get_or-set_same))) λ h. let k : length l ≤ i = omega arith in inr (rw set_out))
    λ ne. inr (rw get_or-set_other)

-- a word that is not 0 lies in the list
pub inside_held : (T : List ℕ) (i : ℕ) → get_or T i 0 ≢ 0 → i < length T
inside_held T i h = dite (dec_lt i (length T)) (λ l. l) λ l. absurd (h (get_or-eq_default T 0 (omega arith)))

pub bool : (P : Bool → Type 0) (b : Bool) → (b ≡ true → P true) → (b ≡ false → P false) → P b
bool P true t f = t refl
bool P false t f = f refl

pub true_false : {A : Type 0} {b : Bool} → b ≡ true → b ≡ false → A
true_false p q = let z : ◌≡◌ {A = ℕ} 0 1 = ap (λ b. choose b 0 1) (sym p ∙ q) in absurd (omega arith)

-- two tests of equality, both passed
pub both_yes : {a b c d : ℕ} → a ≡ b → c ≡ d → choose (eqb a b) (eqb c d) false ≡ true
both_yes {a} {b} {c} {d} p q = rw (eq-eqb a b p, eq-eqb c d q)

pub both_is : (a b c d : ℕ) → choose (eqb a b) (eqb c d) false ≡ true → (a ≡ b) × (c ≡ d)
both_is a b c d t =
    dite (ℕ_discrete a b)
    (λ p. dite (ℕ_discrete c d) (λ q. (p, q)) λ q. true_false t (rw (eq-eqb a b p, ne_eqb c d q)))
    λ p. true_false t (rw (ne_eqb a b p))

pub both_no : (a b c d : ℕ) → (a ≡ b → c ≡ d → ⊥) → choose (eqb a b) (eqb c d) false ≡ false
both_no a b c d n =
    dite (ℕ_discrete a b) (λ p. let q : ¬ (c ≡ d) = n p in rw (eq-eqb a b p, ne_eqb c d q)) λ p. rw (ne_eqb a b p)

-- what `first` gives
pub data First (f : ℕ → Bool) (l : List ℕ) : Option ℕ → Type 0 where
  found : {i : ℕ} → In i l → f i ≡ true → First f l (Some i)
  missing : ((i : ℕ) → In i l → f i ≡ false) → First f l None

later : {f : ℕ → Bool} {i : ℕ} {l : List ℕ} {o : Option ℕ} → f i ≡ false → First f l o → First f (i ∷ l) o
later e (found q t) = found (tail q) t
later {f} {i} {l} e (missing h) = missing all
  where
    all : (j : ℕ) → In j (i ∷ l) → f j ≡ false
    all j (head p) = rw p e
    all j (tail q) = h j q

pub first_is : (f : ℕ → Bool) (l : List ℕ) → First f l (first f l)
unfolding first
first_is f [] = missing (λ i q. absurd (not-nil q))
first_is f (i ∷ l) =
    bool (λ b. First f (i ∷ l) (choose b (Some i) (first f l))) (f i) (λ e. found (head refl) e) λ e. later e (first_is f l)

pub first_same : (f g : ℕ → Bool) → ((i : ℕ) → f i ≡ g i) → (l : List ℕ) → first f l ≡ first g l
unfolding first
first_same f g h [] = refl
first_same f g h (i ∷ l) = rw (h i, first_same f g h l)

pub range_in : {i : ℕ} (a n : ℕ) → a ≤ i → i < a + n → In i (range a n)
unfolding range
range_in a zero h k = absurd (omega arith)
range_in {i} a (suc n) h k = dite (ℕ_discrete i a) (λ e. head e) λ ne. tail (range_in (suc a) n (omega arith) (omega arith))

pub in_range : {i : ℕ} (a n : ℕ) → In i (range a n) → (a ≤ i) × (i < a + n)
unfolding range
in_range a zero q = absurd (not-nil q)
in_range {i} a (suc n) (head e) = (omega arith, omega arith)
in_range a (suc n) (tail q) = let r = in_range (suc a) n q in (omega arith, omega arith)

pub all_append : (xs ys : List Store) (m : Mem) → apply_all (xs ++ ys) m ≡ apply_all ys (apply_all xs m)
all_append [] ys m = refl
all_append (x ∷ xs) ys m = all_append xs ys (apply x m)

pub take_past : (xs ys : List Store) (k : ℕ) → length xs ≤ k → take k (xs ++ ys) ≡ xs ++ take (k - length xs) ys
take_past xs ys k h = let e : k ≡ length xs + (k - length xs) = omega arith in ap (λ k. take k (xs ++ ys)) e ∙ take-append-add xs ys (k - length xs)

-- a walk over the places finds the first that passes
pub walk_first : (l : List ℕ) (x n p : ℕ) → walk_to l x n p ≡ first (λ q. eqb (animal l q) x) (range p n)
unfolding walk_to first range
walk_first l x zero p = refl
walk_first l x (suc n) p = ap (choose (eqb (animal l p) x) (Some p)) (walk_first l x n (suc p))

pub walk_is : (l : List ℕ) (x n p : ℕ) → First (λ q. eqb (animal l q) x) (range p n) (walk_to l x n p)
walk_is l x n p = rw (walk_first l x n p) (first_is (λ q. eqb (animal l q) x) (range p n))

-- a run of zeros reads 0 everywhere
pub zeros : (n i : ℕ) → ◌≡◌ {A = ℕ} (get_or (replicate n 0) i 0) 0
zeros n i =
    dite (dec_lt i n) (λ h. get_or-replicate n i 0 0 h) λ h. get_or-eq_default (replicate n 0) 0 (rw length-replicate (omega arith))
