-- What a caller may know of what was found: where it is and how many places were looked at. Assumes nothing.
use Prim.Native.Nat.{ℕ, ◌+◌, ◌*◌, ◌<◌, suc, ◌≤◌, zero}
use native.Mathlib.Omega.{arith}
use mathlib.Core.Path.{◌≡◌, refl, sym, ◌∙◌}
use mathlib.Core.Bool.{true, false}
use Rattle.std.specs.Prelude.{Option, Some, None}
use mathlib.Core.List.{List}
use lib.Dec.{eqb, leb}
use Rattle.model.specs.Choice.{choose, range, there}
use Rattle.model.specs.Memory.{animal, is_recent, live}
use Rattle.model.specs.Clock.{Victim, next_hand, seek_victim, takes, victim}
use Rattle.model.specs.Calls.{some_live, vacant_place}
use Rattle.model.specs.WellFormed.{Live}
use Rattle.model.proofs.ListLaws.{First, bool, first_is, found, in_range, missing, range_in, true_false}
use Rattle.model.proofs.Clock.{Sought, always_victim, live_is, live_true, nobody, somebody, sought}
use Rattle.places.specs.Walks.{first_with, scanned}
use Rattle.places.specs.declared.Victim.{Victim as Found}

-- a victim was found at no more than k places looked at
abbrev AtMost : ℕ → Option Victim → Type 0
AtMost k None = Unit {0}
AtMost k (Some v) = v.looked ≤ k

at_most : (m : ℕ) (l : List ℕ) (f h n : ℕ) → AtMost (n + f) (seek_victim m l f h n)
unfolding seek_victim
at_most m l zero h n = tt
at_most m l (suc f) h n =
    let e : n + suc f ≡ n + 1 + f = omega arith in
    let k : n + 1 ≤ n + suc f = omega arith in
    bool (λ b. AtMost (n + suc f) (choose b (Some (record { place = h; looked = n + 1 })) (seek_victim m l f (next_hand m h) (n + 1))))
    (takes (live l h) (is_recent l h) (leb m n))
    (λ t. k) λ t. rw e (at_most m l f (next_hand m h) (n + 1))

-- a victim is a live one of m places, and 1 to 2m places were looked at
pub record Within (m : ℕ) (l : List ℕ) (v : Victim) : Type 0 where
  pub below : v.place < m
  pub alive : Live l v.place
  pub looked_some : 1 ≤ v.looked
  pub looked_most : v.looked ≤ 2 * m

pub victim_within : (m : ℕ) (l : List ℕ) (hand : ℕ) {v : Victim} → hand < m → victim m l hand ≡ Some v → Within m l v
victim_within m l hand {v} hm e = go (sought m l (2 * m) hand 0 hm) (at_most m l (2 * m) hand 0) e
  where
    go : {o : Option Victim} → Sought m l 0 o → AtMost (0 + 2 * m) o → o ≡ Some v → Within m l v
    go nobody a e = let z : ◌≡◌ {A = ℕ} 0 1 = cc in absurd (omega arith)
    go (somebody {v = w} i lv k) a e =
        let f : w ≡ v = cc in rw (← f) (record { below = i; alive = lv; looked_some = omega arith; looked_most = omega arith })

-- a place is live exactly if there is a victim
live_one : (m : ℕ) (l : List ℕ) (p : ℕ) → p < m → Live l p → some_live m l ≡ true
unfolding some_live
live_one m l p below alive = go (first_is (live l) (range 0 m))
  where
    go : {o : Option ℕ} → First (live l) (range 0 m) o → there o ≡ true
    go (found q t) = refl
    go (missing h) = true_false (live_true l p alive) (h p (range_in 0 m (omega arith) (omega arith)))

live_none : (m : ℕ) (l : List ℕ) (hand : ℕ) → hand < m → victim m l hand ≡ None → some_live m l ≡ false
unfolding some_live
live_none m l hand hm e = go (first_is (live l) (range 0 m))
  where
    go : {o : Option ℕ} → First (live l) (range 0 m) o → there o ≡ false
    go (found {i = p} q t) = absurd (always_victim m l hand p hm (omega (arith, in_range 0 m q)) (live_is l p t) e)
    go (missing h) = refl

-- the same of the code's answer
module _ (m : ℕ) (l : List ℕ) (hand : ℕ) {r : Option Found} (e : scanned r ≡ victim m l hand) where
  pub scan_within : {v : Found} → hand < m → r ≡ Some v → Within m l (record { place = v.place; looked = v.looked })
  scan_within hm q = victim_within m l hand hm (sym (rw q at e))

  pub scan_live : {v : Found} → hand < m → r ≡ Some v → some_live m l ≡ true
  scan_live h q = let w = scan_within h q in live_one m l _ w.below w.alive

  pub scan_empty : hand < m → r ≡ None → some_live m l ≡ false
  scan_empty h q = live_none m l hand h (sym (rw q at e))

-- a place that was found is one of m places
pub place_within : (m : ℕ) (l : List ℕ) (x : ℕ) {p : ℕ} {r : Option ℕ} → r ≡ first_with m l x → r ≡ Some p → p < m
place_within m l x {p} e q = go (first_is (λ q. eqb (animal l q) x) (range 0 m)) (sym e ∙ q)
  where
    go : {o : Option ℕ} → First (λ q. eqb (animal l q) x) (range 0 m) o → o ≡ Some p → p < m
    go (found {i = i} q t) e = let f : i ≡ p = cc in omega (arith, in_range 0 m q)
    go (missing h) e = let z : ◌≡◌ {A = ℕ} 0 1 = cc in absurd (omega arith)

pub vacant_within : (m : ℕ) (l : List ℕ) {p : ℕ} {r : Option ℕ} → r ≡ vacant_place m l → r ≡ Some p → p < m
unfolding vacant_place
vacant_within m l e q = place_within m l 0 e q
