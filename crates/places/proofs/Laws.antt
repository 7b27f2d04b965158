-- Laws of the walks: one for each way through a turn of a loop. Assumes nothing.
use Prim.Native.Nat.{ℕ, ◌+◌, ◌*◌, ◌<◌, suc, ◌≤◌, ◌-◌, ◌/◌, zero}
use native.Mathlib.Nat.{add-zero, sub-zero}
use native.Mathlib.Omega.{arith}
use native.Mathlib.Decide.{dec_lt}
use mathlib.Core.Path.{◌≡◌, refl, sym, ◌∙◌}
use mathlib.Core.Logic.{dite}
use mathlib.Core.Bool.{Bool, true, false, not, ◌&&◌, ◌||◌}
use Rattle.std.specs.Prelude.{Option, Some, None}
use mathlib.Core.List.{List}
use lib.Dec.{eqb, leb}
use borrow.Author.Tests.{lt-ltb, le-ltb}
use Rattle.model.specs.Choice.{choose, first, range}
use Rattle.model.specs.Memory.{animal, recent}
use Rattle.model.specs.Clock.{next_hand, seek_victim, takes, victim}
use Rattle.std.specs.List.{list_any, range_with_len}
use Rattle.model.proofs.ListLaws.{true_false}
use Rattle.places.specs.Walks.{first_from, first_with, scanned}

-- the hand one place on, or back at 0
pub hand_on : (m h : ℕ) → h + 1 < m → h + 1 ≡ next_hand m h
unfolding next_hand
hand_on m h e = rw (lt-ltb (h + 1) m e)

pub hand_back : (m h : ℕ) → m ≤ h + 1 → 0 ≡ next_hand m h
unfolding next_hand
hand_back m h e = rw (le-ltb (h + 1) m e)

-- a hand stays below m
pub hand_below : (m h : ℕ) → h < m → next_hand m h < m
hand_below m h e = dite (dec_lt (h + 1) m) (λ q. rw (← hand_on m h q) q) λ q. rw (← hand_back m h (omega arith)) (omega arith)

-- the test of one place, as the code makes it
abbrev pub is_taken : ℕ → List ℕ → ℕ → ℕ → Bool
is_taken m l h n = not (eqb (animal l h) 0) && (eqb (recent l h) 0 || leb m n)

-- the code tests for not recent where the definition tests for recent
test_is : (a r s : Bool) → takes (not a) (not r) s ≡ (not a && (r || s))
test_is a true s = refl
test_is a false s = refl

-- the hand stands at h and n places were looked at: from here it finds what it finds from the start
pub record Looking (m : ℕ) (l : List ℕ) (hand h n : ℕ) : Type 0 where
  pub upto : n ≤ 2 * m
  pub within : h < m
  pub same : seek_victim m l (2 * m - n) h n ≡ victim m l hand

pub look_first : {m hand : ℕ} (l : List ℕ) → hand < m → Looking m l hand hand 0
look_first l e = record { upto = omega arith; within = e; same = rw sub-zero }

module _ {m hand h n : ℕ} {l : List ℕ} (s : Looking m l hand h n) where
  look : n < 2 * m → seek_victim m l (2 * m - n) h n
      ≡ choose (is_taken m l h n) (Some (record { place = h; looked = n + 1 })) (seek_victim m l (2 * m - (n + 1)) (next_hand m h) (n + 1))
  unfolding seek_victim
  look e =
      let f : 2 * m - n ≡ suc (2 * m - (n + 1)) = omega arith in
      rw (f, test_is (eqb (animal l h) 0) (eqb (recent l h) 0) (leb m n))

  pub by_taken : n < 2 * m → is_taken m l h n ≡ true → scanned (Some (record { place = h; looked = n + 1 })) ≡ victim m l hand
  by_taken e t = sym (look e ∙ rw t) ∙ s.same

  pub by_passed : {g : ℕ} → n < 2 * m → is_taken m l h n ≡ false → g ≡ next_hand m h → Looking m l hand g (n + 1)
  by_passed e t q =
      record { upto = omega arith; within = rw q (hand_below m h s.within); same = rw q (sym (look e ∙ rw t) ∙ s.same) }

  pub by_nobody : 2 * m ≤ n → scanned None ≡ victim m l hand
  unfolding seek_victim
  by_nobody e = let f : 2 * m - n ≡ 0 = omega arith in rw f at s.same

-- no place below q has the number: the rest decides
pub record NoneYet (m : ℕ) (l : List ℕ) (x q : ℕ) : Type 0 where
  pub same : first_from m l x q ≡ first_with m l x

pub none_yet : (m : ℕ) (l : List ℕ) (x : ℕ) → NoneYet m l x 0
none_yet m l x = record { same = let f : m - 0 ≡ m = omega arith in rw f }

abbrev has : List ℕ → ℕ → ℕ → Bool
has l x q = eqb (animal l q) x

-- one place without the number is passed, or several at once
by_other : {m x q : ℕ} {l : List ℕ} → NoneYet m l x q → q < m → has l x q ≡ false → NoneYet m l x (q + 1)
unfolding first range
by_other {m} {x} {q} {l} s h n =
    let e : m - q ≡ suc (m - (q + 1)) = omega arith in
    let k : q + 1 ≡ suc q = omega arith in
    record { same = sym (rw (e, n, ← k)) ∙ s.same }

by_others : (n : ℕ) {m x q : ℕ} {l : List ℕ} → NoneYet m l x q → q + n ≤ m → list_any (has l x) (range_with_len q n) ≡ false → NoneYet m l x (q + n)
by_others zero s h t = rw add-zero s
by_others (suc n) {m} {x} {q} {l} s h t =
    let b = neither (has l x q) (list_any (has l x) (range_with_len (q + 1) n)) t in
    let e : q + suc n ≡ q + 1 + n = omega arith in
    rw e (by_others n (by_other s (omega arith) b.0) (omega arith) b.1)
  where
    neither : (a b : Bool) → (a || b) ≡ false → (a ≡ false) × (b ≡ false)
    neither true b e = true_false refl e
    neither false b e = (refl, e)

-- a turn that passes sixteen places
pub by_turn : {m x t : ℕ} {l : List ℕ} {b : Bool} → NoneYet m l x (16 * t) → t < m / 16 → b ≡ list_any (has l x) (range_with_len (16 * t) 16)
    → b ≡ false → NoneYet m l x (16 * (t + 1))
by_turn {t = t} s h e q = let g : 16 * (t + 1) ≡ 16 * t + 16 = omega arith in rw g (by_others 16 s (omega arith) (sym e ∙ q))

-- where no place so far has it, what is found in the rest is what is asked for
pub by_rest : {m x p : ℕ} {l : List ℕ} {o : Option ℕ} → NoneYet m l x p → o ≡ first_from m l x p → o ≡ first_with m l x
by_rest s e = e ∙ s.same
