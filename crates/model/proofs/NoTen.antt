-- Refusal 10 is never given, on any memory: after refusal 7 there is a live place, and so a victim. Assumes nothing.
use Prim.Native.Nat.{ℕ, ◌+◌, ◌*◌, ◌<◌, suc, ◌≤◌, zero}
use native.Mathlib.Omega.{arith}
use mathlib.Core.Path.{◌≡◌, refl, sym, ap}
use mathlib.Core.Logic.{◌≢◌}
use mathlib.Core.Bool.{Bool, true, false}
use Rattle.std.specs.Prelude.{Option, Some, None}
use mathlib.Core.List.{List}
use lib.Dec.{leb}
use borrow.Author.Tests.{leb-false}
use Rattle.model.specs.Choice.{choose, range, there}
use Rattle.model.specs.Memory.{Mem, animal, is_recent, live}
use Rattle.model.specs.Shape.{Shape, right_lengths, shape_of, Ways}
use Rattle.model.specs.Answers.{evicted, refused}
use Rattle.model.specs.Clock.{Victim, next_hand, seek_victim, takes, victim}
use Rattle.model.specs.Calls.{Outcome, busy, call, evict_at, evict_slot, home_damage, refuse, slot_of, some_live}
use Rattle.model.specs.Lent.{lent_call}
use Rattle.model.proofs.ListLaws.{First, bool, first_is, found, in_range, missing, true_false}
use Rattle.model.proofs.Clock.{always_victim, live_is}
use Rattle.model.specs.Calling.{evict}

-- a search looks at no more places than it may
looked_most : (M : ℕ) (l : List ℕ) (f h n : ℕ) (v : Victim) → seek_victim M l f h n ≡ Some v → v.looked ≤ n + f
unfolding seek_victim
looked_most M l zero h n v e = let z : ◌≡◌ {A = ℕ} 0 1 = cc in absurd (omega arith)
looked_most M l (suc f) h n v e =
    bool (λ b. choose b (Some (record { place = h; looked = n + 1 })) (seek_victim M l f (next_hand M h) (n + 1)) ≡ Some v → v.looked ≤ n + suc f)
    (takes (live l h) (is_recent l h) (leb M n))
    (λ t e. let z : record { place = h; looked = n + 1 } ≡ v = cc in omega (arith, ap (λ (v : Victim). v.looked) z))
    (λ t e. omega (arith, looked_most M l f (next_hand M h) (n + 1) v e)) e

module _ (Y : Shape) (m : Mem) (hand : ℕ) where
  abbrev M : ℕ
  M = Y.places

  -- where a place is live there is a victim
  found_victim : {o : Option ℕ} → First (live m.items) (range 0 M) o → there o ≡ true → hand < M → victim M m.items hand ≢ None
  found_victim (missing h) e hm = true_false {b = true} refl (sym e)
  found_victim (found {i = p} q t) e hm = always_victim M m.items hand p hm (omega (arith, in_range 0 M q)) (live_is m.items p t)

  -- what evict answers is no refusal 10, and a victim was looked for at no more than 2M places
  pub record Tidy (o : Outcome) : Type 0 where
    pub not_ten : o.answer ≢ refused 10
    pub within : (x n h : ℕ) → o.answer ≡ evicted x n h → n ≤ 2 * M

  refusal : (n : ℕ) → n ≢ 10 → Tidy (refuse n)
  refusal n ne = record { not_ten = λ e. ne (cc); within = λ x k h e. let z : ◌≡◌ {A = ℕ} 0 1 = cc in absurd (omega arith) }

  tidy_or : (b : Bool) {o o' : Outcome} → Tidy o → Tidy o' → Tidy (choose b o o')
  tidy_or true t t' = t
  tidy_or false t t' = t'

  slot_tidy : (v : Victim) → v.looked ≤ 2 * M → (x : ℕ) (o : Option ℕ) → Tidy (evict_slot Y m hand v x o)
  slot_tidy v l x None = refusal 4 (λ e. absurd (omega arith))
  slot_tidy v l x (Some i) =
      record {
        not_ten = λ e. let z : ◌≡◌ {A = ℕ} 0 1 = cc in absurd (omega arith);
        within = λ y n h e. let f : v.looked ≡ n = cc in omega arith;
      }

  victim_tidy : (o : Option Victim) → ((v : Victim) → o ≡ Some v → v.looked ≤ 2 * M) → o ≢ None → Tidy (evict_at Y m hand o)
  victim_tidy None l ne = absurd (ne refl)
  victim_tidy (Some v) l ne =
      let x = animal m.items v.place in
      tidy_or (busy Y m x) (refusal 8 (λ e. absurd (omega arith)))
      (tidy_or (home_damage Y m x) (refusal 4 (λ e. absurd (omega arith))) (slot_tidy v (l v refl) x (slot_of Y m x v.place)))

  lives : some_live M m.items ≡ true → hand < M → victim M m.items hand ≢ None
  unfolding some_live
  lives a hm = found_victim (first_is (live m.items) (range 0 M)) a hm

  pub evict_tidy : Tidy (call Y m (evict hand))
  evict_tidy =
      bool (λ b. Tidy (choose b (refuse 1) (choose (some_live M m.items) (evict_at Y m hand (victim M m.items hand)) (refuse 7))))
      (leb M hand) (λ e. refusal 1 (λ e. absurd (omega arith)))
      λ e. bool (λ b. Tidy (choose b (evict_at Y m hand (victim M m.items hand)) (refuse 7))) (some_live M m.items)
      (λ a. victim_tidy (victim M m.items hand) (λ v q. omega (arith, looked_most M m.items (2 * M) hand 0 v q)) (lives a (leb-false M hand e)))
      λ a. refusal 7 (λ e. absurd (omega arith))

-- on any lent memory
module _ (W : Ways) (m : Mem) (hand : ℕ) where
  pub never_ten : (lent_call W m (evict hand)).answer ≢ refused 10
  never_ten = go (right_lengths W m)
    where
      go : (b : Bool) → (choose b (call (shape_of W m) m (evict hand)) (refuse 1)).answer ≢ refused 10
      go true = (evict_tidy (shape_of W m) m hand).not_ten
      go false = λ e. let z : ◌≡◌ {A = ℕ} 1 10 = cc in absurd (omega arith)
