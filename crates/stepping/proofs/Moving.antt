-- One whole move: the do, a law a way out, and the call. Assumes nothing.
use Prim.Native.Nat.{ℕ, ◌/◌, ◌^◌, ◌<◌}
use native.Mathlib.Omega.{arith}
use mathlib.Core.Path.{◌≡◌, refl, sym, ap, ◌∙◌}
use Rattle.std.specs.Prelude.{Result, Ok, Err}
use mathlib.Core.Bool.{Bool, true, not}
use mathlib.Core.List.{List, [], ◌∷◌}
use lib.ListN.{length, get_or}
use lib.Dec.{ltb}
use borrow.Author.Tests.{ltb-true, not-true}
use Rattle.model.specs.Choice.{choose}
use Rattle.model.specs.Memory.{Mem, mem}
use Rattle.model.specs.Shape.{Ways, four, right_lengths, shape, shape_of}
use Rattle.model.specs.Stores.{stores, stores_of}
use Rattle.model.specs.Moves.{as_move}
use Rattle.model.specs.Calling.{step_move}
use Rattle.model.specs.Answers.{Answer, move_made, refused}
use Rattle.model.specs.Age.{bad_grant}
use Rattle.model.specs.Calls.{may_move, move_at, move_block, refuse}
use Rattle.model.specs.Said.{refusal_number}
use Rattle.model.specs.declared.Refusal.{Refusal}
use Rattle.model.specs.Promised.{CutAs, Does, WholeAs}
use Rattle.model.proofs.Hash.{size_most}
use Rattle.model.proofs.Lent.{and_is, fit}
use Rattle.blocks.specs.Made.{Made, all_stores}
use Rattle.blocks.proofs.Budget.{Few, did_all, does_as, does_one, does_refuse, few_asked, few_or, few_refuse}
use Rattle.looking.specs.Look.{due}
use Rattle.looking.proofs.Due.{due_lengths, is_due, none_is_due}
use Rattle.moves.specs.Moves.{Movable}
use Rattle.step_rules.specs.Rules.{moves_by}
use Rattle.stepping.specs.Step.{MoveAsked}
use Rattle.model.specs.declared.Grant.{Grant}
use Rattle.model.specs.declared.MoveRecord.{MoveRecord}

-- the test by the words of slots s is the model's
module _ (s c : List ℕ) (shift m : ℕ) (v : MoveRecord) {w d : ℕ} (ew : w ≡ get_or s v.from 0) (ed : d ≡ get_or s v.to 0)
    {b : Bool} (e : b ≡ moves_by (2 ^ shift) (length s) (length s / 2 ^ shift) m w d v) where
  tested : (W : Ways) (t : List ℕ) → W.ways ≡ 2 ^ shift → length t / 4 ≡ m → b ≡ may_move (shape_of W (mem s c t)) s v
  unfolding may_move
  tested W t q r = e ∙ rw (ew, ed, ← q, ← r)

  -- what a do that was tested comes to
  decided : (W : Ways) (t : List ℕ) → W.ways ≡ 2 ^ shift → length t / 4 ≡ m → {a : Bool} → b ≡ a
      → move_at (shape_of W (mem s c t)) (mem s c t) v
      ≡ choose a (record { answer = move_made; blocks = move_block (shape_of W (mem s c t)) s (as_move v) ∷ [] }) (refuse 12)
  decided W t q r f =
      ap (λ a. choose a (record { answer = move_made; blocks = move_block (shape_of W (mem s c t)) s (as_move v) ∷ [] }) (refuse 12)) (sym (tested W t q r) ∙ f)

  pub move_refused : {k : ℕ} → not b ≡ true → (W : Ways) (t : List ℕ) → W.ways ≡ 2 ^ shift → length t / 4 ≡ m
      → Does (move_at (shape_of W (mem s c t)) (mem s c t) v) k (mem s c t) (mem s c t) (refused 12)
  move_refused n W t q r = does_refuse (decided W t q r (not-true b n))

  module _ (n : b ≡ true) where
    pub movable : MoveAsked s c shift → Movable (length s / 2 ^ shift) (length c) shift v.from
    movable a =
        let f = ltb-true v.from (length s) (and_is (ltb v.from (length s)) _ (sym e ∙ n)).0 in
        record { size = a.size; some = a.some; few = a.few; narrow = a.narrow; inside = omega (arith, a.short) }

    pub move_done : {k l : ℕ} {s' c' : List ℕ}
        → ((W : Ways) (p : ℕ) (t : List ℕ) → W.ways ≡ 2 ^ shift
        → Made (stores_of (move_block (shape W (length s / 2 ^ shift) (length c) p) s (as_move v))) k (mem s c t) (mem s' c' t) l)
        → (W : Ways) (t : List ℕ) → W.ways ≡ 2 ^ shift → length t / 4 ≡ m
        → Does (move_at (shape_of W (mem s c t)) (mem s c t) v) k (mem s c t) (mem s' c' t) move_made
    move_done {k} {l} {s'} {c'} d W t q r =
        does_one {l = l} move_made (move_block (shape_of W (mem s c t)) s (as_move v)) (decided W t q r n)
        (rw (← q) at (d W (length t / 4) t q))

-- the call: what it lends to the do
module _ (s c i : List ℕ) (x : ℕ) (b : Bool) {e : Result Unit Refusal} (ed : e ≡ due four (mem s c i) x b) (z : e ≡ Ok tt) where
  right : right_lengths four (mem s c i) ≡ true
  right = due_lengths four (mem s c i) x b refl ed z

  pub places_small : length i / 4 < 2 ^ 32
  places_small = omega (arith, (fit four (mem s c i) right).few)

  pub move_asked : MoveAsked s c 2
  move_asked =
      let f = fit four (mem s c i) right in
      record {
        size = f.size;
        short = omega (arith, size_most f.size, f.slots_fit);
        some = f.some;
        few = f.few_counters;
        narrow = omega arith;
      }

module _ (W : Ways) (m : Mem) (g : Grant) (v : MoveRecord) where
  few_moved : Few 7 (move_at (shape_of W m) m v)
  unfolding stores
  few_moved = few_or (may_move (shape_of W m) m.slots v) (record { few = omega arith }) (few_refuse 12)

  whole : {m' : Mem} {a : Answer} → CutAs W m (step_move g v) all_stores m' a → WholeAs W m (step_move g v) m' a
  whole d = did_all (few_asked W m g.animal (bad_grant g) few_moved) (omega arith) d

  pub step_refused : {b : Bool} → b ≡ bad_grant g → {e : Result Unit Refusal} → e ≡ due W m g.animal b → {r : Refusal} → e ≡ Err r
      → WholeAs W m (step_move g v) m (refused (refusal_number r))
  step_refused eb ed q = whole (does_refuse (is_due W m g.animal (bad_grant g) eb ed q (move_at (shape_of W m) m v)))

pub step_moved : (s c i : List ℕ) (g : Grant) (v : MoveRecord) {b : Bool} → b ≡ bad_grant g → {e : Result Unit Refusal} → e ≡ due four (mem s c i) g.animal b → e ≡ Ok tt
    → {s' c' : List ℕ} {a : Answer}
    → ((W : Ways) (t : List ℕ) → W.ways ≡ 2 ^ 2 → length t / 4 ≡ length i / 4
    → Does (move_at (shape_of W (mem s c t)) (mem s c t) v) all_stores (mem s c t) (mem s' c' t) a)
    → WholeAs four (mem s c i) (step_move g v) (mem s' c' i) a
step_moved s c i g v eb e z d =
    whole four (mem s c i) g v (does_as (sym (none_is_due four (mem s c i) g.animal (bad_grant g) eb e z (move_at (shape_of four (mem s c i)) (mem s c i) v))) (d four i refl refl))
