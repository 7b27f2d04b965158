-- The final store: the do, a law a way out, and the call. Assumes nothing.
use Prim.Native.Nat.{ℕ, ◌+◌, ◌*◌, ◌/◌, ◌^◌, ◌<◌, ◌≤◌}
use native.Mathlib.Omega.{arith}
use mathlib.Core.Path.{◌≡◌, refl, sym, ap, ◌∙◌}
use mathlib.Core.Bool.{Bool, true, false, not, ◌&&◌}
use Rattle.std.specs.Prelude.{Some, None, Result, Ok, Err}
use mathlib.Core.List.{List, [], ◌∷◌}
use lib.ListN.{length, get_or}
use borrow.Author.Tests.{le-ltb, lt-ltb, not-false, not-true}
use Rattle.model.specs.Choice.{choose, there}
use Rattle.model.specs.Memory.{Mem, animal, mem, word}
use Rattle.model.specs.Shape.{Shape, Ways, four, right_lengths, shape_of}
use Rattle.model.specs.Stores.{Block, enter, stores, stores_of}
use Rattle.model.specs.Calling.{step_enter}
use Rattle.model.specs.Answers.{Answer, entry_made, refused}
use Rattle.model.specs.Age.{bad_grant}
use Rattle.model.specs.Calls.{Outcome, final_at, held, may_enter, refuse}
use Rattle.model.specs.Said.{refusal_number}
use Rattle.model.specs.declared.Refusal.{Refusal}
use Rattle.model.specs.Promised.{CutAs, Does, WholeAs}
use Rattle.model.proofs.Hash.{size_most}
use Rattle.model.proofs.Lent.{fit}
use Rattle.blocks.specs.Made.{Made, all_stores}
use Rattle.blocks.proofs.Budget.{Few, did_all, does_as, does_one, does_refuse, few_asked, few_or, few_refuse}
use Rattle.looking.specs.Look.{HomesIn, LooksUp, Passed, early}
use Rattle.looking.proofs.Early.{early_outcome, passed_lengths}
use Rattle.looking.proofs.Looking.{look_holds, look_lacks, look_refused}
use Rattle.step_rules.specs.Rules.{enters_by}
use Rattle.stepping.specs.Step.{EnterAsked, entering_at}
use Rattle.model.specs.declared.Grant.{Grant}
use Rattle.hashing.specs.declared.Homes.{Homes}
use Rattle.looking.specs.declared.Looked.{Looked}

module _ (m : Mem) (g : Grant) (h : Homes) (shift p i : ℕ) where
  abbrev entry : Block
  entry = enter h.counter p i (h.tag * 65536 + p) g.animal g.permission g.issued

  abbrev made : Outcome
  made = record { answer = entry_made; blocks = entry ∷ [] }

  -- the place is not there
  pub place_out : {k : ℕ} → length m.items / 4 ≤ p → Does (entering_at (2 ^ shift) m g h p i) k m m (refused 12)
  place_out l = does_refuse (rw (le-ltb p (length m.items / 4) l))

  module _ (inside : p < length m.items / 4) {number w : ℕ} (en : number ≡ get_or m.items (4 * p) 0) (ew : w ≡ word m i)
      {b : Bool} (e : b ≡ enters_by (2 ^ shift) (length m.slots) h.first h.second number w i) where
    decided : {a : Bool} → b ≡ a → entering_at (2 ^ shift) m g h p i ≡ choose a made (refuse 12)
    decided f =
        ap (λ a. choose (a && enters_by (2 ^ shift) (length m.slots) h.first h.second (animal m.items p) (word m i) i) made (refuse 12)) (lt-ltb p (length m.items / 4) inside)
        ∙ ap (λ a. choose a made (refuse 12)) (sym (rw (en, ew) at e) ∙ f)

    pub enter_refused : {k : ℕ} → not b ≡ true → Does (entering_at (2 ^ shift) m g h p i) k m m (refused 12)
    enter_refused n = does_refuse (decided (not-true b n))

    pub enter_made : {k l : ℕ} {m' : Mem} → not b ≡ false → Made (stores_of entry) k m m' l → Does (entering_at (2 ^ shift) m g h p i) k m m' entry_made
    enter_made {l = l} n d = does_one {l = l} entry_made entry (decided (not-false b n)) d

-- the call
module _ (W : Ways) (m : Mem) (g : Grant) (p i : ℕ) where
  abbrev Y : Shape
  Y = shape_of W m

  abbrev rest : Outcome
  rest = final_at Y m g p i

  few_entered : Few 7 rest
  unfolding stores
  few_entered = few_or (may_enter Y m g.animal p i) (record { few = omega arith }) (few_refuse 12)

  whole : {m' : Mem} {a : Answer} → CutAs W m (step_enter g p i) all_stores m' a → WholeAs W m (step_enter g p i) m' a
  whole d = did_all (few_asked W m g.animal (bad_grant g) few_entered) (omega arith) d

  -- the test by an animal's four numbers is the model's
  by_homes : {h : Homes} → HomesIn W m g.animal h → held Y m g.animal ≡ None → entering_at W.ways m g h p i ≡ rest
  unfolding may_enter
  by_homes {h} hs away =
      rw (hs.first_is, hs.second_is, hs.counter_is, hs.tag_is, ap there away) refl

  pub enter_early : {b : Bool} → b ≡ bad_grant g → {e : Result Unit Refusal} → e ≡ early (right_lengths W m) g.animal b → {r : Refusal} → e ≡ Err r
      → WholeAs W m (step_enter g p i) m (refused (refusal_number r))
  enter_early eb e q = whole (does_refuse (early_outcome W m g.animal (bad_grant g) (rw eb at e) q rest))

  module _ (passed : Passed W m g.animal (bad_grant g)) {r : Looked} (l : LooksUp W m g.animal r) where
    pub enter_looked : {e : Refusal} → r.hit ≡ Err e → WholeAs W m (step_enter g p i) m (refused (refusal_number e))
    enter_looked q = whole (does_refuse (look_refused W m g.animal (bad_grant g) rest passed l q))

    pub enter_absent : (shift : ℕ) → W.ways ≡ 2 ^ shift → r.hit ≡ Ok None → {m' : Mem} {a : Answer}
        → Does (entering_at (2 ^ shift) m g r.homes p i) all_stores m m' a → WholeAs W m (step_enter g p i) m' a
    enter_absent shift w q d =
        let s = look_lacks W m g.animal (bad_grant g) rest passed l q in
        whole (does_as (ap (λ n. entering_at n m g r.homes p i) (sym w) ∙ by_homes l.homes_are s.1 ∙ sym s.0) d)

    pub enter_held : {w : ℕ} → r.hit ≡ Ok (Some w) → WholeAs W m (step_enter g p i) m (refused 12)
    unfolding may_enter
    enter_held q = let s = look_holds W m g.animal (bad_grant g) rest passed l q in whole (does_refuse (s.0 ∙ rw (ap there s.1)))

pub enter_asked : (s c i : List ℕ) (x : ℕ) (b : Bool) {e : Result Unit Refusal} → e ≡ early (right_lengths four (mem s c i)) x b → e ≡ Ok tt → {r : Looked} → LooksUp four (mem s c i) x r
    → EnterAsked (mem s c i) r.homes 2
enter_asked s c i x b e z l =
    let f = fit four (mem s c i) (passed_lengths four (mem s c i) x b e z) in
    record {
      short = omega (arith, size_most f.size, f.slots_fit);
      places_few = f.few;
      tag_small = l.homes_are.tag_high;
      narrow = omega arith;
    }
