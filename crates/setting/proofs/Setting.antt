-- Set, cut and whole: what was looked up decides, and no set makes more than 23 stores. Assumes nothing.
use Prim.Native.Nat.{ℕ, ◌+◌, ◌*◌, ◌≤◌, ◌/◌}
use native.Mathlib.Omega.{arith}
use mathlib.Core.Path.{◌≡◌, refl, sym, ap, ◌∙◌}
use mathlib.Core.Bool.{Bool}
use Rattle.std.specs.Prelude.{Option, Some, None, Result, Ok, Err}
use mathlib.Core.List.{List, [], ◌∷◌}
use lib.ListN.{length, length-append}
use lib.Dec.{eqb}
use Rattle.model.specs.Memory.{Mem, mem, place, stamp}
use Rattle.model.specs.Shape.{Shape, Ways, pair, right_lengths, shape_of}
use Rattle.model.specs.Stores.{stores}
use Rattle.model.specs.Moves.{Move, moved}
use Rattle.model.specs.Visits.{free_slot, stop_bucket}
use Rattle.model.specs.Answers.{Answer, refused}
use Rattle.model.specs.Calling.{set_animal}
use Rattle.model.specs.Age.{bad_grant, late}
use Rattle.model.specs.Calls.{Outcome, enter_at, enter_block, entered, final_slot, held, move_blocks, moves_found, search_damage, set_at, set_held, stopped, vacant_place, visited}
use Rattle.model.specs.Said.{refusal_number}
use Rattle.model.specs.declared.Refusal.{Refusal}
use Rattle.model.specs.Promised.{CutAs, Does, WholeAs}
use Rattle.model.proofs.Search.{length_climb}
use Rattle.blocks.specs.Made.{all_stores}
use Rattle.blocks.proofs.Budget.{Few, did_all, does_as, does_refuse, few_asked, few_or, few_refuse, stores_append}
use Rattle.looking.specs.Look.{LooksUp, Passed, early}
use Rattle.looking.proofs.Early.{early_outcome}
use Rattle.looking.proofs.Looking.{look_holds, look_lacks, look_refused}
use Rattle.vacancy.specs.Room.{Homed, entering_new}
use Rattle.model.specs.declared.Grant.{Grant}
use Rattle.looking.specs.declared.Looked.{Looked}

module _ (W : Ways) (m : Mem) (g : Grant) where
  abbrev rest : Outcome
  rest = set_at (shape_of W m) m g (held (shape_of W m) m g.animal)

  -- refusals 1, 2 and 3
  pub set_early : {b : Bool} → b ≡ bad_grant g → {e : Result Unit Refusal} → e ≡ early (right_lengths W m) g.animal b → {r : Refusal} → e ≡ Err r
      → {k : ℕ} → CutAs W m (set_animal g) k m (refused (refusal_number r))
  set_early eb e q = does_refuse (early_outcome W m g.animal (bad_grant g) (rw eb at e) q rest)

  module _ (passed : Passed W m g.animal (bad_grant g)) {r : Looked} (l : LooksUp W m g.animal r) where
    pub set_homed : Homed W m g.animal r.homes
    set_homed = record { right = passed.lengths; homes_are = l.homes_are }

    pub set_refused : {e : Refusal} {k : ℕ} → r.hit ≡ Err e → CutAs W m (set_animal g) k m (refused (refusal_number e))
    set_refused q = does_refuse (look_refused W m g.animal (bad_grant g) rest passed l q)

    pub set_new : r.hit ≡ Ok None → {k : ℕ} {m' : Mem} {a : Answer} → Does (entering_new W m g) k m m' a → CutAs W m (set_animal g) k m' a
    set_new q d =
        let s = look_lacks W m g.animal (bad_grant g) rest passed l q in does_as (sym (s.0 ∙ ap (set_at (shape_of W m) m g) s.1)) d

    pub set_at_held : {w : ℕ} → r.hit ≡ Ok (Some w) → {k : ℕ} {c i : List ℕ} {a : Answer}
        → ((s : List ℕ) → Does (set_held m.items r.homes.counter (place w) g) k (mem s m.counters m.items) (mem s c i) a)
        → CutAs W m (set_animal g) k (mem m.slots c i) a
    set_at_held {w} q d =
        let s = look_holds W m g.animal (bad_grant g) rest passed l q in
        does_as (sym (s.0 ∙ ap (set_at (shape_of W m) m g) s.1 ∙ ap (λ c. set_held m.items c (place w) g) (sym l.homes_are.counter_is))) (d m.slots)

-- four stores a move, at most as many moves as the reach, and the seven of the new entry
move_stores : (Y : Shape) (T : List ℕ) (vs : List Move) → length (stores (move_blocks Y T vs)) ≡ 4 * length vs
unfolding stores
move_stores Y T [] = refl
move_stores Y T (v ∷ vs) = omega (arith, move_stores Y (moved T v) vs)

module _ (W : Ways) (m : Mem) (g : Grant) where
  abbrev Y : Shape
  Y = shape_of W m

  few_entered : (p : ℕ) → Few (4 * W.reach + 7) (entered Y m g p)
  unfolding stores
  few_entered p =
      record {
        few = rw (stores_append (move_blocks Y m.slots (moves_found Y m g.animal)) (enter_block Y g p (final_slot Y m g.animal) ∷ []), length-append)
            (omega (
              arith,
              move_stores Y m.slots (moves_found Y m g.animal),
              length_climb Y.layout (visited Y m g.animal) 2 W.reach (stopped Y m g.animal)
                  (free_slot Y.layout m.slots (stop_bucket Y.layout m.slots (pair Y g.animal) W.reach)),
            ));
      }

  few_set_at : (o : Option ℕ) → Few (4 * W.reach + 7) (set_at Y m g o)
  unfolding stores
  few_set_at None = few (vacant_place (length m.items / 4) m.items)
    where
      few : (o : Option ℕ) → Few (4 * W.reach + 7) (enter_at Y m g o)
      few None = few_refuse 5
      few (Some p) =
          few_or (search_damage Y m g.animal) (few_refuse 4)
          (few_or (eqb (stopped Y m g.animal) (length (visited Y m g.animal))) (few_refuse 6) (few_entered p))
  few_set_at (Some p) = few_or (late (stamp m.items p) g) (few_refuse 11) (record { few = omega arith })

  -- behind the last store the cut form is the whole call
  pub set_whole : 4 * W.reach + 7 ≤ all_stores → {m' : Mem} {a : Answer} → CutAs W m (set_animal g) all_stores m' a → WholeAs W m (set_animal g) m' a
  set_whole h d = did_all (few_asked W m g.animal (bad_grant g) (few_set_at (held Y m g.animal))) h d
