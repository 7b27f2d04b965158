-- A plan, a move and a final store on a well-formed table: the move's and the entry's block fit, and the row agrees. Assumes nothing.
use Prim.Native.Nat.{ℕ, ◌^◌, ◌<◌}
use native.Mathlib.Omega.{arith}
use mathlib.Core.Path.{◌≡◌, refl, sym, ap, ◌∙◌, subst}
use mathlib.Core.Logic.{◌≢◌}
use mathlib.Core.Bool.{Bool, true, false, not}
use Rattle.std.specs.Prelude.{Option, Some, None}
use mathlib.Core.List.{[], ◌∷◌}
use lib.ListN.{length}
use lib.Dec.{eqb, leb}
use borrow.Author.Tests.{eq-eqb, lt-leb}
use Rattle.model.specs.Choice.{choose, there}
use Rattle.model.specs.Memory.{Mem, animal}
use Rattle.model.specs.Shape.{Shape}
use Rattle.model.specs.Moves.{as_move, records_of}
use Rattle.model.specs.Answers.{entry_made, move_made, planned, refused}
use Rattle.model.specs.Calls.{enter_block, final_at, final_slot, may_enter, may_move, move_at, move_block, moves_found, plan_at, plan_new, refuse, stopped, tell, vacant_place, visited}
use Rattle.model.specs.Row.{Row, fill, row_enter, row_move, row_plan, row_plan_new, stay}
use Rattle.model.specs.WellFormed.{WellFormed}
use Rattle.model.specs.InSteps.{MayEnter}
use Rattle.model.specs.declared.Grant.{Grant}
use Rattle.model.specs.declared.MoveRecord.{MoveRecord}
use Rattle.model.proofs.ShapeLaws.{Lawful}
use Rattle.model.proofs.ListLaws.{bool, found, missing, range_in, true_false, walk_first, walk_is}
use Rattle.model.proofs.KeepBlocks.{Fits, live_in}
use Rattle.model.proofs.ReadWalk.{held_walk}
use Rattle.model.proofs.Cut.{done, last, quiet}
use Rattle.model.proofs.Step.{Held, Step, still, walked}
use Rattle.model.proofs.StepSet.{no_search_damage}
use Rattle.model.proofs.MaySteps.{enter_only, may_legal, move_only}

module _ (Y : Shape) (L : Lawful Y) (m : Mem) (g : WellFormed Y m) where
  -- planning stores nothing, and names the row's lowest vacant place
  plans_new : (x : ℕ) {o : Option ℕ} → Held Y L m g 0 o
      → Step Y (λ a. x) m (plan_new Y m x o) (λ f. stay m.items (row_plan_new Y.places f o))
  plans_new x (missing h) = still Y (λ a. x) m (refused 5) (refused 5) refl
  plans_new x (found {i = p} q t) =
      rw (no_search_damage Y L m g x)
      (bool (λ b. Step Y (λ a. x) m (choose b (refuse 6) (tell (planned (records_of m.slots (moves_found Y m x)) p (final_slot Y m x))))
      (λ f. stay m.items (row_plan_new Y.places f (Some p)))) (eqb (stopped Y m x) (length (visited Y m x)))
      (λ e. record { tale = done; answer = refl; items = refl }) λ e. record { tale = done; answer = refl; items = refl })

  pub step_plan : (x : ℕ) {o : Option ℕ} → Held Y L m g x o
      → Step Y (λ a. x) m (plan_at Y m x o) (λ f. stay m.items (row_plan Y.places f m.items o))
  unfolding vacant_place
  step_plan x (missing h) =
      subst (λ o. Step Y (λ a. x) m (plan_new Y m x o) (λ f. stay m.items (row_plan_new Y.places f (walked Y L m g 0))))
      (walk_first m.items 0 Y.places 0) (plans_new x (walk_is m.items 0 Y.places 0))
  step_plan x (found q t) = still Y (λ a. x) m (refused 12) (refused 12) refl

  -- a move is legal, changes no answer, and leaves the row alone
  pub step_moves : (v : MoveRecord) → Step Y (λ a. 0) m (move_at Y m v) (λ f. stay m.items (row_move Y.places f))
  step_moves v =
      bool (λ b. Step Y (λ a. 0) m (choose b (record { answer = move_made; blocks = move_block Y m.slots (as_move v) ∷ [] }) (refuse 12))
      (λ f. stay m.items (row_move Y.places f))) (may_move Y m.slots v)
      (λ e. let f : Fits Y m (move_block Y m.slots (as_move v)) = (may_legal Y m.slots v (move_only Y m.slots v e), refl, refl) in
      record { tale = quiet f tt done; answer = refl; items = refl })
      λ e. record { tale = done; answer = refl; items = refl }

  -- an absent animal is in no place
  nowhere : (x : ℕ) → x ≢ 0 → walked Y L m g x ≡ None → (q : ℕ) → animal m.items q ≢ x
  nowhere x nz e = go (walk_is m.items x Y.places 0) e
    where
      go : {o : Option ℕ} → Held Y L m g x o → o ≡ None → (q : ℕ) → animal m.items q ≢ x
      go (found t u) e = absurd (true_false {b = true} refl (ap there e))
      go (missing h) e =
          λ q f. true_false (eq-eqb (animal m.items q) x f)
          (h q (range_in 0 Y.places (omega arith) (omega (arith, live_in Y g q (rw f nz)))))

  module _ (q : Grant) (nz : q.animal ≢ 0) (hv : q.permission < 2 ^ 32) (p i : ℕ) where
    abbrev x : ℕ
    x = q.animal

    abbrev row : ℕ → Row
    row f = row_enter Y.places f m.items q p (walked Y L m g x)

    -- where the table refuses, so does the row
    row_refuses : row 12 ≡ stay m.items (refused 12)
    row_refuses = go (walked Y L m g x) (leb Y.places p) (not (eqb (animal m.items p) 0))
      where
        l : Row
        l = stay m.items (refused 12)

        two : (b c : Bool) → choose b l (choose c l l) ≡ l
        two true c = refl
        two false true = refl
        two false false = refl

        go : (o : Option ℕ) (b c : Bool) → row_enter Y.places 12 m.items q p o ≡ l
        go None b c = two (leb Y.places p) (not (eqb (animal m.items p) 0))
        go (Some k) b c = refl

    -- where the final store may be made, the entry fits, and the row fills the place
    filled : MayEnter Y m x p i → row 0 ≡ record { answer = entry_made; words = fill m.items p x q.permission q.issued 1 }
    filled h =
        rw (sym (held_walk Y m g x nz) ∙ h.away, lt-leb Y.places p h.place_in, eq-eqb (animal m.items p) 0 h.vacant)

    made : MayEnter Y m x p i → Step Y (λ a. x) m (record { answer = entry_made; blocks = enter_block Y q p i ∷ [] }) row
    made h =
        let f : Fits Y m (enter_block Y q p i) = record {
          real = nz;
          inside = h.place_in;
          vacant = h.vacant;
          slot = h.slot_in;
          free = h.free;
          home = h.home;
          entry = refl;
          narrow = hv;
          new = nowhere x nz (sym (held_walk Y m g x nz) ∙ h.away);
          count = refl;
        } in
        record {
          tale = last {b = enter_block Y q p i} f refl;
          answer = sym (ap (λ (r : Row). r.answer) (filled h));
          items = sym (ap (λ (r : Row). r.words) (filled h));
        }

    pub step_final : Step Y (λ a. x) m (final_at Y m q p i) row
    step_final =
        bool (λ b. Step Y (λ a. x) m (choose b (record { answer = entry_made; blocks = enter_block Y q p i ∷ [] }) (refuse 12)) row)
        (may_enter Y m x p i) (λ e. made (enter_only Y m x p i e))
        λ e. record {
          tale = done;
          answer = sym (ap (λ (r : Row). r.answer) row_refuses);
          items = sym (ap (λ (r : Row). r.words) row_refuses);
        }
