-- Wish 7, on any memory: when a move and the final store are made, and what a plan is beside a set. Assumes nothing.
use Prim.Native.Nat.{ℕ, ◌+◌}
use native.Mathlib.Omega.{arith}
use mathlib.Core.Path.{◌≡◌, refl, sym, ap, ◌∙◌, subst}
use mathlib.Core.Logic.{◌≢◌, ◌↔◌, ⊎_elim}
use mathlib.Core.Bool.{Bool, true, false}
use Rattle.std.specs.Prelude.{Option, Some, None}
use mathlib.Core.List.{List, [], ◌∷◌}
use lib.ListN.{length}
use lib.Dec.{eqb}
use borrow.Author.Tests.{eqb-false, ne_eqb}
use Rattle.model.specs.Choice.{choose}
use Rattle.model.specs.Memory.{Mem}
use Rattle.model.specs.Shape.{Shape, Ways, right_lengths, shape_of}
use Rattle.model.specs.Stores.{stores, wholes}
use Rattle.model.specs.Moves.{as_move, as_moves, records_of}
use Rattle.model.specs.Calling.{plan_set, set_animal, step_enter, step_move}
use Rattle.model.specs.Answers.{Answer, entry_made, move_made, planned, refused, stored}
use Rattle.model.specs.Age.{bad_grant}
use Rattle.model.specs.Calls.{Outcome, asked, busy, enter_at, enter_block, entered, final_at, final_slot, held, home_damage, may_enter, may_move, move_at, move_block, moves_found, plan_at, plan_new, refuse, search_damage, set_at, stopped, tell, vacant_place, visited}
use Rattle.model.specs.Lent.{lent_call}
use Rattle.model.specs.Late.{ItsTurn}
use Rattle.model.specs.Ours.{ours, traced}
use Rattle.model.specs.InSteps.{EnterMadeIff, MayEnter, MayMove, MoveMadeIff, PlanIsSets, PlanQuiet, SetsOwn, StepRule, plan_answer}
use Rattle.model.specs.declared.Grant.{Grant}
use Rattle.model.specs.declared.MoveRecord.{MoveRecord}
use Rattle.model.proofs.ListLaws.{bool, true_false}
use Rattle.model.proofs.Turns.{before_turn, in_its_turn, in_turn, sorted, turned}
use Rattle.model.proofs.Records.{length_records, moves_back}
use Rattle.model.proofs.Demand1.{is_refusal}
use Rattle.model.proofs.Linked.{leaves_lent}
use Rattle.model.proofs.MaySteps.{enter_if, enter_only, move_if, move_only}

-- a refusal is no other answer
differs : {A : Type 0} {a : Answer} → is_refusal a ≡ false → (k : ℕ) → refused k ≡ a → A
differs n k e = true_false (sym (ap is_refusal e)) n

-- a step whose test b decides between `made`, which answers a, and 12; P is what the test says
module _ (W : Ways) (m : Mem) (g : Grant) (b : Bool) (a : Answer) (made : Outcome) (told : made.answer ≡ a) (no_refusal : is_refusal a ≡ false)
    (P : Type 0) (yes : P → b ≡ true) (only : b ≡ true → P) where
  abbrev rest : Outcome
  rest = choose b made (refuse 12)

  step_made : ItsTurn W m g → P → in_its_turn W m g rest ≡ made
  step_made t p = in_turn W m g rest t ∙ ap (λ b. choose b made (refuse 12)) (yes p)

  step_iff : ((in_its_turn W m g rest).answer ≡ a) ↔ (ItsTurn W m g × P)
  step_iff = (
    λ e. let t = turned W m g rest (λ k h f. differs no_refusal k (sym f ∙ e)) in
        (t.0, only (passed (sym (ap (λ (o : Outcome). o.answer) t.1) ∙ e))),
    λ (t, p). ap (λ (o : Outcome). o.answer) (step_made t p) ∙ told,
  )
    where
      passed : rest.answer ≡ a → b ≡ true
      passed e = bool (λ c. (choose c made (refuse 12)).answer ≡ a → c ≡ true) b (λ z f. refl) (λ z f. differs no_refusal 12 f) e

  step_else : ItsTurn W m g → ¬ P → (in_its_turn W m g rest).answer ≡ refused 12
  step_else t n =
      ap (λ (o : Outcome). o.answer) (in_turn W m g rest t)
      ∙ bool (λ c. b ≡ c → (choose c made (refuse 12)).answer ≡ refused 12) b (λ z e. absurd (n (only e))) (λ z e. refl) refl

  -- what is made where it answers so
  step_blocks : (in_its_turn W m g rest).answer ≡ a → in_its_turn W m g rest ≡ made
  step_blocks e = let h = step_iff.0 e in step_made h.0 h.1

module _ (W : Ways) (m : Mem) (g : Grant) where
  abbrev Y : Shape
  Y = shape_of W m

  abbrev x : ℕ
  x = g.animal

  -- before its turn a call with set's inputs answers as set does
  as_set : (rest : Outcome) → ¬ ItsTurn W m g → (in_its_turn W m g rest).answer ≡ (lent_call W m (set_animal g)).answer
  as_set rest n = ap (λ (o : Outcome). o.answer) (before_turn W m g n rest (set_at Y m g (held Y m x)))

  module _ (v : MoveRecord) where
    abbrev moving : Outcome
    moving = record { answer = move_made; blocks = move_block Y m.slots (as_move v) ∷ [] }

    -- in every outcome of it the items stay
    stays : (wholes (lent_call W m (step_move g v)).blocks m).items ≡ m.items
    stays =
        ⊎_elim (λ (k, h, e). ap (λ (o : Outcome). (wholes o.blocks m).items) e)
        (λ (t, e). ap (λ (o : Outcome). (wholes o.blocks m).items) e
        ∙ bool (λ b. (wholes (choose b moving (refuse 12)).blocks m).items ≡ m.items) (may_move Y m.slots v) (λ z. refl) λ z. refl)
        (sorted W m g (move_at Y m v))

    pub move_made_iff : MoveMadeIff W (ours W) m g v
    move_made_iff =
        let b = may_move Y m.slots v in
        let yes = move_if Y m.slots v in
        let only = move_only Y m.slots v in
        record {
          before_turn = as_set (move_at Y m v);
          iff = step_iff W m g b move_made moving refl refl (MayMove Y m.slots v) yes only;
          else_twelve = step_else W m g b move_made moving refl refl (MayMove Y m.slots v) yes only;
          slots_are = λ e. ap (λ (m : Mem). m.slots) (leaves_lent W m (step_move g v))
              ∙ ap (λ (o : Outcome). (wholes o.blocks m).slots) (step_blocks W m g b move_made moving refl refl (MayMove Y m.slots v) yes only e);
          counters_are = λ e. ap (λ (m : Mem). m.counters) (leaves_lent W m (step_move g v))
              ∙ ap (λ (o : Outcome). (wholes o.blocks m).counters) (step_blocks W m g b move_made moving refl refl (MayMove Y m.slots v) yes only e);
          items_are = ap (λ (m : Mem). m.items) (leaves_lent W m (step_move g v)) ∙ stays;
        }

  module _ (p i : ℕ) where
    abbrev entering : Outcome
    entering = record { answer = entry_made; blocks = enter_block Y g p i ∷ [] }

    pub enter_made_iff : EnterMadeIff W (ours W) m g p i
    enter_made_iff =
        let b = may_enter Y m x p i in
        let yes = enter_if Y m x p i in
        let only = enter_only Y m x p i in
        record {
          before_turn = as_set (final_at Y m g p i);
          iff = step_iff W m g b entry_made entering refl refl (MayEnter Y m x p i) yes only;
          else_twelve = step_else W m g b entry_made entering refl refl (MayEnter Y m x p i) yes only;
          slots_are = λ e. ap (λ (m : Mem). m.slots) (leaves_lent W m (step_enter g p i))
              ∙ ap (λ (o : Outcome). (wholes o.blocks m).slots) (step_blocks W m g b entry_made entering refl refl (MayEnter Y m x p i) yes only e);
          counters_are = λ e. ap (λ (m : Mem). m.counters) (leaves_lent W m (step_enter g p i))
              ∙ ap (λ (o : Outcome). (wholes o.blocks m).counters) (step_blocks W m g b entry_made entering refl refl (MayEnter Y m x p i) yes only e);
          items_are = λ e. ap (λ (m : Mem). m.items) (leaves_lent W m (step_enter g p i))
              ∙ ap (λ (o : Outcome). (wholes o.blocks m).items) (step_blocks W m g b entry_made entering refl refl (MayEnter Y m x p i) yes only e);
        }

pub step_rule : (W : Ways) → StepRule W (ours W)
step_rule W = record { moves = move_made_iff W; enters = enter_made_iff W }

-- two outcomes that refuse alike
abbrev Alike : Outcome → Outcome → Type 0
Alike o o' = (n : ℕ) → (o.answer ≡ refused n) ↔ (o'.answer ≡ refused n)

both_alike : (b : Bool) (r o o' : Outcome) → Alike o o' → Alike (choose b r o) (choose b r o')
both_alike true r o o' h n = (λ e. e, λ e. e)
both_alike false r o o' h n = h n

module _ (W : Ways) (m : Mem) (g : Grant) where
  abbrev Z : Shape
  Z = shape_of W m

  abbrev y : ℕ
  y = g.animal

  abbrev at_end : Bool
  at_end = eqb (stopped Z m y) (length (visited Z m y))

  abbrev plan_rest : Outcome
  plan_rest = plan_at Z m y (held Z m y)

  abbrev set_rest : Outcome
  set_rest = set_at Z m g (held Z m y)

  abbrev found_plan : ℕ → Outcome
  found_plan p = tell (planned (records_of m.slots (moves_found Z m y)) p (final_slot Z m y))

  -- what a plan was made of
  pub record AsFound (vs : List MoveRecord) (p i : ℕ) : Type 0 where
    pub turn : ItsTurn W m g
    pub away : held Z m y ≡ None
    pub place_is : vacant_place Z.places m.items ≡ Some p
    pub undamaged : search_damage Z m y ≡ false
    pub room : stopped Z m y ≢ length (visited Z m y)
    pub moves_are : vs ≡ records_of m.slots (moves_found Z m y)
    pub slot_is : i ≡ final_slot Z m y

  -- a plan or a stored set of an animal that is not held: a vacant place, no damage on the way, and room
  module _ (t : ItsTurn W m g) (away : held Z m y ≡ None) (p : ℕ) (vacant : vacant_place Z.places m.items ≡ Some p)
      (undamaged : search_damage Z m y ≡ false) (room : at_end ≡ false) where
    plan_there : lent_call W m (plan_set g) ≡ found_plan p
    plan_there =
        in_turn W m g plan_rest t ∙ ap (plan_at Z m y) away ∙ ap (plan_new Z m y) vacant
        ∙ ap (λ b. choose b (refuse 4) (choose at_end (refuse 6) (found_plan p))) undamaged ∙ ap (λ b. choose b (refuse 6) (found_plan p)) room

    set_there : lent_call W m (set_animal g) ≡ entered Z m g p
    set_there =
        in_turn W m g set_rest t ∙ ap (set_at Z m g) away ∙ ap (enter_at Z m g) vacant
        ∙ ap (λ b. choose b (refuse 4) (choose at_end (refuse 6) (entered Z m g p))) undamaged ∙ ap (λ b. choose b (refuse 6) (entered Z m g p)) room

  -- plan_new and enter-at alike: 5 for no vacant place, 4, 6, and then `last`. Where that is no refusal, these hold
  module _ (a : Answer) (last : ℕ → Outcome) (no_refusal : is_refusal a ≡ false) (at_place : Option ℕ → Outcome)
      (five : at_place None ≡ refuse 5)
      (search : (p : ℕ) → at_place (Some p) ≡ choose (search_damage Z m y) (refuse 4) (choose at_end (refuse 6) (last p))) where
    record Reached : Type 0 where
      at : ℕ
      vacant : vacant_place Z.places m.items ≡ Some at
      undamaged : search_damage Z m y ≡ false
      room : at_end ≡ false
      told : (last at).answer ≡ a

    reached : (at_place (vacant_place Z.places m.items)).answer ≡ a → Reached
    reached e = by_place (vacant_place Z.places m.items) refl e
      where
        by_tests : (p : ℕ) → vacant_place Z.places m.items ≡ Some p → (b c : Bool) → search_damage Z m y ≡ b → at_end ≡ c
            → (choose b (refuse 4) (choose c (refuse 6) (last p))).answer ≡ a → Reached
        by_tests p f true c d r e = differs no_refusal 4 e
        by_tests p f false true d r e = differs no_refusal 6 e
        by_tests p f false false d r e = record { at = p; vacant = f; undamaged = d; room = r; told = e }

        by_place : (o : Option ℕ) → vacant_place Z.places m.items ≡ o → (at_place o).answer ≡ a → Reached
        by_place None f e = differs no_refusal 5 (sym (ap (λ (o : Outcome). o.answer) five) ∙ e)
        by_place (Some p) f e = by_tests p f (search_damage Z m y) at_end refl refl (sym (ap (λ (o : Outcome). o.answer) (search p)) ∙ e)

  -- a plan of a held animal is 12
  held_refused : (o : Option ℕ) → (plan_at Z m y o).answer ≡ refused 12 → (p : ℕ) × (o ≡ Some p)
  held_refused None e = other (vacant_place Z.places m.items) e
    where
      by_tests : (p : ℕ) (b c : Bool) → (choose b (refuse 4) (choose c (refuse 6) (found_plan p))).answer ≡ refused 12 → ⊥
      by_tests p true c e = let z : ◌≡◌ {A = ℕ} 4 12 = cc in absurd (omega arith)
      by_tests p false true e = let z : ◌≡◌ {A = ℕ} 6 12 = cc in absurd (omega arith)
      by_tests p false false e = differs refl 12 (sym e)

      other : {A : Type 0} (o : Option ℕ) → (plan_new Z m y o).answer ≡ refused 12 → A
      other None e = let z : ◌≡◌ {A = ℕ} 5 12 = cc in absurd (omega arith)
      other (Some p) e = absurd (by_tests p (search_damage Z m y) at_end e)
  held_refused (Some p) e = (p, refl)

  pub as_found : (vs : List MoveRecord) (p i : ℕ) → plan_answer W m g ≡ planned vs p i → AsFound vs p i
  as_found vs p i e =
      let t = turned W m g plan_rest (λ k h f. differs refl k (sym f ∙ e)) in
      by_held t.0 (held Z m y) refl (sym (ap (λ (o : Outcome). o.answer) t.1) ∙ e)
    where
      by_held : ItsTurn W m g → (o : Option ℕ) → held Z m y ≡ o → (plan_at Z m y o).answer ≡ planned vs p i → AsFound vs p i
      by_held t (Some q) h f = differs refl 12 f
      by_held t None h f =
          let r = reached (planned vs p i) found_plan refl (plan_new Z m y) refl (λ q. refl) f in
          let said : planned (records_of m.slots (moves_found Z m y)) r.at (final_slot Z m y) ≡ planned vs p i = r.told in
          let q : r.at ≡ p = cc in
          record {
            turn = t;
            away = h;
            place_is = r.vacant ∙ ap Some q;
            undamaged = r.undamaged;
            room = eqb-false (stopped Z m y) (length (visited Z m y)) r.room;
            moves_are = cc;
            slot_is = cc;
          }

  -- a set at that moment makes the plan's moves and its entry
  pub sets_own : (vs : List MoveRecord) (p i : ℕ) → AsFound vs p i → SetsOwn W m g vs p i
  sets_own vs p i f =
      let s = set_there f.turn f.away p f.place_is f.undamaged (ne_eqb (stopped Z m y) (length (visited Z m y)) f.room) in
      let same : as_moves vs ≡ moves_found Z m y = ap as_moves f.moves_are ∙ moves_back m.slots (moves_found Z m y) in
      let count : length (moves_found Z m y) ≡ length vs = sym (length_records m.slots (moves_found Z m y)) ∙ ap length (sym f.moves_are) in
      record {
        away = f.away;
        visits = stopped Z m y + 1;
        told = ap (λ (o : Outcome). o.answer) s ∙ ap (stored (stopped Z m y + 1)) count;
        blocks_are = ap (λ (o : Outcome). o.blocks) s
            ∙ rw (same, f.slot_is);
        tags_are = f.moves_are ∙ ap (records_of m.slots) (sym same);
      }

  pub plan_is_sets : PlanIsSets W m g
  plan_is_sets =
      record {
        before_turn = as_set W m g plan_rest;
        twelve = (
          λ e. let t = turned W m g plan_rest (λ k h f. let z : 12 ≡ k = cc in absurd (omega arith)) in
              (t.0, held_refused (held Z m y) (sym (ap (λ (o : Outcome). o.answer) t.1) ∙ e)),
          λ (t, (p, h)). ap (λ (o : Outcome). o.answer) (in_turn W m g plan_rest t ∙ ap (plan_at Z m y) h),
        );
        refuses = λ away. both_lent (plan_rest) (set_rest)
            (subst (λ o. Alike (plan_at Z m y o) (set_at Z m g o)) (sym away) (new_alike (vacant_place Z.places m.items)));
        stores = λ away v n e.
            let t = turned W m g set_rest (λ k h f. differs refl k (sym f ∙ e)) in
            let r = reached (stored v n) (entered Z m g) refl (enter_at Z m g) refl (λ q. refl) (sym (ap (λ (o : Outcome). o.answer) (t.1 ∙ ap (set_at Z m g) away)) ∙ e) in (
              records_of m.slots (moves_found Z m y),
              r.at,
              final_slot Z m y,
              ap (λ (o : Outcome). o.answer) (plan_there t.0 away r.at r.vacant r.undamaged r.room),
            );
        plans = λ vs p i e. sets_own vs p i (as_found vs p i e);
      }
    where
      new_alike : (o : Option ℕ) → Alike (plan_new Z m y o) (enter_at Z m g o)
      new_alike None = λ n. (λ e. e, λ e. e)
      new_alike (Some p) =
          both_alike (search_damage Z m y) (refuse 4) (choose at_end (refuse 6) (found_plan p)) (choose at_end (refuse 6) (entered Z m g p))
          (both_alike at_end (refuse 6) (found_plan p) (entered Z m g p) λ n. (λ e. differs refl n (sym e), λ e. differs refl n (sym e)))

      both_lent : (o o' : Outcome) → Alike o o' → Alike (in_its_turn W m g o) (in_its_turn W m g o')
      both_lent o o' h =
          bool (λ b. Alike (choose b (asked Z m y (bad_grant g) o) (refuse 1)) (choose b (asked Z m y (bad_grant g) o') (refuse 1))) (right_lengths W m)
          (λ z. both_alike (eqb y 0) (refuse 2) _ _ (both_alike (bad_grant g) (refuse 3) _ _
          (both_alike (busy Z m y) (refuse 8) _ _ (both_alike (home_damage Z m y) (refuse 4) o o' h))))
          λ z n. (λ e. e, λ e. e)

  -- planning makes no store
  quiet_plan : (lent_call W m (plan_set g)).blocks ≡ []
  quiet_plan =
      ⊎_elim (λ (k, h, e). ap (λ (o : Outcome). o.blocks) e) (λ (t, e). ap (λ (o : Outcome). o.blocks) e ∙ by_held (held Z m y)) (sorted W m g plan_rest)
    where
      by_place : (o : Option ℕ) → (plan_new Z m y o).blocks ≡ []
      by_place None = refl
      by_place (Some p) =
          bool (λ b. (choose b (refuse 4) (choose at_end (refuse 6) (found_plan p))).blocks ≡ []) (search_damage Z m y) (λ z. refl)
          λ z. bool (λ b. (choose b (refuse 6) (found_plan p)).blocks ≡ []) at_end (λ z. refl) λ z. refl

      by_held : (o : Option ℕ) → (plan_at Z m y o).blocks ≡ []
      by_held None = by_place (vacant_place Z.places m.items)
      by_held (Some p) = refl

pub plan_quiet : (W : Ways) → PlanQuiet (ours W)
unfolding stores
plan_quiet W m g = ap (λ bs. traced m (stores bs)) (quiet_plan W m g)
