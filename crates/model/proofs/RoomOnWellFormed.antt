-- Demand 3 on every well-formed table, told by the call's own answer. Assumes nothing.
use Prim.Native.Nat.{ℕ, ◌+◌, ◌*◌, ◌<◌, ◌≤◌, ◌-◌}
use native.Mathlib.Omega.{arith}
use mathlib.Core.Path.{◌≡◌, refl, sym, ap, ◌∙◌}
use mathlib.Core.Logic.{◌≢◌, ◌↔◌, ⊎_elim}
use mathlib.Core.Bool.{Bool, true, false}
use Rattle.std.specs.Prelude.{Some, None}
use mathlib.Core.List.Memᴰ.{head}
use mathlib.Core.List.Memᴰ.{tail}
use mathlib.Core.List.{List, [], ◌∷◌, ◌++◌}
use lib.ListN.{length, get_or, set}
use lib.Dec.{eqb}
use borrow.Author.Tests.{eq-eqb, ne_eqb, eqb-true}
use Rattle.model.specs.Choice.{choose}
use Rattle.model.specs.Memory.{Mem}
use Rattle.model.specs.Shape.{Shape, counter_of, pair, second_of}
use Rattle.model.specs.Stores.{wholes, whole as whole_block}
use Rattle.model.specs.Moves.{Move, moved_by}
use Rattle.model.specs.Visits.{free_slot}
use Rattle.model.specs.Answers.{Answer, refused, stored}
use Rattle.model.specs.Age.{bad_grant}
use Rattle.model.specs.Calls.{Outcome, after_call, call, enter_at, enter_block, final_slot, held, move_block, entered, moves_found}
use Rattle.model.specs.Calls.{move_blocks, refuse, set_at, stopped, vacant_place, visited}
use Rattle.model.specs.Row.{walk_to}
use Rattle.model.specs.WellFormed.{WellFormed}
use Rattle.model.specs.Demands.{Entered, NoRoom, Opens, Position, Roomy, most_visits, GoodInputs}
use Rattle.model.specs.declared.Grant.{Grant}
use Rattle.model.proofs.ShapeLaws.{Lawful}
use Rattle.model.proofs.Positions.{visits_count}
use Rattle.model.proofs.Search.{room_iff, slot_is, stop_is, stop_le}
use Rattle.model.proofs.ListLaws.{walk_first}
use Rattle.model.proofs.Calm.{past_asked}
use Rattle.model.proofs.Turns.{good_grant}
use Rattle.model.proofs.ReadWalk.{held_walk}
use Rattle.model.proofs.StepSet.{final_home, found_room, no_search_damage}
use Rattle.model.specs.Calling.{Call, set_animal}

module _ (Y : Shape) (L : Lawful Y) (m : Mem) (g : WellFormed Y m) (q : Grant) (good : GoodInputs q)
    (away : walk_to m.items q.animal Y.places 0 ≡ None) (p : ℕ) (vacant : walk_to m.items 0 Y.places 0 ≡ Some p) where
  abbrev x : ℕ
  x = q.animal

  abbrev the_set : Call
  the_set = set_animal q

  abbrev A : Answer
  A = (call Y m the_set).answer

  abbrev at_end : Bool
  at_end = eqb (stopped Y m x) (length (visited Y m x))

  -- set of an absent animal where a place is vacant: the search decides
  searched : call Y m the_set ≡ choose at_end (refuse 6) (entered Y m q p)
  unfolding vacant_place
  searched =
      past_asked Y m x (g.even (counter_of Y x)) g.undamaged good.real (bad_grant q) (good_grant good)
      (set_at Y m q (held Y m x))
      ∙ ap (set_at Y m q) (held_walk Y m g x good.real ∙ away)
      ∙ ap (enter_at Y m q) (sym (walk_first m.items 0 Y.places 0) ∙ vacant)
      ∙ ap (λ b. choose b (refuse 4) (choose at_end (refuse 6) (entered Y m q p))) (no_search_damage Y L m g x)

  stop_iff : (stopped Y m x ≡ length (visited Y m x)) ↔ NoRoom Y m.slots x
  stop_iff =
      let h = room_iff Y.layout m.slots Y.buckets g.slots_long L.other_in (Y.tag_of x) (Y.first_of x) (L.first_in x) Y.reach in
      (λ e ms l o. h.0 e ms l o.0 o.1, λ n. h.1 λ ms l r f. n ms l (r, f))

  six_end : A ≡ refused 6 → stopped Y m x ≡ length (visited Y m x)
  six_end e = go at_end (sym (ap (λ (o : Outcome). o.answer) searched) ∙ e) refl
    where
      go : (b : Bool) → (choose b (refuse 6) (entered Y m q p)).answer ≡ refused 6 → at_end ≡ b → stopped Y m x ≡ length (visited Y m x)
      go true e f = eqb-true (stopped Y m x) (length (visited Y m x)) f
      go false e f = let z : ◌≡◌ {A = ℕ} 0 1 = cc in absurd (omega arith)

  iff : (A ≡ refused 6) ↔ NoRoom Y m.slots x
  iff = (
    λ e. stop_iff.0 (six_end e),
    λ n. ap (λ (o : Outcome). o.answer)
        (searched ∙ ap (λ b. choose b (refuse 6) (entered Y m q p)) (eq-eqb (stopped Y m x) (length (visited Y m x)) (stop_iff.1 n))),
  )

  -- where it doesn't refuse
  room : ¬ (A ≡ refused 6) → (stopped Y m x ≢ length (visited Y m x)) × (call Y m the_set ≡ entered Y m q p)
  room n =
      let ne : stopped Y m x ≢ length (visited Y m x) = λ e. n (iff.1 (stop_iff.0 e)) in
      (ne, searched ∙ ap (λ b. choose b (refuse 6) (entered Y m q p)) (ne_eqb (stopped Y m x) (length (visited Y m x)) ne))

  stored_is : (a b c e : ℕ) → stored a c ≡ stored b e → (a ≡ b) × (c ≡ e)
  stored_is a b c e h = (cc, cc)

  counts : (a n : ℕ) → A ≡ stored a n
      → (stopped Y m x ≢ length (visited Y m x)) × (call Y m the_set ≡ entered Y m q p) × (a ≡ stopped Y m x + 1) × (n ≡ length (moves_found Y m x))
  counts a n e =
      let r = room (λ f. let z : ◌≡◌ {A = ℕ} 0 1 = cc in absurd (omega arith)) in
      let c = stored_is a (stopped Y m x + 1) n (length (moves_found Y m x)) (sym e ∙ ap (λ (o : Outcome). o.answer) r.1) in
      (r.0, r.1, c.0, c.1)

  whole : length (visited Y m x) ≡ most_visits Y m.slots x
  whole = visits_count Y.layout m.slots Y.reach (pair Y x)

  module _ (ne : stopped Y m x ≢ length (visited Y m x)) where
    inside : stopped Y m x < length (visited Y m x)
    inside = omega (arith, stop_le Y.layout m.slots (visited Y m x))

    position : Position Y m.slots x (stopped Y m x + 1)
    position =
        let one = stop_is Y.layout m.slots (visited Y m x) in
        let b = get_or (visited Y m x) (stopped Y m x) 0 in
        let back : stopped Y m x + 1 - 1 ≡ stopped Y m x = omega arith in
        record {
          one = omega arith;
          inside = omega (arith, inside);
          free = rw back (free_slot Y.layout m.slots b, one.free inside, (slot_is Y.layout m.slots b).free (one.free inside));
          before = λ j h. one.before j (omega arith);
        }

    -- the slots after the moves and the new entry
    entered_slots : (i : ℕ) (ms : List Move) (m : Mem)
        → (wholes (move_blocks Y m.slots ms ++ (enter_block Y q p i ∷ [])) m).slots ≡ set (moved_by m.slots ms) i (Y.tag_of x * 65536 + p)
    entered_slots i [] m = refl
    entered_slots i (u ∷ ms) m = entered_slots i ms (whole_block (move_block Y m.slots u) m)

    made : call Y m the_set ≡ entered Y m q p → Entered Y m.slots x (after_call Y m the_set).slots (length (moves_found Y m x))
    made e =
        let r = found_room Y L m g.slots_long x ne in
        record {
          moves = moves_found Y m x;
          count = refl;
          run = r.run;
          slot = final_slot Y m x;
          word = Y.tag_of x * 65536 + p;
          inside = r.inside;
          vacant = r.freed;
          home = final_home Y L m g.slots_long x ne;
          result = ap (λ (o : Outcome). (wholes o.blocks m).slots) e ∙ entered_slots (final_slot Y m x) (moves_found Y m x) m;
        }

    least : (ms : List Move) → Opens Y m.slots x ms → length (moves_found Y m x) ≤ length ms
    least ms o =
        let r = found_room Y L m g.slots_long x ne in
        ⊎_elim (r.fewest ms o.0 (Y.first_of x) (head refl)) (r.fewest ms o.0 (second_of Y x) (tail (head refl))) o.1

  pub roomy : Roomy Y m.slots x A (after_call Y m the_set).slots
  roomy =
      record {
        six = iff;
        else_stores = λ n. let r = room (λ e. n (iff.0 e)) in
            (stopped Y m x + 1, length (moves_found Y m x), ap (λ (o : Outcome). o.answer) r.1);
        made = λ a n e. let c = counts a n e in rw c.3 (made c.0 c.1);
        fewest = λ a n e ms o. let c = counts a n e in rw c.3 (least c.0 ms o);
        looked = λ a n e. let c = counts a n e in rw c.2 (position c.0);
        bounded = λ a n e. let c = counts a n e in omega (arith, c.2, inside c.0, whole);
        whole_list = λ e. (whole, λ j h. (stop_is Y.layout m.slots (visited Y m x)).before j (omega (arith, six_end e, whole)));
      }
