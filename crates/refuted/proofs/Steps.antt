-- The tables with wrong steps break wish 7's rule. The demands do not say it: a step's 12 is one of their exceptions, where finished calls
-- lead 1, 8 and 4 are not due, and a step has no cut yet. Assumes nothing.
use Prim.Native.Nat.{ℕ}
use native.Mathlib.Omega.{arith}
use mathlib.Core.Path.{◌≡◌, refl, sym, ap, ◌∙◌}
use mathlib.Core.Logic.{◌≢◌, inl}
use mathlib.Core.Bool.{true}
use mathlib.Core.List.{List, []}
use lib.ListN.{get_or}
use Rattle.model.specs.Memory.{Mem, mem}
use Rattle.model.specs.Shape.{four, shape_of}
use Rattle.model.specs.Calling.{Event, did, grant, set_animal, step_enter, step_move}
use Rattle.model.specs.Answers.{Answer, move_made, paper, refused}
use Rattle.model.specs.Calls.{may_enter, may_move}
use Rattle.model.specs.AnyTable.{Table, Write, leaves, make_all}
use Rattle.model.specs.Late.{ItsTurn}
use Rattle.model.specs.InSteps.{MayEnter, StepRule}
use Rattle.model.specs.Examples.{move_of, nobody, seventeen, three_full}
use Rattle.model.specs.declared.Grant.{Grant}
use Rattle.model.proofs.ListLaws.{true_false}
use Rattle.model.proofs.Demand1.{is_refusal}
use Rattle.refuted.specs.Wrong.{counts_nothing, moves_nothing, never_steps, twelve_first}
use Rattle.refuted.proofs.Refuted.{computing}

-- animal 2 goes into place 0 and slot 12 of a table with nobody in it; and of three full buckets the word in slot 13 goes to slot 8
abbrev newcomer : Grant
newcomer = grant 2 9 100 130

abbrev none_lent : Mem
none_lent = mem [] [] []

abbrev number : Answer → ℕ
number a = (paper a).number

abbrev enters : Event
enters = did (step_enter newcomer 0 12)

abbrev moves : Event
moves = did (step_move seventeen (move_of 13 225 8))

may : MayEnter (shape_of four nobody) nobody 2 0 12
unfolding computing
may = record { away = refl; place_in = omega arith; slot_in = omega arith; vacant = refl; free = refl; home = inl refl }

turn : ItsTurn four nobody newcomer
unfolding computing
turn =
    record {
      lengths = refl;
      real = λ z. absurd (omega arith);
      timely = λ z. absurd (omega arith);
      issued = omega arith;
      calm = refl;
      sound = refl;
    }

-- any table at all that refuses this final store breaks the rule
pub refuses_step : (T : Table) (n : ℕ) → T.answer nobody enters ≡ refused n → StepRule four T → ⊥
refuses_step T n e R = true_false {b = true} refl (ap is_refusal (sym e ∙ (R.enters nobody newcomer 0 12).iff.1 (turn, may)))

-- any table at all whose final store refuses by another number than its set, where no word is lent, breaks it
pub refuses_unlike_set : (T : Table) (k n : ℕ) → k ≢ n → T.answer none_lent enters ≡ refused k
    → T.answer none_lent (did (set_animal newcomer)) ≡ refused n → StepRule four T → ⊥
unfolding computing
refuses_unlike_set T k n u e s R = u (ap number (sym e ∙ (R.enters none_lent newcomer 0 12).before_turn (λ t. true_false t.lengths refl) ∙ s))

-- any table at all that says of this move that it was made, and writes no word, breaks it
pub writes_no_move : (T : Table) → T.answer three_full moves ≡ move_made → T.writes three_full moves ≡ [] → StepRule four T → ⊥
writes_no_move T e w R =
    let same : three_full.slots ≡ _ = sym (ap (λ (ws : List Write). (make_all ws three_full).slots) w) ∙ (R.moves three_full seventeen (move_of 13 225 8)).slots_are e in
    let z : ◌≡◌ {A = ℕ} 0 14745609 = ap (λ (T : List ℕ). get_or T 8 0) same in
    absurd (omega arith)

-- any table at all that says of this move that it was made, and leaves the counters as they were, breaks it
pub counts_no_move : (T : Table) → T.answer three_full moves ≡ move_made → (leaves T three_full moves).counters ≡ three_full.counters → StepRule four T → ⊥
unfolding computing
counts_no_move T e w R =
    let z : ◌≡◌ {A = ℕ} 0 2 = ap (λ (cs : List ℕ). get_or cs 2 0) (sym w ∙ (R.moves three_full seventeen (move_of 13 225 8)).counters_are e) in
    absurd (omega arith)

-- a table that answers 12 to every step
pub never_steps_rule : StepRule four never_steps → ⊥
unfolding computing may_enter
never_steps_rule = refuses_step never_steps 12 refl

-- a table whose 12 comes first
pub twelve_first_rule : StepRule four twelve_first → ⊥
unfolding computing
twelve_first_rule = refuses_unlike_set twelve_first 12 1 (λ z. absurd (omega arith)) refl refl

-- a table whose moves move nothing
pub moves_nothing_rule : StepRule four moves_nothing → ⊥
unfolding computing may_move
moves_nothing_rule = writes_no_move moves_nothing refl refl

-- a table whose moves do not count
pub counts_nothing_rule : StepRule four counts_nothing → ⊥
unfolding computing may_move
counts_nothing_rule = counts_no_move counts_nothing refl refl
