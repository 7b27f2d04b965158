-- The plain engine says what read says, on every well-formed memory and so on every memory made by finished calls from fresh. Assumes nothing.
use Prim.Native.Nat.{ℕ, ◌/◌}
use mathlib.Core.Path.{◌≡◌, refl, sym, ap, ◌∙◌}
use mathlib.Core.Bool.{Bool, true, false, ◌&&◌}
use lib.ListN.{length}
use lib.Dec.{eqb}
use Rattle.model.specs.Choice.{choose}
use Rattle.model.specs.Memory.{Mem}
use Rattle.model.specs.Shape.{Ways, eight, four, good_counters, good_items, good_lengths, good_slots, right_lengths, shape_of}
use Rattle.model.specs.Answers.{Answer, refused}
use Rattle.model.specs.Age.{bad_time, judge}
use Rattle.model.specs.Calling.{read}
use Rattle.model.specs.Calls.{reading, refuse, tell}
use Rattle.model.specs.Row.{walk_to}
use Rattle.model.specs.WellFormed.{WellFormed}
use Rattle.model.specs.Demands.{reads, table}
use Rattle.model.specs.Ours.{gate, ours}
use Rattle.model.proofs.Lent.{and_is, well_alike}
use Rattle.model.proofs.ReadWalk.{read_walk}
use Rattle.model.proofs.OnWellFormed.{answer_is, still_right}
use Rattle.model.proofs.Demands.{well_story}
use Rattle.plain.specs.Plain.{plain_read}
use Rattle.plain.specs.Owed.{AgreesOn, PlainAgrees}
use Rattle.plain.proofs.Says.{by_tests}

-- where all three lengths are good, that of the items is
pub items_good : (W : Ways) (m : Mem) → right_lengths W m ≡ true → good_items (length m.items) ≡ true
unfolding good_lengths
items_good W m e =
    let s = length m.slots in
    let v = length m.counters in
    let i = length m.items in
    (and_is (good_counters v) (good_items i) (and_is (good_slots W s) (good_counters v && good_items i) e).1).1

-- the refusals 2 and 3 come alike
turns : (z b : Bool) (a : Answer) → choose z (refused 2) (choose b (refused 3) a) ≡ (choose z (refuse 2) (choose b (refuse 3) (tell a))).answer
turns true b a = refl
turns false true a = refl
turns false false a = refl

module _ (W : Ways) (m₀ : Mem) (right : right_lengths W m₀ ≡ true) (m : Mem) (w : WellFormed (shape_of W m₀) m) (x limit now : ℕ) where
  -- m₀ tells the lengths: a memory made by calls has those that fresh was given
  same : plain_read m.items x limit now ≡ reads W (ours W) m x limit now
  unfolding reading
  same =
      by_tests m.items x limit now (items_good W m (still_right W m₀ right m w)) refl refl
      ∙ turns (eqb x 0) (bad_time limit now) (judge m.items limit now (walk_to m.items x (length m.items / 4) 0))
      ∙ ap (λ n. (choose (eqb x 0) (refuse 2) (choose (bad_time limit now) (refuse 3) (tell (judge m.items limit now (walk_to m.items x (n / 4) 0))))).answer)
      (well_alike W m₀ right w).items_same
      ∙ sym (answer_is W m₀ right m w (read x limit now) ∙ read_walk (shape_of W m₀) m w x limit now)

-- on every well-formed memory
pub plain_agrees_on : (W : Ways) (m : Mem) → AgreesOn W m
plain_agrees_on W m right w x limit now = same W m right m w x limit now

-- on every memory made by finished calls from fresh
pub plain_agrees : (W : Ways) → PlainAgrees W (ours W)
plain_agrees W s x limit now = same W s.memory s.right (table W (ours W) s) (well_story W s) x limit now

-- the gate's table, and wish 13's
pub gate_plain : PlainAgrees four gate
gate_plain = plain_agrees four

pub eight_plain : PlainAgrees eight (ours eight)
eight_plain = plain_agrees eight
