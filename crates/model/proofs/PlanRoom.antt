-- Wish 7, after every run of finished calls from fresh: a plan has the fewest moves at its moment, and a finished call, a step among them,
-- keeps the answer of every animal that it is not about. Assumes nothing.
use Prim.Native.Nat.{ℕ, ◌≤◌}
use native.Mathlib.Omega.{arith}
use mathlib.Core.Path.{◌≡◌, sym, ap, ◌∙◌, subst}
use mathlib.Core.Logic.{◌≢◌, ⊎_elim}
use mathlib.Core.Bool.{Bool, true, false}
use Rattle.std.specs.Prelude.{None}
use mathlib.Core.List.{List}
use lib.ListN.{length}
use lib.Seq.{take_all}
use lib.Dec.{eqb}
use Rattle.model.specs.Choice.{choose}
use Rattle.model.specs.Memory.{Mem}
use Rattle.model.specs.Shape.{Home, Shape, Ways, bucket, pair, shape_of}
use Rattle.model.specs.Moves.{Run, as_moves}
use Rattle.model.specs.Visits.{free_slot, stop_bucket}
use Rattle.model.specs.Calling.{about, did, plan_set}
use Rattle.model.specs.Answers.{Answer, planned, refused}
use Rattle.model.specs.Age.{bad_time, judge}
use Rattle.model.specs.Calls.{held, moves_found, reading, refuse, stopped, tell, visited}
use Rattle.model.specs.Row.{walk_to}
use Rattle.model.specs.AnyTable.{Table, Write, cut_at, leaves, make_all}
use Rattle.model.specs.Demands.{GoodInputs, Story, SeenBy, reads, shape_in, table}
use Rattle.model.specs.Ours.{ours}
use Rattle.model.specs.WellFormed.{WellFormed}
use Rattle.model.specs.InSteps.{OthersKept, PlanRoom}
use Rattle.model.specs.declared.Grant.{Grant}
use Rattle.model.specs.declared.MoveRecord.{MoveRecord}
use Rattle.model.proofs.ListLaws.{true_false}
use Rattle.model.proofs.Lent.{alike_reading, alike_shape, well_alike}
use Rattle.model.proofs.Records.{length_records}
use Rattle.model.proofs.Search.{length_climb}
use Rattle.model.proofs.ReadWalk.{held_walk, read_walk}
use Rattle.model.proofs.Demand1.{is_refusal, judged}
use Rattle.model.proofs.OnWellFormed.{seen_on, well_on}
use Rattle.model.proofs.Demands.{our_room, same_story, well_story}
use Rattle.model.proofs.InSteps.{as_found, plan_is_sets}
use Rattle.model.proofs.CarriedOut.{plan_final, plan_moves, plan_shortest}

module _ (W : Ways) (s : Story W) where
  abbrev O : Table
  O = ours W

  abbrev m : Mem
  m = table W O s

  abbrev Z : Shape
  Z = shape_in W s

  -- the lengths are still those that fresh was given
  same : shape_of W m ≡ Z
  same = alike_shape W s.memory s.right (well_alike W s.memory s.right (well_story W s))

  module _ (g : Grant) (good : GoodInputs g) (away : walk_to m.items g.animal Z.places 0 ≡ None) where
    absent : held (shape_of W m) m g.animal ≡ None
    absent = subst (λ Y. held Y m g.animal ≡ None) (sym same) (held_walk Z m (well_story W s) g.animal good.real ∙ away)

  module _ (g : Grant) (vs : List MoveRecord) (p i : ℕ) (e : O.answer m (did (plan_set g)) ≡ planned vs p i) where
    run_is : Run Z.layout m.slots (as_moves vs)
    run_is =
        let f = as_found W m g vs p i e in
        subst (λ (Y : Shape). Run Y.layout m.slots (as_moves vs)) same (rw (plan_moves W m g vs p i f) (plan_shortest W m g vs p i f).run)

    few_are : length vs ≤ W.reach
    few_are =
        let f = as_found W m g vs p i e in
        let Y = shape_of W m in
        rw (f.moves_are, length_records m.slots (moves_found Y m g.animal))
        (length_climb Y.layout (visited Y m g.animal) 2 W.reach (stopped Y m g.animal)
        (free_slot Y.layout m.slots (stop_bucket Y.layout m.slots (pair Y g.animal) W.reach)))

    home_is : Home Z g.animal (bucket Z i)
    home_is = subst (λ Y. Home Y g.animal (bucket Y i)) same (plan_final W m g vs p i (as_found W m g vs p i e)).2

pub plan_room : (W : Ways) → PlanRoom W (ours W)
plan_room W s g good away p vacant =
    let m = table W (ours W) s in
    let K = plan_is_sets W m g in
    let None = absent W s g good (ap (λ l. walk_to l g.animal (shape_in W s).places 0) (same_story W s) ∙ away) in
    let R = our_room W s g good away p vacant in
    record {
      six = (λ e. R.six.0 ((K.refuses None 6).0 e), λ n. (K.refuses None 6).1 (R.six.1 n));
      else_plans = λ n. let (v, k, e) = R.else_stores n in K.stores None v k e;
      run = λ vs p i e. run_is W s g vs p i e;
      few = λ vs p i e. few_are W s g vs p i e;
      inside = λ vs p i e. (plan_final W m g vs p i (as_found W m g vs p i e)).0;
      free = λ vs p i e. (plan_final W m g vs p i (as_found W m g vs p i e)).1;
      home = λ vs p i e. home_is W s g vs p i e;
      fewest = λ vs p i e. let o = K.plans vs p i e in R.fewest o.visits (length vs) o.told;
    }

-- no read of a well-formed table is busy
not_busy : (Y : Shape) (m : Mem) → WellFormed Y m → (x limit now : ℕ) → reading Y m x limit now ≢ refused 8
not_busy Y m w x limit now e = go (eqb x 0) (bad_time limit now) (sym (read_walk Y m w x limit now) ∙ e)
  where
    r : Answer
    r = judge m.items limit now (walk_to m.items x Y.places 0)

    go : (b c : Bool) → (choose b (refuse 2) (choose c (refuse 3) (tell r))).answer ≢ refused 8
    go true c e = let z : ◌≡◌ {A = ℕ} 2 8 = cc in absurd (omega arith)
    go false true e = let z : ◌≡◌ {A = ℕ} 3 8 = cc in absurd (omega arith)
    go false false e = true_false (ap is_refusal e) (judged m.items limit now (walk_to m.items x Y.places 0))

pub others_kept : (W : Ways) → OthersKept W (ours W)
others_kept W s c t y limit now ne =
    let O = ours W in
    let m = table W O s in
    let w = well_story W s in
    let k = length (O.writes m (did c)) in
    let whole : cut_at O k m (did c) ≡ leaves O m (did c) = ap (λ (ws : List Write). make_all ws m) (take_all k (O.writes m (did c)) (omega arith)) in
    let well = well_on W s.memory s.right m w c t in
    let calm : reads W O (leaves O m (did c)) y limit now ≢ refused 8
    = λ e. not_busy (shape_in W s) (leaves O m (did c)) well y limit now (sym (alike_reading W s.memory s.right (well_alike W s.memory s.right well) y limit now) ∙ e) in
    ⊎_elim (λ e. absurd (calm e)) (λ u. ⊎_elim (λ e. e) (λ e. absurd (ne e.0)) u)
    (subst (λ n. SeenBy W O m (leaves O m (did c)) n (about c (O.answer m (did c))) y limit now) whole
    (seen_on W s.memory s.right m w c t k y limit now))
