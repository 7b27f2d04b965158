-- Wish 7, on any memory: a plan that is carried out step by step, without calls between, leaves what the set leaves. Assumes nothing.
use Prim.Native.Nat.{ℕ, zero, suc, ◌*◌, ◌<◌}
use native.Mathlib.Omega.{arith}
use mathlib.Core.Path.{◌≡◌, refl, sym, ap, ◌∙◌, subst}
use mathlib.Core.Logic.{◌≢◌}
use mathlib.Core.Bool.{true, false}
use Rattle.std.specs.Prelude.{Option, Some, None}
use mathlib.Core.List.{List, [], ◌∷◌, ◌++◌}
use lib.ListN.{length, get_or, set, length-set}
use lib.Dec.{eqb}
use borrow.Author.Tests.{eqb-true, ne_eqb}
use Rattle.model.specs.Choice.{choose, range, there}
use Rattle.model.specs.Memory.{Mem, animal, tag}
use Rattle.model.specs.Shape.{Home, Shape, Ways, bucket, pair, right_lengths, shape_of}
use Rattle.model.specs.Stores.{Block, stores_of, whole, wholes}
use Rattle.model.specs.Moves.{Move, Run, as_move, as_moves, moved, moved_by, records_of}
use Rattle.model.specs.Visits.{stop_slot}
use Rattle.model.specs.Calling.{Call, did, set_animal, step_enter, step_move}
use Rattle.model.specs.Answers.{entry_made, move_made}
use Rattle.model.specs.Age.{bad_grant}
use Rattle.model.specs.Calls.{Outcome, busy, call, enter_block, final_at, held, home_damage, move_at, move_block, move_blocks, moves_found, refuse, stopped, vacant_place, visited}
use Rattle.model.specs.AnyTable.{Table, leaves, left}
use Rattle.model.specs.Ours.{ours}
use Rattle.model.specs.InSteps.{AllMade, MayEnter, MayMove, StepsAreSet, steps}
use Rattle.model.specs.declared.Grant.{Grant}
use Rattle.model.specs.declared.MoveRecord.{MoveRecord}
use Rattle.model.proofs.ShapeLaws.{Lawful}
use Rattle.model.proofs.ListLaws.{First, first_is, found, in_range, inside_held, missing, true_false}
use Rattle.model.proofs.Lent.{Alike, alike_call, fit, law, stores_alike}
use Rattle.model.proofs.Records.{moves_back}
use Rattle.model.proofs.Turns.{good_minutes}
use Rattle.model.proofs.Paths.{Shortest, Untouched}
use Rattle.model.proofs.Search.{stop_le}
use Rattle.model.proofs.Sources.{Sound, moves_sound}
use Rattle.model.proofs.StepSet.{final_home, found_room}
use Rattle.model.proofs.MaySteps.{enter_if, move_if}
use Rattle.model.proofs.MoveKeeps.{away_later, calm_later, sound_later}
use Rattle.model.proofs.Linked.{leaves_lent}
use Rattle.model.proofs.InSteps.{AsFound, as_found, sets_own}

-- moves in turn, each on the slots that those before it leave
abbrev MayMoves : Shape → List ℕ → List MoveRecord → Type 0
MayMoves Y T [] = Unit {0}
MayMoves Y T (v ∷ vs) = MayMove Y T v × MayMoves Y (moved T (as_move v)) vs

-- legal moves of sound words that find what stood there at first may be made as they were recorded
records_may : (Y : Shape) (T : List ℕ) (ms : List Move) (U : List ℕ) → Run Y.layout U ms → Untouched T U ms → Sound Y.places T ms
    → MayMoves Y U (records_of T ms)
records_may Y T [] U run same sound = tt
records_may Y T (v ∷ ms) U run same sound = (
  record {
    from_in = inside_held U v.from run.0.held;
    to_in = run.0.inside;
    occupied = run.0.held;
    sound = rw same.0 sound.0;
    same_tag = ap tag same.0;
    free = run.0.vacant;
    goes = run.0.goes;
  },
  records_may Y T ms (moved U v) run.1 same.1 sound.1,
)

-- the memory m₀ gives the lengths; the steps go on from memories with the same
module _ (W : Ways) (m₀ : Mem) (right : right_lengths W m₀ ≡ true) (g : Grant) (real : g.animal ≢ 0) (good : bad_grant g ≡ false) (p i : ℕ) where
  abbrev Y : Shape
  Y = shape_of W m₀

  abbrev O : Table
  O = ours W

  abbrev x : ℕ
  x = g.animal

  -- what the steps ask of the animal
  record Ready (m : Mem) : Type 0 where
    alike : Alike W m₀ right m
    calm : busy Y m x ≡ false
    sound : home_damage Y m x ≡ false
    away : held Y m x ≡ None

  -- and of the final store
  record Final (T l : List ℕ) : Type 0 where
    place_in : p < Y.places
    slot_in : i < length T
    vacant : animal l p ≡ 0
    free : get_or T i 0 ≡ 0
    home : Home Y x (bucket Y i)

  -- a step whose turn comes
  comes : {m : Mem} → Ready m → (c : Call) (o : Outcome)
      → call Y m c ≡ choose (eqb x 0) (refuse 2) (choose (bad_grant g) (refuse 3) (choose (busy Y m x) (refuse 8) (choose (home_damage Y m x) (refuse 4) o)))
      → call Y m c ≡ o
  comes r c o e = e ∙ rw (ne_eqb x 0 real, good, r.calm, r.sound)

  -- what it answers and leaves
  does : {m : Mem} → Ready m → (c : Call) (o : Outcome) → call Y m c ≡ o → (O.answer m (did c) ≡ o.answer) × (leaves O m (did c) ≡ wholes o.blocks m)
  does {m} r c o e =
      let same = alike_call W m₀ right r.alike c ∙ e in
      (ap (λ (o : Outcome). o.answer) same, leaves_lent W m c ∙ ap (λ (o : Outcome). wholes o.blocks m) same)

  abbrev moving : Mem → MoveRecord → Block
  moving m v = move_block Y m.slots (as_move v)

  ready_later : {m : Mem} → Ready m → (v : MoveRecord) → MayMove Y m.slots v → Ready (whole (moving m v) m)
  ready_later {m} r v h =
      let L = law W m₀ right in
      let long = r.alike.slots_same ∙ (fit W m₀ right).slots_fit in
      record {
        alike = stores_alike W m₀ right (stores_of (moving m v)) r.alike;
        calm = calm_later Y L m v h x r.calm;
        sound = sound_later Y L m v h x r.sound;
        away = away_later Y L m v h x long r.away;
      }

  abbrev all_blocks : Mem → List MoveRecord → List Block
  all_blocks m vs = move_blocks Y m.slots (as_moves vs) ++ (enter_block Y g p i ∷ [])

  -- each step is made, and together they make the plan's blocks
  carried : (vs : List MoveRecord) (m : Mem) → Ready m → MayMoves Y m.slots vs → Final (moved_by m.slots (as_moves vs)) m.items
      → AllMade O m g vs p i × (left O m (steps g vs p i) ≡ wholes (all_blocks m vs) m)
  carried [] m r h f =
      let may : MayEnter Y m x p i = record {
        away = r.away;
        place_in = f.place_in;
        slot_in = f.slot_in;
        vacant = f.vacant;
        free = f.free;
        home = f.home;
      } in
      let made : Outcome = record { answer = entry_made; blocks = enter_block Y g p i ∷ [] } in
      does r (step_enter g p i) made (comes r (step_enter g p i) (final_at Y m g p i) refl ∙ ap (λ b. choose b made (refuse 12)) (enter_if Y m x p i may))
  carried (v ∷ vs) m r h f =
      let made : Outcome = record { answer = move_made; blocks = moving m v ∷ [] } in
      let d = does r (step_move g v) made (comes r (step_move g v) (move_at Y m v) refl ∙ ap (λ b. choose b made (refuse 12)) (move_if Y m.slots v h.0)) in
      let n : Mem = whole (moving m v) m in
      let on : AllMade O n g vs p i × (left O n (steps g vs p i) ≡ wholes (all_blocks n vs) n) = carried vs n (ready_later r v h.0) h.1 f in
      let back = subst (λ k. AllMade O k g vs p i × (left O k (steps g vs p i) ≡ wholes (all_blocks n vs) n)) (sym d.1) on in
      ((d.0, back.0), back.1)

-- the lowest vacant place lies among the places and is vacant
vacant_there : (M : ℕ) (l : List ℕ) (p : ℕ) → vacant_place M l ≡ Some p → (p < M) × (animal l p ≡ 0)
unfolding vacant_place
vacant_there M l p e = go (first_is (λ q. eqb (animal l q) 0) (range 0 M)) e
  where
    go : {o : Option ℕ} → First (λ q. eqb (animal l q) 0) (range 0 M) o → o ≡ Some p → (p < M) × (animal l p ≡ 0)
    go (found {i = k} q t) e = let f : k ≡ p = cc in (rw (← f) (omega (arith, in_range 0 M q)), rw (← f) (eqb-true (animal l k) 0 t))
    go (missing h) e = true_false {b = true} refl (ap there (sym e))

-- a run with a slot in it has buckets of some slots
some_way : (n w : ℕ) {k s : ℕ} → k < s → s ≡ n * w → 0 < w
some_way n zero l e = absurd (omega arith)
some_way n (suc w) l e = omega arith

moved_long : (ms : List Move) (T : List ℕ) → length (moved_by T ms) ≡ length T
moved_long [] T = refl
moved_long (v ∷ ms) T = moved_long ms (moved T v) ∙ length-set (set T v.to (get_or T v.from 0)) v.from 0 ∙ length-set T v.to (get_or T v.from 0)

-- a plan on the memory m
module _ (W : Ways) (m : Mem) (g : Grant) (vs : List MoveRecord) (p i : ℕ) (f : AsFound W m g vs p i) where
  abbrev Z : Shape
  Z = shape_of W m

  abbrev y : ℕ
  y = g.animal

  long : length m.slots ≡ Z.buckets * Z.layout.ways
  long = (fit W m f.turn.lengths).slots_fit

  L : Lawful Z
  L = law W m f.turn.lengths

  pub plan_shortest : Shortest Z.layout m.slots (pair Z y) (stop_slot Z.layout m.slots (pair Z y) Z.reach) (moves_found Z m y)
  plan_shortest = found_room Z L m long y f.room

  pub plan_moves : as_moves vs ≡ moves_found Z m y
  plan_moves = ap as_moves f.moves_are ∙ moves_back m.slots (moves_found Z m y)

  -- each move may be made in its turn
  moves_may : MayMoves Z m.slots vs
  moves_may =
      let s = plan_shortest in
      let inside : stopped Z m y < length (visited Z m y) = omega (arith, stop_le Z.layout m.slots (visited Z m y), f.room) in
      subst (MayMoves Z m.slots) (sym f.moves_are)
      (records_may Z m.slots (moves_found Z m y) m.slots s.run s.untouched
      (moves_sound Z.layout m.slots (pair Z y) Z.places Z.reach (some_way Z.buckets W.ways s.inside long)
      (omega arith) f.undamaged inside))

  pub plan_final : (i < length m.slots) × (get_or (moved_by m.slots (as_moves vs)) i 0 ≡ 0) × Home Z y (bucket Z i)
  plan_final = (
    rw f.slot_is plan_shortest.inside,
    rw (f.slot_is, plan_moves) plan_shortest.freed,
    rw f.slot_is (final_home Z L m long y f.room),
  )

pub steps_are_set : (W : Ways) → StepsAreSet (ours W)
steps_are_set W m g vs p i e =
    let f = as_found W m g vs p i e in
    let q = vacant_there (shape_of W m).places m.items p f.place_is in
    let t = f.turn in
    let z = plan_final W m g vs p i f in
    let c = carried W m t.lengths g t.real (good_minutes g t.timely t.issued) p i vs m
    (record { alike = record { slots_same = refl; counters_same = refl; items_same = refl }; calm = t.calm; sound = t.sound; away = f.away })
    (moves_may W m g vs p i f)
    (record { place_in = q.0; slot_in = rw (moved_long (as_moves vs) m.slots) z.0; vacant = q.1; free = z.1; home = z.2 }) in
    (c.0, c.1 ∙ ap (λ bs. wholes bs m) (sym (sets_own W m g vs p i f).blocks_are) ∙ sym (leaves_lent W m (set_animal g)))
