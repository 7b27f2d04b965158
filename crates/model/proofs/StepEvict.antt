-- One evict on a well-formed table: the clears of the places that the hand passes, and then the victim goes. Assumes nothing.
use Prim.Native.Nat.{ℕ, ◌+◌, ◌*◌, ◌<◌, ◌-◌, ◌%◌, min}
use native.Mathlib.Omega.{arith}
use mathlib.Core.Path.{◌≡◌, refl, sym, ap, ◌∙◌, subst}
use mathlib.Core.Bool.{Bool, true, false, not}
use Rattle.std.specs.Prelude.{Option, Some}
use mathlib.Core.List.{List, [], ◌∷◌, ◌++◌}
use lib.ListN.{get_or, set}
use lib.Seq.{get_or-set_other}
use lib.Dec.{eqb, leb}
use borrow.Author.Tests.{ne_eqb, leb-false}
use Rattle.model.specs.Choice.{choose}
use Rattle.model.specs.Memory.{Mem, animal, place, tag, word}
use Rattle.model.specs.Shape.{Shape, counter_of, homes}
use Rattle.model.specs.Stores.{Block, recency, remove, whole, wholes}
use Rattle.model.specs.Answers.{refused, victim_in}
use Rattle.model.specs.Clock.{Victim, clears, victim}
use Rattle.model.specs.Calls.{Outcome, busy, call, clear_blocks, evict_at, evict_slot, refuse, slot_of, some_live}
use Rattle.model.specs.Row.{Row, fill, row_call, row_clock, row_count, row_evict, stay}
use Rattle.model.specs.WellFormed.{Live, Right, WellFormed}
use Rattle.model.proofs.ShapeLaws.{Lawful, tagged_word}
use Rattle.model.proofs.ListLaws.{First, both_is, both_yes, first_is, found, missing, true_false}
use Rattle.model.proofs.Calm.{none_damaged}
use Rattle.model.proofs.KeepBlocks.{keep}
use Rattle.model.proofs.HomeSlots.{home_in}
use Rattle.model.proofs.Cut.{Tale, last, quiet}
use Rattle.model.proofs.Clock.{AllLive, Sought, nobody, passed_live, row_clock_is, row_turned, rub, somebody, sought}
use Rattle.model.proofs.RowWords.{live_one}
use Rattle.model.proofs.Step.{Step, both, still}
use Rattle.model.specs.Calling.{evict}

-- clears change no animal
pub cleared_animal : (l : List ℕ) (p v q : ℕ) → animal (set l (4 * p + 3) v) q ≡ animal l q
cleared_animal l p v q = get_or-set_other l (4 * p + 3) (4 * q) v 0 (λ e. absurd (omega arith))

still_live : (l l' : List ℕ) → ((q : ℕ) → animal l' q ≡ animal l q) → (ps : List ℕ) → AllLive l' ps → AllLive l ps
still_live l l' h [] a = tt
still_live l l' h (p ∷ ps) a = (λ z. a.0 (h p ∙ z), still_live l l' h ps a.1)

module _ (Y : Shape) (L : Lawful Y) where
  -- clears, and then what comes last
  clears_tale : (a : ℕ) (ps : List ℕ) (m : Mem) → WellFormed Y m → AllLive m.items ps → (rest : List Block)
      → ((m' : Mem) → WellFormed Y m' → m'.slots ≡ m.slots → ((q : ℕ) → animal m'.items q ≡ animal m.items q) → Tale Y a m' rest)
      → Tale Y a m (clear_blocks ps ++ rest)
  clears_tale a [] m g lv rest k = k m g refl (λ q. refl)
  clears_tale a (p ∷ ps) m g lv rest k =
      quiet {b = recency p 0} lv.0 tt
      (clears_tale a ps (whole (recency p 0) m) (keep Y L m g (recency p 0) lv.0)
      (still_live (set m.items (4 * p + 3) 0) m.items (λ q. sym (cleared_animal m.items p 0 q)) ps lv.1) rest
      λ m' g' es ea. k m' g' es (λ q. ea q ∙ cleared_animal m.items p 0 q))

  clears_items : (c i v : ℕ) (ps : List ℕ) (m : Mem)
      → (wholes (clear_blocks ps ++ (remove c i v ∷ [])) m).items ≡ fill (rub m.items ps) v 0 0 0 0
  clears_items c i v [] m = refl
  clears_items c i v (p ∷ ps) m = clears_items c i v ps (whole (recency p 0) m)

module _ (Y : Shape) (L : Lawful Y) (m : Mem) (g : WellFormed Y m) (hand : ℕ) where
  -- the row's evict, where the victim was found before any store
  abbrev row_found : Option Victim → Row
  row_found o = row_evict Y.places m.items (row_turned Y.places m.items hand o)

  -- the victim's slot is among its home slots
  step_slot : (v : Victim) → Live m.items v.place → {o : Option ℕ}
      → First (λ i. choose (eqb (tag (word m i)) (Y.tag_of (animal m.items v.place))) (eqb (place (word m i)) v.place) false)
      (homes Y (animal m.items v.place)) o
      → Step Y victim_in m (evict_slot Y m hand v (animal m.items v.place) o) (λ f. row_found (Some v))
  step_slot v lv (missing h) =
      let s = g.pointed v.place lv in
      let r : Right Y (animal m.items v.place) (word m s.0) s.0 = rw s.1.1 at (g.points s.0 s.1.0) in
      true_false (both_yes r.tagged s.1.1) (h s.0 (home_in Y m g.slots_long s.1.0 r.home))
  step_slot v lv (found {i = i} q h) =
      let x = animal m.items v.place in
      let b = both_is (tag (word m i)) (Y.tag_of x) (place (word m i)) v.place h in
      let ps : List ℕ = clears Y.places m.items hand v in
      record {
        tale = clears_tale Y L x ps m g (passed_live Y.places m.items (min (v.looked - 1) Y.places) hand)
            (remove (counter_of Y x) i v.place ∷ [])
            λ m' g' es ea. last {b = remove (counter_of Y x) i v.place}
            (rw es (tagged_word L (word m i) x b.0, b.1), ap (counter_of Y) (sym (ea v.place))) (ea v.place);
        answer = refl;
        items = clears_items Y L (counter_of Y x) i v.place ps m;
      }

  step_victim : {o : Option Victim} → Sought Y.places m.items 0 o → Step Y victim_in m (evict_at Y m hand o) (λ f. row_found o)
  unfolding slot_of
  step_victim nobody = still Y victim_in m (refused 10) (refused 10) refl
  step_victim (somebody {v = v} i lv k) =
      let x = animal m.items v.place in
      let calm' : busy Y m x ≡ false = ne_eqb (get_or m.counters (counter_of Y x) 0 % 2) 1 (omega (arith, g.even (counter_of Y x))) in
      rw (calm', none_damaged Y m g.undamaged (homes Y x))
      (step_slot v lv (first_is (λ i. choose (eqb (tag (word m i)) (Y.tag_of x)) (eqb (place (word m i)) v.place) false) (homes Y x)))

  -- the turns 1 and 7, then the victim
  pub step_evict : Step Y victim_in m (call Y m (evict hand)) (λ f. row_call Y.places f m.items (evict hand))
  unfolding some_live
  step_evict =
      both Y victim_in m (leb Y.places hand) (λ e. still Y victim_in m (refused 1) (refused 1) refl)
      λ e. let low : hand < Y.places = leb-false Y.places hand e in
      subst (λ b. Step Y victim_in m (choose b (evict_at Y m hand (victim Y.places m.items hand)) (refuse 7))
      (λ f. choose (eqb (row_count m.items Y.places 0) 0) (stay m.items (refused 7))
      (row_evict Y.places m.items (row_clock Y.places m.items (2 * Y.places) hand 0))))
      (sym (live_one m.items Y.places 0))
      (seven (eqb (row_count m.items Y.places 0) 0)
      (subst (λ o. Step Y victim_in m (evict_at Y m hand (victim Y.places m.items hand)) (λ f. row_evict Y.places m.items o))
      (sym (row_clock_is Y.places m.items hand low g.items_long))
      (step_victim (sought Y.places m.items (2 * Y.places) hand 0 low))))
    where
      seven : (b : Bool) {o : Outcome} {r : ℕ → Row} → Step Y victim_in m o r
          → Step Y victim_in m (choose (not b) o (refuse 7)) (λ f. choose b (stay m.items (refused 7)) (r f))
      seven true s = still Y victim_in m (refused 7) (refused 7) refl
      seven false s = s
