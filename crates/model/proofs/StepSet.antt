-- One set on a well-formed table: an update, or the moves of the search and a new entry. Assumes nothing.
use Prim.Native.Nat.{ℕ, ◌+◌, ◌*◌, ◌^◌, ◌<◌}
use native.Mathlib.Omega.{arith}
use mathlib.Core.Path.{◌≡◌, refl, sym, ap, subst}
use mathlib.Core.Logic.{◌≢◌}
use mathlib.Core.Bool.{Bool, false}
use Rattle.std.specs.Prelude.{Option, Some}
use mathlib.Core.List.{List, [], ◌∷◌, ◌++◌}
use lib.ListN.{length, take}
use lib.Dec.{eqb}
use borrow.Author.Tests.{eq-eqb, eqb-true, eqb-false}
use Rattle.model.specs.Choice.{any, choose, first}
use Rattle.model.specs.Memory.{Mem, animal, damage_at, stamp}
use Rattle.model.specs.Shape.{Home, Shape, bucket, counter_of, pair, slots_of}
use Rattle.model.specs.Stores.{Block, update, whole, wholes}
use Rattle.model.specs.Moves.{Move, Run, moved, moved_by}
use Rattle.model.specs.Visits.{stop_slot}
use Rattle.model.specs.Answers.{refused, stored}
use Rattle.model.specs.Calls.{enter_at, enter_block, enter_blocks, final_slot, move_block, move_blocks, refuse, moves_found, entered}
use Rattle.model.specs.Calls.{set_at, stopped, vacant_place, visited, search_damage}
use Rattle.model.specs.Row.{fill, renew, row_new, row_set, stay}
use Rattle.model.specs.WellFormed.{WellFormed}
use Rattle.model.specs.declared.Grant.{Grant}
use Rattle.model.proofs.ShapeLaws.{Lawful}
use Rattle.model.proofs.Paths.{Shortest}
use Rattle.model.proofs.Search.{in_pair, pair_in, search_some, stop_le}
use Rattle.model.proofs.ListLaws.{bool, found, in_range, missing, range_in, true_false, walk_first, walk_is}
use Rattle.model.proofs.Calm.{none_damaged}
use Rattle.model.proofs.KeepBlocks.{Enters, Fits, keep, live_in}
use Rattle.model.proofs.Cut.{Tale, done, last, quiet}
use Rattle.model.proofs.Step.{Held, Step, both, still, walked}
use Rattle.model.proofs.RowWords.{late_is}
use Rattle.model.specs.Age.{late}

module _ (Y : Shape) (L : Lawful Y) where
  -- moves, and then what comes last
  moves_tale : (a : ℕ) (ms : List Move) (m : Mem) → WellFormed Y m → Run Y.layout m.slots ms → (rest : List Block)
      → ((m' : Mem) → WellFormed Y m' → m'.slots ≡ moved_by m.slots ms → m'.items ≡ m.items → Tale Y a m' rest)
      → Tale Y a m (move_blocks Y m.slots ms ++ rest)
  moves_tale a [] m g run rest k = k m g refl refl
  moves_tale a (v ∷ ms) m g run rest k =
      let f : Fits Y m (move_block Y m.slots v) = (run.0, refl, refl) in
      quiet f tt
      (moves_tale a ms (whole (move_block Y m.slots v) m) (keep Y L m g (move_block Y m.slots v) f) run.1 rest k)

  moves_items : (q : Grant) (p i : ℕ) (T : List ℕ) (ms : List Move) (m : Mem)
      → (wholes (move_blocks Y T ms ++ (enter_block Y q p i ∷ [])) m).items ≡ fill m.items p q.animal q.permission q.issued 1
  moves_items q p i T [] m = refl
  moves_items q p i T (w ∷ ms) m = moves_items q p i (moved T w) ms (whole (move_block Y T w) m)

-- where no number passes a test, none is found
none_there : (f : ℕ → Bool) → ((b : ℕ) → f b ≡ false) → (l : List ℕ) → any f l ≡ false
unfolding first
none_there f h [] = refl
none_there f h (b ∷ l) = rw (h b, none_there f h l)

-- no word is damaged, so the search meets no damage
pub no_search_damage : (Y : Shape) (L : Lawful Y) (m : Mem) (g : WellFormed Y m) (x : ℕ) → search_damage Y m x ≡ false
no_search_damage Y L m g x =
    none_there (λ b. damage_at Y.places m.slots (slots_of Y b)) (λ b. none_damaged Y m g.undamaged (slots_of Y b))
    (take (stopped Y m x + 1) (visited Y m x))

module _ (Y : Shape) (L : Lawful Y) (m : Mem) (long : length m.slots ≡ Y.buckets * Y.layout.ways) (x : ℕ) where
  -- the search stops before the end of the visit list: what it finds, on any memory of the right length
  pub found_room : stopped Y m x ≢ length (visited Y m x)
      → Shortest Y.layout m.slots (pair Y x) (stop_slot Y.layout m.slots (pair Y x) Y.reach) (moves_found Y m x)
  found_room ne =
      search_some Y.layout m.slots Y.buckets long L.other_in (pair Y x)
      (pair_in Y.layout m.slots Y.buckets long L.other_in (Y.tag_of x) (Y.first_of x) (L.first_in x) Y.reach)
      Y.reach (omega (arith, stop_le Y.layout m.slots (visited Y m x)))

  pub final_home : stopped Y m x ≢ length (visited Y m x) → Home Y x (bucket Y (final_slot Y m x))
  final_home ne =
      in_pair Y.layout m.slots Y.buckets long L.other_in (Y.tag_of x) (Y.first_of x) (L.first_in x) Y.reach
      (bucket Y (final_slot Y m x)) (found_room ne).home

module _ (Y : Shape) (L : Lawful Y) (m : Mem) (g : WellFormed Y m) (q : Grant) (nz : q.animal ≢ 0) (hv : q.permission < 2 ^ 32) where
  abbrev x : ℕ
  x = q.animal

  module _ (new : (p : ℕ) → animal m.items p ≢ x) (p : ℕ) (inside : p < Y.places) (vacant : animal m.items p ≡ 0)
      (ne : stopped Y m x ≢ length (visited Y m x)) where
    -- after the moves the new entry can be made
    enters : (m' : Mem) → WellFormed Y m' → m'.slots ≡ moved_by m.slots (moves_found Y m x) → m'.items ≡ m.items
        → Enters Y m' (counter_of Y x) p (final_slot Y m x) (Y.tag_of x * 65536 + p) x q.permission
    enters m' g' es ei =
        record {
          real = nz;
          inside = inside;
          vacant = rw ei vacant;
          slot = rw (g'.slots_long, ← g.slots_long) (found_room Y L m g.slots_long x ne).inside;
          free = rw es (found_room Y L m g.slots_long x ne).freed;
          home = final_home Y L m g.slots_long x ne;
          entry = refl;
          narrow = hv;
          new = λ k. rw ei (new k);
          count = refl;
        }

    enter_tale : Tale Y x m (enter_blocks Y m q p)
    enter_tale =
        moves_tale Y L x (moves_found Y m x) m g (found_room Y L m g.slots_long x ne).run (enter_block Y q p (final_slot Y m x) ∷ [])
        λ m' g' es ei. last {b = enter_block Y q p (final_slot Y m x)} (enters m' g' es ei) refl

  step_new : ((p : ℕ) → animal m.items p ≢ x) → {o : Option ℕ} → Held Y L m g 0 o
      → Step Y (λ a. x) m (enter_at Y m q o) (λ f. row_new Y.places f m.items q o)
  step_new new (missing h) = still Y (λ a. x) m (refused 5) (refused 5) refl
  step_new new (found {i = p} r t) =
      rw (no_search_damage Y L m g x)
      (bool (λ b. Step Y (λ a. x) m (choose b (refuse 6) (entered Y m q p)) (λ f. row_new Y.places f m.items q (Some p)))
      (eqb (stopped Y m x) (length (visited Y m x))) (λ e. record { tale = done; answer = refl; items = refl })
      λ e. record {
        tale = enter_tale new p (omega (arith, in_range 0 Y.places r)) (eqb-true (animal m.items p) 0 t)
            (eqb-false (stopped Y m x) (length (visited Y m x)) e);
        answer = refl;
        items = moves_items Y L q p (final_slot Y m x) m.slots (moves_found Y m x) m;
      })

  pub step_set : {o : Option ℕ} → Held Y L m g x o
      → Step Y (λ a. x) m (set_at Y m q o) (λ f. row_set Y.places f m.items q o)
  unfolding vacant_place
  step_set (missing h) =
      subst (λ o. Step Y (λ a. x) m (enter_at Y m q o) (λ f. row_new Y.places f m.items q (walked Y L m g 0)))
      (walk_first m.items 0 Y.places 0) (step_new new (walk_is m.items 0 Y.places 0))
    where
      new : (p : ℕ) → animal m.items p ≢ x
      new p e =
          true_false (eq-eqb (animal m.items p) x e)
          (h p (range_in 0 Y.places (omega arith) (omega (arith, live_in Y g p (rw e nz)))))
  step_set (found {i = p} r t) =
      let e = eqb-true (animal m.items p) x t in
      let f : Fits Y m (update (counter_of Y x) p q.permission q.issued) = (rw e nz, hv, ap (counter_of Y) (sym e)) in
      subst (λ b. Step Y (λ a. x) m (set_at Y m q (Some p)) (λ r. choose b (stay m.items (refused 11))
      (record { answer = stored 0 0; words = renew m.items p q.permission q.issued }))) (late_is Y.places (stamp m.items p) q)
      (both Y (λ a. x) m (late (stamp m.items p) q) (λ z. still Y (λ a. x) m (refused 11) (refused 11) refl)
      λ z. record { tale = last f e; answer = refl; items = refl })
