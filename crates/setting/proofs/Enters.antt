-- Set's do: the moves and the new entry, or the update; a law a way out. Assumes nothing.
use Prim.Native.Nat.{ℕ, ◌+◌, ◌*◌, ◌%◌, ◌/◌, ◌^◌}
use mathlib.Core.Path.{◌≡◌, refl, sym, ap, ◌∙◌}
use mathlib.Core.Bool.{Bool, true, false}
use mathlib.Core.List.{List, [], ◌∷◌, ◌++◌, append-nil}
use Rattle.std.specs.Prelude.{Ok}
use lib.ListN.{length, get_or, take}
use Rattle.model.specs.Choice.{choose}
use Rattle.model.specs.Memory.{Mem, mem, place}
use Rattle.model.specs.Shape.{Ways, shape, shape_of}
use Rattle.model.specs.Stores.{enter, stores, stores_of, update}
use Rattle.model.specs.Moves.{as_moves}
use Rattle.model.specs.Answers.{Answer, refused, stored}
use Rattle.model.specs.Age.{late}
use Rattle.model.specs.Calls.{move_blocks, refuse, set_held, updated}
use Rattle.model.specs.Promised.{Does}
use Rattle.blocks.specs.Made.{Made}
use Rattle.blocks.proofs.Laws.{made_append}
use Rattle.blocks.proofs.Budget.{does_as, does_made, does_one, does_refuse, stores_append}
use Rattle.vacancy.specs.Room.{entering}
use Rattle.model.specs.declared.Grant.{Grant}
use Rattle.hashing.specs.declared.Homes.{Homes}
use Rattle.vacancy.specs.declared.Room.{Room}

module _ (m : Mem) (g : Grant) (h : Homes) (r : Room) where
  -- the moves, then the entry
  pub enter_made : (shift : ℕ) {k l l' : ℕ} {T₁ k₁ : List ℕ} {m' : Mem}
      → ((W : Ways) (p : ℕ) (i : List ℕ) → W.ways ≡ 2 ^ shift
      → Made (stores (move_blocks (shape W (length m.slots / 2 ^ shift) (length m.counters) p) m.slots (as_moves (take r.found.count r.found.moves)))) k
      (mem m.slots m.counters i) (mem T₁ k₁ i) l)
      → Made (stores_of (enter h.counter r.place r.found.slot (h.tag * 65536 + r.place) g.animal g.permission g.issued)) l (mem T₁ k₁ m.items) m' l'
      → (W : Ways) → W.ways ≡ 2 ^ shift → Does (entering W m g h (Ok r)) k m m' (stored r.found.visits r.found.count)
  unfolding stores
  enter_made shift {l' = l'} moves entry W q =
      let b = enter h.counter r.place r.found.slot (h.tag * 65536 + r.place) g.animal g.permission g.issued in
      let bs = move_blocks (shape_of W m) m.slots (as_moves (take r.found.count r.found.moves)) in
      does_made {l = l'} (stored r.found.visits r.found.count) (bs ++ (b ∷ [])) refl
      (rw (stores_append bs (b ∷ []), append-nil (stores_of b)) (made_append (rw (← q) at (moves W (length m.items / 4) m.items q)) entry))

-- a set of a held animal: its list is late, or it is not
module _ (c w : ℕ) (g : Grant) (i : List ℕ) {b : Bool} (e : b ≡ late (get_or i (4 * (w % 65536) + 2) 0) g) where
  pub held_late : {k : ℕ} {n : List ℕ} → b ≡ true → (s : List ℕ) → Does (set_held i c (place w) g) k (mem s n i) (mem s n i) (refused 11)
  unfolding place
  held_late q s = does_refuse (ap (λ b. choose b (refuse 11) (updated c (w % 65536) g)) (sym e ∙ q))

  -- timely: what the update of its place does and answers, the set does and answers
  pub held_timely : {k : ℕ} {n n' i' : List ℕ} {a : Answer} → b ≡ false
      → ((s : List ℕ) → Does (updated c (place w) g) k (mem s n i) (mem s n' i') a)
      → (s : List ℕ) → Does (set_held i c (place w) g) k (mem s n i) (mem s n' i') a
  unfolding place
  held_timely q d s = does_as (sym (ap (λ b. choose b (refuse 11) (updated c (w % 65536) g)) (sym e ∙ q))) (d s)

  -- so where the stores of an update were made
  pub held_updated : {k l : ℕ} {n n' i' : List ℕ} → b ≡ false
      → ((s : List ℕ) → Made (stores_of (update c (w % 65536) g.permission g.issued)) k (mem s n i) (mem s n' i') l)
      → (s : List ℕ) → Does (set_held i c (place w) g) k (mem s n i) (mem s n' i') (stored 0 0)
  unfolding place
  held_updated {l = l} q d = held_timely q (λ s. does_one {l = l} (stored 0 0) (update c (w % 65536) g.permission g.issued) refl (d s))
