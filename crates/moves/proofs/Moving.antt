-- Moves under a budget: one after the other, each reading the slots that it finds. Assumes nothing.
use Prim.Native.Nat.{ℕ, ◌+◌, ◌<◌, suc, ◌≤◌, ◌%◌, ◌/◌, zero, min, ◌^◌}
use native.Mathlib.Numerals.{add-one}
use native.Mathlib.Omega.{arith}
use native.Mathlib.Decide.{dec_le}
use mathlib.Core.Path.{◌≡◌, refl, sym, ap, ◌∙◌, subst}
use mathlib.Core.Logic.{dite}
use mathlib.Core.List.{List, [], ◌∷◌}
use lib.ListN.{length, get_or, take, drop}
use lib.Seq.{drop-cons}
use Rattle.std.proofs.lemmas.List.{drop_all}
use denote.Struct.Rest.{rest}
use Rattle.blocks.specs.Made.{Made}
use Rattle.model.specs.Memory.{Mem, mem, tag}
use Rattle.model.specs.Hash.{other_bucket}
use Rattle.model.specs.Shape.{Shape, shape, Ways}
use Rattle.model.specs.Stores.{Store, apply_all, move, stores, stores_of}
use Rattle.model.specs.Moves.{Move, as_moves, moved, as_move}
use Rattle.model.specs.Calls.{move_block, move_blocks}
use Rattle.blocks.proofs.Laws.{made_append, made_nil}
use Rattle.model.specs.declared.MoveRecord.{MoveRecord}

-- with nothing left, any stores are made by none
swap_none : {ss ss' : List Store} {m m' : Mem} {l' : ℕ} → Made ss 0 m m' l' → Made ss' 0 m m' l'
swap_none d = record { after = d.after; rest = omega (arith, d.rest) }

-- a whole block of a move moves the word
moved_slots : (c : ℕ) (T k t : List ℕ) (v : Move) (l : ℕ) {m' : Mem} {l' : ℕ} → 4 ≤ l
    → Made (stores_of (move c v.from v.to (get_or T v.from 0))) l (mem T k t) m' l' → m'.slots ≡ moved T v
moved_slots c T k t v (suc (suc (suc (suc l)))) h d = ap (λ (m : Mem). m.slots) (d.after ∙ all l)
  where
    all : (l : ℕ) → apply_all (take (suc (suc (suc (suc l)))) (stores_of (move c v.from v.to (get_or T v.from 0)))) (mem T k t)
        ≡ apply_all (stores_of (move c v.from v.to (get_or T v.from 0))) (mem T k t)
    all zero = refl
    all (suc l) = refl
moved_slots c T k t v zero h d = absurd (omega arith)
moved_slots c T k t v (suc zero) h d = absurd (omega arith)
moved_slots c T k t v (suc (suc zero)) h d = absurd (omega arith)
moved_slots c T k t v (suc (suc (suc zero))) h d = absurd (omega arith)

module _ (Y : Shape) where
  -- one move more: where it was cut short, nothing is left for those behind it
  move_on : (v : Move) (vs : List Move) (T T₁ k k₁ t : List ℕ) (l l₁ : ℕ) {m' : Mem} {l' : ℕ}
      → Made (stores_of (move_block Y T v)) l (mem T k t) (mem T₁ k₁ t) l₁
      → Made (stores (move_blocks Y T₁ vs)) l₁ (mem T₁ k₁ t) m' l'
      → Made (stores (move_blocks Y T (v ∷ vs))) l (mem T k t) m' l'
  unfolding stores
  move_on v vs T T₁ k k₁ t l l₁ {m'} {l'} d e =
      dite (dec_le 4 l)
      (λ h. made_append d (subst (λ U. Made (stores (move_blocks Y U vs)) l₁ (mem T₁ k₁ t) m' l') (moved_slots _ T k t v l h d) e))
      λ h. let z : l₁ ≡ 0 = omega (arith, d.rest) in
      made_append d (subst (λ n. Made (stores (move_blocks Y (moved T v) vs)) n (mem T₁ k₁ t) m' l') (sym z)
      (swap_none (subst (λ n. Made (stores (move_blocks Y T₁ vs)) n (mem T₁ k₁ t) m' l') z e)))

  no_moves : (T : List ℕ) {l : ℕ} {m : Mem} → Made (stores (move_blocks Y T [])) l m m l
  unfolding stores
  no_moves T = made_nil

-- the moves still to be made, from number j on
rest_on : (d : MoveRecord) (ms : List MoveRecord) (j : ℕ) → j < length ms
    → as_moves (drop j ms) ≡ as_move (get_or ms j d) ∷ as_moves (drop (j + 1) ms)
rest_on d ms j h = rw (add-one, drop-cons ms j d)

pub moves_step : (d : MoveRecord) (Y : Shape) (ms : List MoveRecord) (j : ℕ) → j < length ms → (T k T₁ k₁ t : List ℕ) (l l₁ : ℕ)
    → Made (stores_of (move_block Y T (as_move (get_or ms j d)))) l (mem T k t) (mem T₁ k₁ t) l₁ → (m' : Mem) (l' : ℕ)
    → Made (stores (move_blocks Y T₁ (as_moves (drop (j + 1) ms)))) l₁ (mem T₁ k₁ t) m' l'
    → Made (stores (move_blocks Y T (as_moves (drop j ms)))) l (mem T k t) m' l'
moves_step d Y ms j h T k T₁ k₁ t l l₁ one m' l' rest =
    rw (rest_on d ms j h) (move_on Y (as_move (get_or ms j d)) (as_moves (drop (j + 1) ms)) T T₁ k k₁ t l l₁ one rest)

-- one move, in the code's words
pub one_move : (n v shift : ℕ) (m : MoveRecord) {w c l l' : ℕ} (T k T₁ k₁ : List ℕ) → w ≡ get_or T m.from 0
    → c ≡ min (m.from / 2 ^ shift) (other_bucket n (w / 65536) (m.from / 2 ^ shift)) % v
    → ((t : List ℕ) → Made (stores_of (move c m.from m.to w)) l (mem T k t) (mem T₁ k₁ t) l')
    → (W : Ways) (p : ℕ) (t : List ℕ) → W.ways ≡ 2 ^ shift
    → Made (stores_of (move_block (shape W n v p) T (as_move m))) l (mem T k t) (mem T₁ k₁ t) l'
unfolding tag
one_move n v shift m {w} {c} {l} {l'} T k T₁ k₁ ew ec d W p t e =
    subst (λ y. Made (stores_of (move (min (m.from / W.ways) (other_bucket n (y / 65536) (m.from / W.ways)) % v) m.from m.to y)) l (mem T k t) (mem T₁ k₁ t) l') ew
    (subst (λ q. Made (stores_of (move (min (m.from / q) (other_bucket n (w / 65536) (m.from / q)) % v) m.from m.to w)) l (mem T k t) (mem T₁ k₁ t) l') (sym e)
    (subst (λ c. Made (stores_of (move c m.from m.to w)) l (mem T k t) (mem T₁ k₁ t) l') ec (d t)))

pub moves_done : (Y : Shape) (T : List ℕ) (ms : List MoveRecord) (j : ℕ) {l : ℕ} {m : Mem} → length ms ≤ j
    → Made (stores (move_blocks Y T (as_moves (drop j ms)))) l m m l
moves_done Y T ms j h = rw (drop_all j ms h) (no_moves Y T)
