-- The moves back: what holds each time round the loop over the levels. Assumes nothing.
use Prim.Native.Nat.{ℕ, zero, suc, ◌+◌, ◌-◌, ◌*◌, ◌/◌, ◌%◌, ◌<◌, ◌≤◌}
use native.Mathlib.Nat.{div-le_self}
use native.Mathlib.Omega.{arith}
use mathlib.Core.Path.{◌≡◌, refl, sym, ap, ◌∙◌}
use mathlib.Core.Logic.{◌⊎◌, inl, inr, ⊎_elim}
use mathlib.Core.List.{List, [], ◌∷◌, ◌++◌, append-nil}
use lib.ListN.{length, get_or, set, replicate, length-append}
use lib.Seq.{append_snoc, set_at}
use borrow.Author.Tests.{lt-ltb, le-ltb}
use Rattle.model.specs.Memory.{tag}
use Rattle.model.specs.Shape.{Layout, Ways, four}
use Rattle.model.specs.Moves.{Move, no_move, recorded, records_of}
use Rattle.model.proofs.Records.{length_records}
use Rattle.model.specs.Visits.{climb, lands}
use Rattle.model.specs.declared.MoveRecord.{MoveRecord}
use Rattle.paths.specs.declared.Found.{Found}
use Rattle.paths.specs.Buckets.{layout_of}
use Rattle.paths.specs.Path.{room_from}

-- the records of moves, one list after the other
records_append : (T : List ℕ) (xs ys : List Move) → records_of T (xs ++ ys) ≡ records_of T xs ++ records_of T ys
records_append T [] ys = refl
records_append T (x ∷ xs) ys = ap (λ (l : List MoveRecord). recorded T x ∷ l) (records_append T xs ys)

lands_last : (i : ℕ) (ms : List Move) (m : Move) → lands i (ms ++ (m ∷ [])) ≡ m.from
lands_last i [] m = refl
lands_last i (x ∷ ms) m = lands_last x.from ms m

-- the moves back from position q look at no later position
climb_same : (S : Layout) (Q Q' : List ℕ) (h f q r : ℕ) → ((p : ℕ) → p ≤ q → get_or Q p 0 ≡ get_or Q' p 0) → climb S Q h f q r ≡ climb S Q' h f q r
unfolding climb
climb_same S Q Q' h zero q r e = refl
climb_same S Q Q' h (suc f) q r e =
    let low : (q - h) / S.ways ≤ q = omega (arith, div-le_self (q - h) S.ways) in
    rw (e q (omega arith), e ((q - h) / S.ways) low, climb_same S Q Q' h f ((q - h) / S.ways) ((q - h) % S.ways) (λ p l. e p (omega arith)))

pub room_same : (W : Ways) (n : ℕ) (T Q Q' : List ℕ) (v s : ℕ) → ((p : ℕ) → p ≤ v → get_or Q p 0 ≡ get_or Q' p 0)
    → room_from W n T Q v s ≡ room_from W n T Q' v s
room_same W n T Q Q' v s e = rw (e v (omega arith), climb_same (layout_of W n) Q Q' 2 W.reach v s e)

-- back from slot s of the bucket at position v
module _ (T Q : List ℕ) (v s : ℕ) where
  -- some moves are made out, and those that are left from position `at`, whose slot `to` is to be free, complete the path
  pub record Back (moves : List MoveRecord) (count at to : ℕ) : Type 0 where
    pub few : count ≤ 4
    pub under : at ≤ v
    pub by : ℕ
    pub here : to ≡ get_or Q at 0 * 4 + by
    pub gone : List Move
    pub long : length gone ≡ count
    pub row : moves ≡ records_of T gone ++ replicate (4 - count) no_move
    pub whole : (n : ℕ) → gone ++ climb (layout_of four n) Q 2 (4 - count) at by ≡ climb (layout_of four n) Q 2 4 v s
    pub freed : lands (get_or Q v 0 * 4 + s) gone ≡ to

  done : (n f q i : ℕ) → (f ≡ 0) ⊎ (q < 2) → climb (layout_of four n) Q 2 f q i ≡ []
  unfolding climb
  done n zero q i e = refl
  done n (suc f) q i e = ⊎_elim (λ z. absurd (omega arith)) (λ l. rw (lt-ltb q 2 l)) e

  module _ {moves : List MoveRecord} {count at to : ℕ} (b : Back moves count at to) where
    pub back_goes : {from : ℕ} → count < 4 → 2 ≤ at → from ≡ get_or Q ((at - 2) / 4) 0 * 4 + (at - 2) % 4
        → Back (set moves count (record { from = from; tag = get_or T from 0 / 65536; to = to })) (count + 1) ((at - 2) / 4) from
    unfolding climb tag
    back_goes {from} h k e =
        let more : 4 - count ≡ suc (4 - (count + 1)) = omega arith in
        let low : (at - 2) / 4 ≤ at - 2 = div-le_self (at - 2) 4 in
        let y : Move = record { from = from; to = to } in
        let rest : List MoveRecord = replicate (4 - (count + 1)) no_move in
        record {
          few = omega arith;
          under = omega (arith, b.under);
          by = (at - 2) % 4;
          here = e;
          gone = b.gone ++ (y ∷ []);
          long = length-append b.gone (y ∷ []) ∙ rw b.long;
          row =
              rw (b.row, more)
              (set_at (records_of T b.gone) no_move rest (recorded T y) count (length_records T b.gone ∙ b.long)
              ∙ sym (append_snoc (records_of T b.gone) (recorded T y) rest)
              ∙ ap (λ (l : List MoveRecord). l ++ rest) (sym (records_append T b.gone (y ∷ []))));
          whole = λ n. append_snoc b.gone y (climb (layout_of four n) Q 2 (4 - (count + 1)) ((at - 2) / 4) ((at - 2) % 4))
              ∙ rw (e, b.here) (rw (more, le-ltb at 2 k) at (b.whole n));
          freed = lands_last (get_or Q v 0 * 4 + s) b.gone y;
        }

    pub back_ends : (4 ≤ count) ⊎ (at < 2) → (n : ℕ)
        → ◌≡◌ {A = Found} (record { visits = v + 1; count = count; moves = moves; slot = to }) (room_from four n T Q v s)
    back_ends e n =
        let none : climb (layout_of four n) Q 2 (4 - count) at b.by ≡ []
        = done n (4 - count) at b.by (⊎_elim (λ l. inl (omega arith)) (λ l. inr l) e) in
        let all : climb (layout_of four n) Q 2 4 v s ≡ b.gone = sym (b.whole n) ∙ rw none (append-nil b.gone) in
        rw (all, length_records T b.gone, b.long, b.freed, b.row)
