-- Line by line: what is in the buffer and what is still to come stay the same. Assumes nothing.
use Prim.Native.Nat.{ℕ, ◌+◌, ◌-◌, ◌≤◌, ◌<◌}
use native.Mathlib.Omega.{arith}
use native.Mathlib.Numerals.{add-one}
use mathlib.Core.Path.{◌≡◌, refl, sym, ap, ap₂, ◌∙◌}
use mathlib.Core.Bool.{Bool}
use mathlib.Core.List.{List, ◌++◌, append_assoc}
use lib.ListN.{length, take, drop, length-append}
use lib.Seq.{take_at, length-take-le}
use Rattle.model.specs.Choice.{choose}
use Rattle.model.proofs.ListLaws.{bool}
use Rattle.buffer.specs.Put.{Put}
use Rattle.buffer.proofs.Putting.{put_is, put_length}
use Rattle.replay_words.specs.Words.{lines}
use Rattle.replay_words.specs.Cursor.{PieceAt, part}
use Rattle.replay_words.specs.declared.Piece.{Piece}
use Rattle.replay_loads.specs.Load.{Load, faulty, loading, loads, other}
use Rattle.replay_rows.specs.World.{Reply, World, longest_line}
use Rattle.replay_rows.specs.Replayed.{heard, missed_in, replayed, reply_to, unheard_by, unheard_line}
use Rattle.replay_steps.specs.Standing.{in_use, Held}
use Rattle.replay_steps.specs.declared.State.{State}
use Rattle.replay_reply.specs.Answered.{Answers}
use Rattle.replay_loop.specs.Going.{Went}

-- the bytes put stand behind those that were there
put_front : {bs out out' : List ℕ} {at r : ℕ} → Put bs at out out' r → at + length bs ≤ length out → take r out' ≡ take at out ++ bs
put_front {bs} {out} {out'} {at} {r} p h =
    let short : at ≤ length out = omega arith in
    let long : length (take at out ++ bs) ≡ r = omega (arith, length-append (take at out) bs, length-take-le at out short, p.next) in
    ap (take r) (put_is p h) ∙ take_at (take at out ++ bs) (drop (at + length bs) out) r long

-- a line is missed once, or it is understood
missed_by : (x : Load) → unheard_by x ≤ 1
missed_by other = omega arith
missed_by (faulty y) = omega arith
missed_by (loads r ws) = omega arith

missed_once : (l : List ℕ) → unheard_line l ≤ 1
unfolding unheard_line
missed_once l = bool (λ b. choose b 0 (unheard_by (loading l)) ≤ 1) (heard l) (λ _. omega arith) (λ _. missed_by (loading l))

-- the line at a position is answered first, and then those behind it
module _ {calls : List ℕ} {from : ℕ} {p : Piece} (piece : PieceAt calls from p) where
  answered_first : (e : Bool) (n : ℕ) (w : World) → replayed e n w (lines (drop from calls))
      ≡ (reply_to e (n + 1) w (part calls from p.end)).text
      ++ replayed e (n + 1) (reply_to e (n + 1) w (part calls from p.end)).world (lines (drop p.next calls))
  unfolding replayed
  answered_first e n w = rw (piece.first_line, add-one)

  missed_first : missed_in (lines (drop from calls)) ≡ unheard_line (part calls from p.end) + missed_in (lines (drop p.next calls))
  unfolding missed_in
  missed_first = rw piece.first_line

-- what is in use is so wherever the text is read
pub held_there : {slots counters items : List ℕ} {st : State} {from : ℕ} → Held slots counters items st
    → Held slots counters items (record st { from = from })
held_there k =
    record {
      all_slots = k.all_slots;
      all_counters = k.all_counters;
      all_items = k.all_items;
      slots_in = k.slots_in;
      counters_in = k.counters_in;
      items_in = k.items_in;
    }

module _ {e : Bool} {calls slots counters items out slots' counters' items' out' : List ℕ} {st r : State} where
  pub goes_on : {p : Piece} → PieceAt calls st.from p → st.at + longest_line ≤ length out → st.number ≤ st.from → st.missed ≤ st.number
      → Answers (reply_to e (st.number + 1) (in_use slots counters items st) (part calls st.from p.end)) (unheard_line (part calls st.from p.end))
      (record {
        slots = st.slots;
        counters = st.counters;
        items = st.items;
        hand = st.hand;
        number = st.number;
        missed = st.missed;
        from = p.next;
        at = st.at;
      }) r slots' counters' items' out out'
      → Went e calls slots counters items out st slots' counters' items' out' r
  goes_on {p} piece room few seldom a =
      let w : World = in_use slots counters items st in
      let y : Reply = reply_to e (st.number + 1) w (part calls st.from p.end) in
      let once : unheard_line (part calls st.from p.end) ≤ 1 = missed_once (part calls st.from p.end) in
      let fits : st.at + length y.text ≤ length out = omega (arith, a.put.next, a.near) in
      record {
        held = a.held;
        inside = omega (arith, a.same_from, piece.inside);
        counted = omega (arith, a.same_from, a.next_number, piece.goes_on);
        seldom = omega (arith, a.missed, a.next_number);
        onward = omega (arith, a.next_number);
        forward = omega (arith, a.same_from, a.next_number, piece.goes_on);
        few = omega (arith, a.near, a.next_number);
        long = put_length a.put;
        fits = omega (arith, a.near, put_length a.put);
        answered =
            ap₂ (λ (b c : List ℕ). b ++ c) (put_front a.put fits) (rw (a.next_number, a.same_from, a.world_is) refl)
            ∙ append_assoc (take st.at out) y.text (replayed e (st.number + 1) y.world (lines (drop p.next calls)))
            ∙ ap (λ (l : List ℕ). take st.at out ++ l) (sym (answered_first piece e st.number w));
        missed = omega (arith, a.missed, missed_first piece, ap (λ (k : ℕ). missed_in (lines (drop k calls))) a.same_from);
      }

  -- lines were answered, and then more: so all of these were answered
  pub went_more : {slots'' counters'' items'' out'' : List ℕ} {t : State} → Went e calls slots counters items out st slots' counters' items' out' r
      → Went e calls slots' counters' items' out' r slots'' counters'' items'' out'' t → Went e calls slots counters items out st slots'' counters'' items'' out'' t
  went_more a b =
      record {
        held = b.held;
        inside = b.inside;
        counted = b.counted;
        seldom = b.seldom;
        onward = omega (arith, a.onward, b.onward);
        forward = omega (arith, a.forward, b.forward);
        few = omega (arith, a.few, b.few);
        long = b.long ∙ a.long;
        fits = b.fits;
        answered = b.answered ∙ a.answered;
        missed = b.missed ∙ a.missed;
      }

-- no line yet: in an empty portion all is as it was
pub went_none : (e : Bool) {calls slots counters items : List ℕ} {st : State} (out : List ℕ) → Held slots counters items st → st.from < length calls
    → st.number ≤ st.from → st.missed ≤ st.number → st.at ≡ 0 → Went e calls slots counters items out st slots counters items out st
went_none e out k h few seldom z =
    record {
      held = k;
      inside = omega arith;
      counted = few;
      seldom = seldom;
      onward = omega arith;
      forward = omega arith;
      few = omega arith;
      long = refl;
      fits = omega arith;
      answered = refl;
      missed = refl;
    }

-- a portion that began empty is full: so at least one line was answered
module _ {e : Bool} {calls slots counters items out slots' counters' items' out' : List ℕ} {st r : State} (w : Went e calls slots counters items out st slots' counters' items' out' r) where
  pub full_forward : st.at ≡ 0 → longest_line ≤ length out → length out' - r.at < longest_line → st.from < r.from
  full_forward z h l = omega (arith, w.few, w.forward, w.long)
