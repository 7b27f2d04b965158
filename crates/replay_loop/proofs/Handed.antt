-- Portion by portion: what has gone out and what is still to come are the answers. Assumes nothing.
use Rattle.std.specs.Prelude.{Ok, Err}
use Prim.Native.Nat.{ℕ, ◌+◌, ◌*◌, ◌≤◌}
use native.Mathlib.Omega.{arith}
use mathlib.Core.Path.{◌≡◌, refl, sym, ap, ◌∙◌}
use mathlib.Core.Bool.{Bool}
use mathlib.Core.List.{List, [], ◌++◌, append_assoc, append-nil}
use lib.ListN.{length, take, drop, drop_of_length-le, length-append}
use lib.Seq.{take_at, drop_at, length-take-le}
use Rattle.replay_words.specs.Words.{lines, mark_length, without_mark}
use Rattle.replay_rows.specs.World.{longest_line}
use Rattle.replay_rows.specs.Replayed.{answers, missed, missed_in, replayed}
use Rattle.replay_steps.specs.Standing.{in_use, Held}
use Rattle.replay_steps.specs.declared.State.{State}
use Rattle.replay_loop.specs.Going.{coming, to_miss, Ended, Next, Went}
use Rattle.replay_loop.specs.declared.Replayed.{Replayed}

pub record Handed (e : Bool) (calls slots counters items records out : List ℕ) (st : State) (written : ℕ) : Type 0 where
  pub gone : List ℕ
  pub count : written ≡ length gone
  pub ahead : gone ++ coming e calls slots counters items st ≡ answers e calls
  pub held : Held slots counters items st
  pub empty : st.at ≡ 0
  pub inside : st.from ≤ length calls
  pub counted : st.number ≤ st.from
  pub seldom : st.missed ≤ st.number
  pub to_come : st.missed + to_miss calls st ≡ missed calls
  pub few : written ≤ longest_line * st.number
  pub records_long : length records ≡ 81920
  pub room : longest_line ≤ length out

pub handed_first : (e : Bool) {calls slots counters items records out : List ℕ} {m : ℕ} → length slots ≡ 8192 → length counters ≡ 1024 → length items ≡ 4096
    → length records ≡ 81920 → longest_line ≤ length out → m ≡ mark_length calls → m ≤ length calls
    → Handed e calls slots counters items records out (record { slots = 0; counters = 0; items = 0; hand = 0; number = 0; missed = 0; from = m; at = 0 }) 0
unfolding without_mark
handed_first e {calls} s v i b o q h =
    record {
      gone = [];
      count = refl;
      ahead = rw q;
      held = record { all_slots = s; all_counters = v; all_items = i; slots_in = omega arith; counters_in = omega arith; items_in = omega arith };
      empty = refl;
      inside = h;
      counted = omega arith;
      seldom = omega arith;
      to_come = omega (arith, ap (λ (k : ℕ). missed_in (lines (drop k calls))) q);
      few = omega arith;
      records_long = b;
      room = o;
    }

module _ {e : Bool} {calls slots counters items records out slots' counters' items' out' : List ℕ} {st full : State} {written : ℕ}
    (h : Handed e calls slots counters items records out st written) (w : Went e calls slots counters items out st slots' counters' items' out' full) where
  -- the portion is what comes first
  split : (h.gone ++ take full.at out') ++ coming e calls slots' counters' items' full ≡ answers e calls
  split =
      append_assoc h.gone (take full.at out') (coming e calls slots' counters' items' full)
      ∙ ap (λ (l : List ℕ). h.gone ++ l) (w.answered ∙ ap (λ (k : ℕ). take k out ++ coming e calls slots counters items st) h.empty)
      ∙ h.ahead

  next_bytes : take full.at out' ≡ take (length (take full.at out')) (drop written (answers e calls))
  next_bytes =
      let rest : drop written (answers e calls) ≡ take full.at out' ++ coming e calls slots' counters' items' full =
      ap (drop written) (sym split ∙ append_assoc h.gone (take full.at out') (coming e calls slots' counters' items' full))
      ∙ drop_at h.gone (take full.at out' ++ coming e calls slots' counters' items' full) written (sym h.count) in
      sym
      (ap (take (length (take full.at out'))) rest
      ∙ take_at (take full.at out') (coming e calls slots' counters' items' full) (length (take full.at out')) refl)

  next_few : length calls ≤ 2097152 → written + length (take full.at out') ≤ 618475290624
  next_few l = omega (arith, length-take-le full.at out' w.fits, w.few, h.few, h.empty, w.counted, w.inside)

  -- so the portion is the next bytes of the answers
  pub next_portion : length calls ≤ 2097152 → Next e calls written (take full.at out')
  next_portion l = record { bytes = next_bytes; few = next_few l }

  -- it is handed over, and the next begins
  pub handed_more : {r : ℕ} {records' : List ℕ} → length records' ≡ length records → r ≡ written + length (take full.at out')
      → Handed e calls slots' counters' items' records' out'
      (record {
        slots = full.slots;
        counters = full.counters;
        items = full.items;
        hand = full.hand;
        number = full.number;
        missed = full.missed;
        from = full.from;
        at = 0;
      }) r
  handed_more b q =
      record {
        gone = h.gone ++ take full.at out';
        count = omega (arith, q, h.count, length-append h.gone (take full.at out'));
        ahead = split;
        held = record {
          all_slots = w.held.all_slots;
          all_counters = w.held.all_counters;
          all_items = w.held.all_items;
          slots_in = w.held.slots_in;
          counters_in = w.held.counters_in;
          items_in = w.held.items_in;
        };
        empty = refl;
        inside = w.inside;
        counted = w.counted;
        seldom = w.seldom;
        to_come = w.missed ∙ h.to_come;
        few = omega (arith, q, length-take-le full.at out' w.fits, w.few, h.few, h.empty);
        records_long = b ∙ h.records_long;
        room = omega (arith, w.long, h.room);
      }

-- the text is at its end: all has gone out
pub handed_all : {E : Type 0} {e : Bool} {calls slots counters items records out : List ℕ} {st : State} {written : ℕ} {done : Replayed}
    → Handed e calls slots counters items records out st written → length calls ≤ st.from → done.bytes ≡ written → done.missed ≡ st.missed
    → Ended {E = E} e calls (Ok done)
unfolding replayed missed_in lines
handed_all {e} {calls} {slots} {counters} {items} {records} {out} {st} h l b m =
    let none : coming e calls slots counters items st ≡ [] =
    ap (λ (l : List ℕ). replayed e st.number (in_use slots counters items st) (lines l)) (drop_of_length-le calls l) in
    let no_more : to_miss calls st ≡ 0 = ap (λ (l : List ℕ). missed_in (lines l)) (drop_of_length-le calls l) in
    record {
      all = b ∙ h.count ∙ ap length (sym (append-nil h.gone) ∙ ap (λ (l : List ℕ). h.gone ++ l) (sym none) ∙ h.ahead);
      counted = omega (arith, m, h.to_come, no_more);
    }

-- a portion could not be written: of the answers nothing is said
pub handed_in_part : {E : Type 0} {e : Bool} {calls : List ℕ} {why : E} → Ended e calls (Err why)
handed_in_part = record { all = tt; counted = tt }
