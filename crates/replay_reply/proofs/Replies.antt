-- One line and its reply: one law a way out of the code. Assumes nothing.
use Prim.Native.Nat.{ℕ, ◌+◌, ◌≤◌, ◌<◌}
use native.Mathlib.Omega.{arith}
use mathlib.Core.Path.{◌≡◌, refl, ap, subst, ◌∙◌}
use mathlib.Core.Bool.{Bool, true}
use mathlib.Core.List.{List, [], ◌∷◌, ◌++◌}
use Rattle.std.specs.Prelude.{Result, Ok, Err, is_ok}
use lib.ListN.{length, get_or, take}
use lib.Seq.{sets}
use borrow.Author.Tests.{le-leb, le-ltb, lt-leb, lt-ltb}
use Rattle.model.specs.Answers.{refused}
use Rattle.buffer.specs.Put.{Put}
use Rattle.buffer.proofs.Putting.{put_both}
use Rattle.replay_words.specs.Words.{lines}
use Rattle.replay_print.specs.Text.{bytes}
use Rattle.replay_print.specs.Print.{line as line_of}
use Rattle.replay_lines.specs.Line.{said}
use Rattle.replay_lines.specs.Reasons.{reason_number}
use Rattle.replay_lines.specs.declared.Reason.{Reason}
use Rattle.replay_loads.specs.Load.{Load, faulty, loading, loads, other}
use Rattle.replay_loads.specs.Cursor.{Measures, PouredLine}
use Rattle.replay_loads.specs.declared.Measured.{Measured}
use Rattle.replay_loads.specs.declared.Measured.TheVariants as measures
use Rattle.replay_loads.proofs.Loads.{poured_front}
use Rattle.replay_answers.specs.Text.{not_understood, text}
use Rattle.replay_rows.specs.World.{World, longest_call, longest_line}
use Rattle.replay_rows.specs.Meaning.{says}
use Rattle.replay_rows.specs.Rows.{meaning_of, row_number, Numbers}
use Rattle.replay_rows.specs.declared.NoRow.{NoRow}
use Rattle.replay_rows.specs.declared.Row.{Row}
use Rattle.replay_rows.specs.Loaded.{loads_run, room_of, shown_load}
use Rattle.replay_rows.specs.Replayed.{follows, language, numbers_of, reply_by, reply_to, shown, unheard_by, unheard_line}
use Rattle.replay_steps.specs.Standing.{in_use, Held, Stepped}
use Rattle.replay_steps.specs.declared.State.{State}
use Rattle.replay_reply.specs.Answered.{Answers, Behind, Replaced}

-- a row by its number
pub named : (n : ℕ) (r : Result Row NoRow) → Numbers n r → n < 21 → is_ok r ≡ true
named n (Ok k) h l = refl
named n (Err e) h l = absurd (omega (arith, h.1))

pub is_named : {n : ℕ} {r : Result Row NoRow} {k : Row} → Numbers n r → r ≡ Ok k → row_number k ≡ n
is_named h q = rw q at h

-- a call, by the row that the line follows
module _ (e : Bool) (slots counters items : List ℕ) {slots' counters' items' out middle out' : List ℕ} {st r : State} where
  pub call_made : (row : ℕ) (xs : List ℕ) (k : Row) {at : ℕ} → row_number k ≡ row → Put (shown e (st.number + 1) row xs) st.at out middle at → at ≤ st.at + longest_call
      → Stepped (meaning_of (Ok k) (st.number + 1) xs (in_use slots counters items st))
      (record {
        slots = st.slots;
        counters = st.counters;
        items = st.items;
        hand = st.hand;
        number = st.number + 1;
        missed = st.missed;
        from = st.from;
        at = at;
      }) r slots' counters' items' middle out'
      → Answers (follows e (st.number + 1) row xs (in_use slots counters items st)) 0 st r slots' counters' items' out out'
  call_made row xs k q t near s' =
      let s = rw q at s' in
      record {
        put = put_both t s.put;
        near = omega (arith, s.near);
        world_is = s.world_is;
        held = s.held;
        next_number = s.same_number;
        same_from = s.same_from;
        missed = omega (arith, s.same_missed);
      }

-- the language has 21 rows
pub rows_counted : length (lines language) ≡ 21
unfolding lines
rows_counted = refl

module _ (e : Bool) (n : ℕ) (w : World) (line : List ℕ) {slots counters items out out' : List ℕ} {st r : State} where
  -- a line that follows a row
  pub as_heard : {row : ℕ} {xs : List ℕ} → row < length (lines language) → row ≡ (said language line).row → xs ≡ numbers_of line
      → Answers (follows e n row xs w) 0 st r slots counters items out out' → Answers (reply_to e n w line) (unheard_line line) st r slots counters items out out'
  unfolding reply_to unheard_line
  as_heard {row} h er ex a =
      let few : (said language line).row < 21 = omega (arith, rows_counted) in
      rw (lt-ltb (said language line).row 21 few)
      (subst (λ (m : ℕ). Answers (follows e n m (numbers_of line) w) 0 st r slots counters items out out') er
      (subst (λ (ys : List ℕ). Answers (follows e n row ys w) 0 st r slots counters items out out') ex a))

  -- and one that follows none
  pub as_beside : (why : ℕ) → said language line ≡ record { row = length (lines language); numbers = why ∷ [] }
      → Answers (reply_by (loading line) e n w line) (unheard_by (loading line)) st r slots counters items out out'
      → Answers (reply_to e n w line) (unheard_line line) st r slots counters items out out'
  unfolding reply_to unheard_line
  as_beside why none a =
      let past : 21 ≤ (said language line).row = omega (arith, ap (λ s. s.row) none, rows_counted) in
      rw (le-ltb (said language line).row 21 past) a

-- its first number says why
pub reason_is : (line : List ℕ) (why : ℕ) → said language line ≡ record { row = length (lines language); numbers = why ∷ [] } → why ≡ get_or (numbers_of line) 0 0
reason_is line why none = rw none refl

by_load : (e : Bool) (n : ℕ) (w : World) (line : List ℕ) {slots counters items out out' : List ℕ} {st r : State} (x : Load) → loading line ≡ x
    → Answers (reply_by x e n w line) (unheard_by x) st r slots counters items out out'
    → Answers (reply_by (loading line) e n w line) (unheard_by (loading line)) st r slots counters items out out'
by_load e n w line x q a = rw q a

-- what stands behind one line more is held as before it
pub held_behind : {slots counters items : List ℕ} {st here : State} {at u : ℕ} → Held slots counters items st → Behind st at u here → Held slots counters items here
held_behind k b =
    record {
      all_slots = k.all_slots;
      all_counters = k.all_counters;
      all_items = k.all_items;
      slots_in = omega (arith, k.slots_in, b.same_slots);
      counters_in = omega (arith, k.counters_in, b.same_counters);
      items_in = omega (arith, k.items_in, b.same_items);
    }

-- only a text is put
module _ {slots counters items out out' : List ℕ} {st r : State} (k : Held slots counters items st) where
  said_only : (y : List ℕ) (u : ℕ) {at : ℕ} → Put y st.at out out' at → at ≤ st.at + longest_line → Behind st at u r
      → Answers (says y (in_use slots counters items st)) u st r slots counters items out out'
  said_only y u p near b =
      record {
        put = rw b.filled p;
        near = omega (arith, b.filled);
        world_is = rw (b.same_slots, b.same_counters, b.same_items, b.same_hand);
        held = held_behind k b;
        next_number = b.next_number;
        same_from = b.same_from;
        missed = b.missed;
      }

  pub as_other : (e : Bool) (line : List ℕ) {m : Measured} {y at : ℕ} → Measures (loading line) m → m ≡ measures.Other → y ≡ get_or (numbers_of line) 0 0
      → Put (not_understood (st.number + 1) y) st.at out out' at → at ≤ st.at + 384 → Behind st at 1 r
      → Answers (reply_by (loading line) e (st.number + 1) (in_use slots counters items st) line) (unheard_by (loading line)) st r slots counters items out out'
  as_other e line {y = y} f q v p near b =
      by_load e (st.number + 1) (in_use slots counters items st) line other (rw q at f)
      (rw (← v) (said_only (not_understood (st.number + 1) y) 1 p (omega arith) b))

  pub as_faulty : (e : Bool) (line : List ℕ) {m : Measured} {why : Reason} {at : ℕ} → Measures (loading line) m → m ≡ measures.Faulty why
      → Put (not_understood (st.number + 1) (reason_number why)) st.at out out' at → at ≤ st.at + 384 → Behind st at 1 r
      → Answers (reply_by (loading line) e (st.number + 1) (in_use slots counters items st) line) (unheard_by (loading line)) st r slots counters items out out'
  as_faulty e line {why = why} f q p near b =
      by_load e (st.number + 1) (in_use slots counters items st) line (faulty (reason_number why)) (rw q at f)
      (said_only (not_understood (st.number + 1) (reason_number why)) 1 p (omega arith) b)

  -- a run that is too long
  pub load_refused : (e : Bool) (line : List ℕ) {middle ws : List ℕ} {n count room at end : ℕ} → loading line ≡ loads n ws → count ≡ length ws → room ≡ room_of n
      → room < count → Put (shown_load e (st.number + 1) n) st.at out middle at → at ≤ st.at + longest_call → Put (text (refused 1)) at middle out' end
      → end ≤ at + 384 → Behind st end 0 r
      → Answers (reply_by (loading line) e (st.number + 1) (in_use slots counters items st) line) (unheard_by (loading line)) st r slots counters items out out'
  unfolding loads_run
  load_refused e line {ws = ws} {n = n} l c v h t near p close b =
      let long : room_of n < length ws = omega arith in
      by_load e (st.number + 1) (in_use slots counters items st) line (loads n ws) l
      (rw (lt-leb (length ws) (room_of n) long) (said_only (shown_load e (st.number + 1) n ++ text (refused 1)) 0 (put_both t p) (omega arith) b))

-- the words of a line, in their run
in_front : (line : List ℕ) {n count : ℕ} (before after ws xs : List ℕ) → loading line ≡ loads n xs → count ≡ length xs → loading line ≡ loads n ws
    → after ≡ sets before 0 ws → count ≤ length before → take count after ≡ ws
in_front line {n} {count} before after ws xs k c l p short =
    let same : xs ≡ ws = cc in
    ap (take count) p ∙ poured_front ws before count (c ∙ ap length same) short

module _ (line : List ℕ) {slots counters items : List ℕ} {st : State} {count : ℕ} (k : Held slots counters items st) {xs : List ℕ} where
  pub replaced_slots : {slots' : List ℕ} → loading line ≡ loads 0 xs → count ≡ length xs → count ≤ 8192 → PouredLine 4294967295 line slots slots'
      → length slots' ≡ length slots → Replaced line 0 slots counters items st (record st { slots = count }) slots' counters items
  replaced_slots {slots'} x c h p long =
      record {
        world_is = λ ws l. rw (in_front line slots slots' ws xs x c l (p.poured 0 ws l refl) (omega (arith, k.all_slots))) refl;
        held = record {
          all_slots = long ∙ k.all_slots;
          all_counters = k.all_counters;
          all_items = k.all_items;
          slots_in = h;
          counters_in = k.counters_in;
          items_in = k.items_in;
        };
        same_at = refl;
        same_number = refl;
        same_from = refl;
        same_missed = refl;
      }

  pub replaced_counters : {counters' : List ℕ} → loading line ≡ loads 1 xs → count ≡ length xs → count ≤ 1024 → PouredLine 4294967295 line counters counters'
      → length counters' ≡ length counters → Replaced line 1 slots counters items st (record st { counters = count }) slots counters' items
  replaced_counters {counters'} x c h p long =
      record {
        world_is = λ ws l. rw (in_front line counters counters' ws xs x c l (p.poured 1 ws l refl) (omega (arith, k.all_counters))) refl;
        held = record {
          all_slots = k.all_slots;
          all_counters = long ∙ k.all_counters;
          all_items = k.all_items;
          slots_in = k.slots_in;
          counters_in = h;
          items_in = k.items_in;
        };
        same_at = refl;
        same_number = refl;
        same_from = refl;
        same_missed = refl;
      }

  pub replaced_items : {items' : List ℕ} → loading line ≡ loads 2 xs → count ≡ length xs → count ≤ 4096 → PouredLine 18446744073709551615 line items items'
      → length items' ≡ length items → Replaced line 2 slots counters items st (record st { items = count }) slots counters items'
  replaced_items {items'} x c h p long =
      record {
        world_is = λ ws l. rw (in_front line items items' ws xs x c l (p.poured 2 ws l refl) (omega (arith, k.all_items))) refl;
        held = record {
          all_slots = k.all_slots;
          all_counters = k.all_counters;
          all_items = long ∙ k.all_items;
          slots_in = k.slots_in;
          counters_in = k.counters_in;
          items_in = h;
        };
        same_at = refl;
        same_number = refl;
        same_from = refl;
        same_missed = refl;
      }

-- a run that is loaded
pub load_made : (e : Bool) (slots counters items line : List ℕ) {slots' counters' items' out middle out' ws : List ℕ} {st here r : State} {n count room at end : ℕ}
    → loading line ≡ loads n ws → count ≡ length ws → room ≡ room_of n → count ≤ room → Put (shown_load e (st.number + 1) n) st.at out middle at
    → at ≤ st.at + longest_call → Put (line_of (bytes "loaded")) at middle out' end → Behind st end 0 here
    → Replaced line n slots counters items here r slots' counters' items'
    → Answers (reply_by (loading line) e (st.number + 1) (in_use slots counters items st) line) (unheard_by (loading line)) st r slots' counters' items' out out'
unfolding loads_run
load_made e slots counters items line {ws = ws} {st = st} {n = n} l c v h t near p b x =
    let short : length ws ≤ room_of n = omega arith in
    by_load e (st.number + 1) (in_use slots counters items st) line (loads n ws) l
    (rw (le-leb (length ws) (room_of n) short)
    (record {
      put = rw (x.same_at ∙ b.filled) (put_both t p);
      near = omega (arith, x.same_at, b.filled, p.next);
      world_is = x.world_is ws l ∙ rw (b.same_slots, b.same_counters, b.same_items, b.same_hand);
      held = x.held;
      next_number = x.same_number ∙ b.next_number;
      same_from = x.same_from ∙ b.same_from;
      missed = x.same_missed ∙ b.missed;
    }))
