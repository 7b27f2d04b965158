-- A dump, line by line: one law a way out of the code. Assumes nothing.
use Prim.Native.Nat.{ℕ, suc, ◌+◌, ◌-◌, ◌≤◌}
use native.Mathlib.Numerals.{add-one}
use native.Mathlib.Omega.{arith}
use mathlib.Core.Path.{◌≡◌, refl, sym, ap, subst, ◌∙◌}
use mathlib.Core.Bool.{Bool, true, false, not}
use mathlib.Core.List.{List, [], ◌∷◌}
use lib.ListN.{length, take, drop, length-drop}
use lib.Seq.{length-sets, sets}
use denote.Bor.{Bor}
use Rattle.std.specs.Prelude.{Option, Some, None, is_some, Result, Ok, Err}
use Rattle.std.specs.Iterator.{YieldsFirstRef}
use Rattle.std.proofs.lemmas.List.{take_rest}
use Rattle.model.specs.Memory.{Mem, mem}
use Rattle.replay_words.specs.Words.{is_end, joined, lines, mark_length, without_comment, without_mark, without_return, words}
use Rattle.replay_words.specs.declared.Words.{Words}
use Rattle.replay_lines.specs.Reasons.{reason_number}
use Rattle.replay_lines.specs.declared.Reason.{Reason}
use Rattle.replay_lines.specs.declared.Reason.TheVariants as reasons
use Rattle.replay_loads.specs.Load.{faulty, loading, other}
use Rattle.replay_loads.specs.Cursor.{Measures, PouredLine}
use Rattle.replay_loads.specs.declared.Measured.{Measured}
use Rattle.replay_loads.specs.declared.Measured.TheVariants as measures
use Rattle.replay_loads.specs.declared.Run.TheVariants as runs
use Rattle.replay_loads.proofs.Loads.{poured_front}
use Rattle.judge_program.specs.Dump.{Dump, dump_of, is_blank, none_there, unclear, whole, with_line, with_lines, with_load}
use Rattle.judge_program.specs.Standing.{Front, Fronts, Stands, Taken}
use Rattle.judge_program.specs.declared.Lengths.{Lengths}
use Rattle.judge_program.specs.declared.Unclear.{Unclear}

-- a line without words
no_first : (s t : Words) (o : Option (Bor (List ℕ))) → YieldsFirstRef (λ s. words s.0.now) s o t → not (is_some o) ≡ none_there (words s.0.now)
no_first s t None h = rw h.0 refl
no_first s t (Some w) h = rw h refl

turned : (b : Bool) {c : Bool} → c ≡ not b → b ≡ not c
turned true e = rw e refl
turned false e = rw e refl

pub blank_is : (line : List ℕ) (s t : Words) (o : Option (Bor (List ℕ))) {b : Bool} → s.0.now ≡ without_comment (without_return line)
    → YieldsFirstRef (λ s. words s.0.now) s o t → is_some o ≡ not b → b ≡ is_blank line
unfolding is_blank
blank_is line s t o {b} w h e = turned b e ∙ no_first s t o h ∙ rw w refl

-- whatever stands before a line, if all lines were understood
module _ (n : ℕ) (line : List ℕ) {slots counters items slots' counters' items' : List ℕ} {known : Lengths} {r : Result Lengths Unclear} where
  any_dump : ((m : Mem) → Fronts m slots counters items → known.slots ≡ length m.slots → known.counters ≡ length m.counters → known.items ≡ length m.items
      → Stands (with_load n m (loading line) (is_blank line)) slots' counters' items' r)
      → (d : Dump) → Stands d slots counters items (Ok known) → Stands (with_line n d line) slots' counters' items' r
  any_dump f (whole m) st = f m st.fronts st.measured_so.0 st.measured_so.1 st.measured_so.2
  any_dump f (unclear k y) st = absurd st.measured_so

  pub whole_taken : ((m : Mem) → Fronts m slots counters items → known.slots ≡ length m.slots → known.counters ≡ length m.counters → known.items ≡ length m.items
      → Stands (with_load n m (loading line) (is_blank line)) slots' counters' items' r)
      → Taken n line slots counters items known slots' counters' items' r
  whole_taken f = record { taken = any_dump f }

module _ (n : ℕ) (line : List ℕ) {slots counters items : List ℕ} {known : Lengths} {x : Measured} (e : Measures (loading line) x) where
  -- a line that loads no run and is blank leaves the lengths as they were
  pub blank_taken : {b : Bool} → x ≡ measures.Other → b ≡ is_blank line → b ≡ true
      → Taken n line slots counters items known slots counters items (Ok known)
  blank_taken q f t =
      let none : loading line ≡ other = rw q at e in
      whole_taken n line (λ m k es ev ei. rw (none, sym f ∙ t) (record { measured_so = (es, ev, ei); fronts = k }))

  -- one that is not blank has an unknown word
  pub strange_taken : {b : Bool} → x ≡ measures.Other → b ≡ is_blank line → b ≡ false
      → Taken n line slots counters items known slots counters items (Err (record { line = n; why = reasons.UnknownWord }))
  strange_taken q f t =
      let none : loading line ≡ other = rw q at e in
      whole_taken n line (λ m k es ev ei. rw (none, sym f ∙ t) (record { measured_so = (refl, refl); fronts = tt }))

  -- one that names a run and is not understood is told with its reason
  pub faulty_taken : {why : Reason} → x ≡ measures.Faulty why
      → Taken n line slots counters items known slots counters items (Err (record { line = n; why = why }))
  faulty_taken {why} q =
      let bad : loading line ≡ faulty (reason_number why) = rw q at e in
      whole_taken n line (λ m k es ev ei. rw bad (record { measured_so = (refl, refl); fronts = tt }))

-- a line that loads a run: its words stand in front of what is lent
poured : (ws lent lent' : List ℕ) → lent' ≡ sets lent 0 ws → Front ws lent'
poured ws lent lent' e h =
    let short : length ws ≤ length lent = omega (arith, ap length e, length-sets lent 0 ws) in
    ap (take (length ws)) e ∙ poured_front ws lent (length ws) refl short

module _ (n : ℕ) (line : List ℕ) {slots counters items : List ℕ} {count : ℕ} {known : Lengths} where
  pub loaded_slots : {slots' : List ℕ} → Measures (loading line) (measures.Loads runs.Slots count) → PouredLine 4294967295 line slots slots'
      → Taken n line slots counters items known slots' counters items (Ok (record known { slots = count }))
  loaded_slots {slots'} (ws, l, c) p =
      whole_taken n line
      (λ m k es ev ei.
      rw l
      (record { measured_so = (c, ev, ei); fronts = record { slots_front = poured ws slots slots' (p.poured 0 ws l refl); counters_front = k.counters_front; items_front = k.items_front } }))

  pub loaded_counters : {counters' : List ℕ} → Measures (loading line) (measures.Loads runs.Counters count) → PouredLine 4294967295 line counters counters'
      → Taken n line slots counters items known slots counters' items (Ok (record known { counters = count }))
  loaded_counters {counters'} (ws, l, c) p =
      whole_taken n line
      (λ m k es ev ei.
      rw l
      (record { measured_so = (es, c, ei); fronts = record { slots_front = k.slots_front; counters_front = poured ws counters counters' (p.poured 1 ws l refl); items_front = k.items_front } }))

  pub loaded_items : {items' : List ℕ} → Measures (loading line) (measures.Loads runs.Items count) → PouredLine 18446744073709551615 line items items'
      → Taken n line slots counters items known slots counters items' (Ok (record known { items = count }))
  loaded_items {items'} (ws, l, c) p =
      whole_taken n line
      (λ m k es ev ei.
      rw l
      (record { measured_so = (es, ev, c); fronts = record { slots_front = k.slots_front; counters_front = k.counters_front; items_front = poured ws items items' (p.poured 2 ws l refl) } }))

-- by what stood before it
module _ (n : ℕ) (line : List ℕ) {slots counters items : List ℕ} where
  -- lengths: the dump that has them stands with the line as it was taken
  pub as_whole : {r : Result Lengths Unclear} {slots' counters' items' : List ℕ} {known : Lengths} {r' : Result Lengths Unclear} → r ≡ Ok known
      → Taken n line slots counters items known slots' counters' items' r'
      → (d : Dump) → Stands d slots counters items r → Stands (with_line n d line) slots' counters' items' r'
  as_whole e t d st = t.taken d (rw e at st)

  one_unclear : {at : Unclear} (d : Dump) → Stands d slots counters items (Err at) → Stands (with_line n d line) slots counters items (Err at)
  one_unclear (whole m) st = absurd st.measured_so
  one_unclear (unclear k y) st = st

  -- a line that is not understood: it is told still, whatever stands behind it
  pub as_unclear : {r : Result Lengths Unclear} {at : Unclear} → r ≡ Err at
      → (d : Dump) → Stands d slots counters items r → Stands (with_line n d line) slots counters items (Err at)
  as_unclear e d st = one_unclear d (rw e at st)

-- n lines were understood, and with the rest they make the dump
pub record Reading (text slots counters items : List ℕ) (rest : List (List ℕ)) (n : ℕ) (known : Lengths) : Type 0 where
  pub so_far : Dump
  pub stands : Stands so_far slots counters items (Ok known)
  pub ahead : with_lines n so_far rest ≡ dump_of text

-- no text has more lines than bytes
one_more : (b : Bool) (c : ℕ) (ls : List (List ℕ)) → length (joined b c ls) ≤ suc (length ls)
one_more true c ls = omega arith
one_more false c [] = omega arith
one_more false c (l ∷ ls) = omega arith

lines_few : (bs : List ℕ) → length (lines bs) ≤ length bs
unfolding lines
lines_few [] = omega arith
lines_few (b ∷ bs) = omega (arith, one_more (is_end b) b (lines bs), lines_few bs)

pub rest_few : (text : List ℕ) (from : ℕ) → length (lines (take (length text - from) (drop from text))) ≤ length text
rest_few text from = rw (take_rest text from) (omega (arith, lines_few (drop from text), length-drop from text))

pub read_first : (slots counters items : List ℕ) {text : List ℕ} {from : ℕ} {rest : List (List ℕ)} {n : ℕ} → from ≡ mark_length text
    → rest ≡ lines (take (length text - from) (drop from text)) → n ≡ 0 → Reading text slots counters items rest n (record { slots = 0; counters = 0; items = 0 })
unfolding dump_of without_mark
read_first slots counters items {text} {from} e r z =
    record {
      so_far = whole (mem [] [] []);
      stands = record { measured_so = (refl, refl, refl); fronts = record { slots_front = λ _. refl; counters_front = λ _. refl; items_front = λ _. refl } };
      ahead = rw (r, take_rest text from, e, z);
    }

-- nothing counts behind a line that is not understood
still_unclear : (n k y : ℕ) (ls : List (List ℕ)) → with_lines n (unclear k y) ls ≡ unclear k y
unfolding with_lines
still_unclear n k y [] = refl
still_unclear n k y (l ∷ ls) = still_unclear (suc n) k y ls

all_behind : (d : Dump) {slots counters items : List ℕ} {at : Unclear} (n : ℕ) (ls : List (List ℕ)) → Stands d slots counters items (Err at) → with_lines n d ls ≡ d
all_behind (whole m) n ls st = absurd st.measured_so
all_behind (unclear k y) n ls st = still_unclear n k y ls

module _ {text slots counters items : List ℕ} {rest : List (List ℕ)} {n : ℕ} {known : Lengths} (a : Reading text slots counters items rest n known) where
  module _ {line slots' counters' items' : List ℕ} {behind : List (List ℕ)} {i : ℕ} {r : Result Lengths Unclear} (q : rest ≡ line ∷ behind) (e : i ≡ n)
      (t : Taken (i + 1) line slots counters items known slots' counters' items' r) where
    next_line : with_lines (i + 1) (with_line (i + 1) a.so_far line) behind ≡ dump_of text
    unfolding with_lines
    next_line =
        let first : with_lines n a.so_far rest ≡ with_lines (i + 1) (with_line (i + 1) a.so_far line) behind = rw (q, e, add-one) in
        sym first ∙ a.ahead

    -- a line more
    pub read_more : {n' : ℕ} {known' : Lengths} → n' ≡ n + 1 → r ≡ Ok known' → Reading text slots' counters' items' behind n' known'
    read_more u w =
        record {
          so_far = with_line (i + 1) a.so_far line;
          stands = subst (λ (x : Result Lengths Unclear). Stands (with_line (i + 1) a.so_far line) slots' counters' items' x) w (t.taken a.so_far a.stands);
          ahead = rw (u, ← e) next_line;
        }

    -- the first that is not understood
    pub read_unclear : {at : Unclear} → r ≡ Err at → Stands (dump_of text) slots' counters' items' (Err at)
    read_unclear {at} w =
        let st : Stands (with_line (i + 1) a.so_far line) slots' counters' items' (Err at) =
        subst (λ (x : Result Lengths Unclear). Stands (with_line (i + 1) a.so_far line) slots' counters' items' x) w (t.taken a.so_far a.stands) in
        let e : with_line (i + 1) a.so_far line ≡ dump_of text = sym (all_behind (with_line (i + 1) a.so_far line) (i + 1) behind st) ∙ next_line in
        subst (λ (d : Dump). Stands d slots' counters' items' (Err at)) e st

  pub read_end : rest ≡ [] → Stands (dump_of text) slots counters items (Ok known)
  unfolding with_lines
  read_end h =
      let e : a.so_far ≡ dump_of text = rw h at a.ahead in
      subst (λ (d : Dump). Stands d slots counters items (Ok known)) e a.stands
