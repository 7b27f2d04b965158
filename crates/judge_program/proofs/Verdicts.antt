-- What is told of a dump. Assumes nothing.
use Prim.Native.Nat.{ℕ, ◌+◌, ◌%◌, ◌≤◌}
use native.Mathlib.Decide.{dec_lt}
use native.Mathlib.Omega.{arith}
use mathlib.Core.Path.{◌≡◌, refl, sym, ap, ◌∙◌}
use mathlib.Core.Logic.{dite}
use mathlib.Core.Bool.{◌&&◌}
use Rattle.std.specs.Prelude.{Option, Some, None, Result, Ok, Err}
use mathlib.Core.List.{List}
use lib.ListN.{length, take}
use lib.Seq.{length-take-le}
use lib.Dec.{eqb, leb}
use borrow.Author.Tests.{leb-true, not-false}
use Rattle.model.specs.Choice.{first, range}
use Rattle.model.specs.Memory.{mem}
use Rattle.model.specs.Shape.{four, good_counters, good_items, good_slots}
use Rattle.model.proofs.ListLaws.{true_false}
use Rattle.model.proofs.Lent.{and_is}
use Rattle.hashing.proofs.OneBit.{long_length}
use Rattle.buffer.specs.Put.{Put}
use Rattle.judgement.specs.Conditions.{is_misshapen}
use Rattle.judgement.specs.Verdict.{judgement}
use Rattle.judgement.specs.Said.{said}
use Rattle.judgement.specs.declared.Broken.{Broken}
use Rattle.judgement.specs.declared.Condition.TheVariants as conditions
use Rattle.judgement.proofs.Counting.{none_range}
use Rattle.judging.proofs.InTurn.{by_one}
use Rattle.replay_loads.proofs.Loads.{poured_front}
use Rattle.replay_lines.specs.Reasons.{reason_number}
use Rattle.replay_answers.specs.Text.{judged, not_understood}
use Rattle.judge_program.specs.Dump.{Dump, dump_of, told, unclear, whole}
use Rattle.judge_program.specs.Standing.{Judged, Stands, Told}
use Rattle.judge_program.specs.declared.Lengths.{Lengths}
use Rattle.judge_program.specs.declared.Unclear.{Unclear}

-- good lengths fit what is lent
module _ (s v i : ℕ) {b : Option ℕ} (e : b ≡ first (is_misshapen four s v i) (range 0 3)) (q : b ≡ None) where
  nowhere : first (is_misshapen four s v i) (range 0 3) ≡ None
  nowhere = sym e ∙ q

  slots_short : s ≤ 8192
  unfolding is_misshapen
  slots_short =
      dite (dec_lt 8192 s) (λ h. true_false (not-false (good_slots four s) (none_range (is_misshapen four s v i) 3 nowhere 0 (omega arith))) (sym (long_length s h)))
      (λ h. omega arith)

  counters_short : v ≤ 1024
  unfolding is_misshapen good_counters
  counters_short =
      let g = and_is (leb 1 v) (leb v 1024) (not-false (leb 1 v && leb v 1024) (none_range (is_misshapen four s v i) 3 nowhere 1 (omega arith))) in
      leb-true v 1024 g.1

  items_short : i ≤ 16384
  unfolding is_misshapen good_items
  items_short =
      let g = and_is (eqb (i % 4) 0) (leb 4 i && leb i 16384)
      (not-false (eqb (i % 4) 0 && (leb 4 i && leb i 16384)) (none_range (is_misshapen four s v i) 3 nowhere 2 (omega arith))) in
      leb-true i 16384 (and_is (leb 4 i) (leb i 16384) g.1).1

  -- so their fronts have these lengths
  pub slots_front : (slots : List ℕ) → length slots ≡ 8192 → s ≡ length (take s slots)
  slots_front slots h = sym (length-take-le s slots (omega (arith, slots_short)))

  pub counters_front : (counters : List ℕ) → length counters ≡ 1024 → v ≡ length (take v counters)
  counters_front counters h = sym (length-take-le v counters (omega (arith, counters_short)))

  pub items_front : (items : List ℕ) → length items ≡ 16384 → i ≡ length (take i items)
  items_front items h = sym (length-take-le i items (omega (arith, items_short)))

-- a wrong length is the verdict, and else that of the fronts
module _ (slots counters items : List ℕ) {known : Lengths} {b : Option ℕ} (e : b ≡ first (is_misshapen four known.slots known.counters known.items) (range 0 3)) where
  pub wrong_length : {at : ℕ} → b ≡ Some at → Judged slots counters items known (Err (record { condition = conditions.Lengths; at = at }))
  wrong_length {at} q =
      record {
        judged = λ m st.
            let wrong : b ≡ first (is_misshapen four (length m.slots) (length m.counters) (length m.items)) (range 0 3) = rw (← st.measured_so.0, ← st.measured_so.1, ← st.measured_so.2) e in
            by_one m wrong {x = record { condition = conditions.Lengths; at = at }} (rw q refl);
      }

  pub judged_fronts : {r : Result Unit Broken} → length slots ≡ 8192 → length counters ≡ 1024 → length items ≡ 16384 → b ≡ None
      → said r ≡ judgement four (mem (take known.slots slots) (take known.counters counters) (take known.items items)) → Judged slots counters items known r
  judged_fronts {r} a c d q f =
      record {
        judged = λ m st.
            let short_slots : length m.slots ≤ length slots = omega (arith, slots_short known.slots known.counters known.items e q, st.measured_so.0) in
            let short_counters : length m.counters ≤ length counters = omega (arith, counters_short known.slots known.counters known.items e q, st.measured_so.1) in
            let short_items : length m.items ≤ length items = omega (arith, items_short known.slots known.counters known.items e q, st.measured_so.2) in
            f ∙ rw (st.measured_so.0, st.measured_so.1, st.measured_so.2, st.fronts.slots_front short_slots, st.fronts.counters_front short_counters, st.fronts.items_front short_items) refl;
      }

-- what is told
module _ {slots counters items out out' : List ℕ} {end : ℕ} where
  told_whole : {known : Lengths} {v : Result Unit Broken} → Judged slots counters items known v → Put (judged (said v)) 0 out out' end
      → (d : Dump) → Stands d slots counters items (Ok known) → Put (told d) 0 out out' end
  told_whole j p (whole m) st = rw (← j.judged m st) p
  told_whole j p (unclear n y) st = absurd st.measured_so

  -- of a dump whose lines were all understood: the line of the verdict
  pub verdict_told : {r : Result Lengths Unclear} {known : Lengths} {v : Result Unit Broken} → r ≡ Ok known → Judged slots counters items known v → Put (judged (said v)) 0 out out' end
      → end ≤ 0 + 384 → Told slots counters items r out out' end
  verdict_told q j p near = rw q (record { told_so = told_whole j p; near = omega arith })

  told_unclear : {at : Unclear} → Put (not_understood at.line (reason_number at.why)) 0 out out' end
      → (d : Dump) → Stands d slots counters items (Err at) → Put (told d) 0 out out' end
  told_unclear p (whole m) st = absurd st.measured_so
  told_unclear p (unclear n y) st = rw (← st.measured_so.0, ← st.measured_so.1) p

  -- of another: which line was not understood, and why
  pub line_told : {r : Result Lengths Unclear} {at : Unclear} → r ≡ Err at → Put (not_understood at.line (reason_number at.why)) 0 out out' end → end ≤ 0 + 384
      → Told slots counters items r out out' end
  line_told q p near = rw q (record { told_so = told_unclear p; near = omega arith })

-- what is told of the dump that stands there is told of the text that it was read from
pub text_told : {slots counters items out out' : List ℕ} {r : Result Lengths Unclear} {end : ℕ} (text : List ℕ) → Stands (dump_of text) slots counters items r
    → Told slots counters items r out out' end → Put (told (dump_of text)) 0 out out' end
text_told text st t = t.told_so (dump_of text) st

-- and goes out whole
module _ (out : List ℕ) {end : ℕ} (near : end ≤ 384) (room : 384 ≤ length out) where
  -- as many bytes go out as the line has
  pub line_front : (out' : List ℕ) → length out' ≡ length out → end ≡ length (take end out')
  line_front out' l = sym (length-take-le end out' (omega arith))

  pub line_is : (bs : List ℕ) {out' : List ℕ} → Put bs 0 out out' end → take end out' ≡ bs
  line_is bs p =
      let long : end ≡ length bs = omega (arith, p.next) in
      ap (take end) p.bytes_put ∙ poured_front bs out end long (omega arith)
