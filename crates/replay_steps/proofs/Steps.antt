-- One line, on the fronts of the program's runs. Assumes nothing.
use Prim.Native.Nat.{ℕ, ◌+◌, ◌/◌, ◌≤◌, ◌<◌}
use native.Mathlib.Omega.{arith}
use mathlib.Core.Path.{◌≡◌, refl, sym, ap, ap₂, ◌∙◌}
use mathlib.Core.Bool.{true, false, ◌&&◌}
use Rattle.std.specs.Prelude.{Result, Ok, Err}
use mathlib.Core.List.{List, ◌++◌}
use lib.ListN.{length, get_or, take, drop, length-append, length-drop, take-append-drop}
use lib.Seq.{length-take-le, take_at}
use borrow.Author.Tests.{le-leb, lt-leb}
use Rattle.model.specs.Choice.{choose}
use Rattle.model.specs.Memory.{Mem, mem}
use Rattle.model.specs.Shape.{four, good_lengths, right_lengths, fresh_memory, shape, shape_of}
use Rattle.model.specs.Answers.{Answer, started, refused, paper}
use Rattle.model.specs.Promised.{FreshAs}
use Rattle.model.specs.Said.{said_starting}
use Rattle.model.specs.declared.Refusal.{Refusal}
use Rattle.model.proofs.ListLaws.{bool}
use Rattle.buffer.specs.Put.{Put}
use Rattle.replay_print.specs.Text.{bytes}
use Rattle.replay_print.specs.Print.{line}
use Rattle.replay_rows.specs.declared.Turn.{Turn}
use Rattle.replay_rows.specs.World.{Ample, World, Reply, Replied, world, longest}
use Rattle.replay_rows.specs.Meaning.{holds, meaning, starts}
use Rattle.replay_steps.specs.Standing.{in_use, Held, Stepped, Refused}
use Rattle.replay_steps.specs.declared.State.{State}

-- the front of a run that is in use has its length
pub front : (n : ℕ) (run : List ℕ) → n ≤ length run → n ≡ length (take n run)
front n run h = sym (length-take-le n run h)

module _ {slots counters items : List ℕ} {st : State} (k : Held slots counters items st) where
  pub slots_front : st.slots ≡ length (take st.slots slots)
  slots_front = front st.slots slots (omega (arith, k.slots_in, k.all_slots))

  pub counters_front : st.counters ≡ length (take st.counters counters)
  counters_front = front st.counters counters (omega (arith, k.counters_in, k.all_counters))

  pub items_front : st.items ≡ length (take st.items items)
  items_front = front st.items items (omega (arith, k.items_in, k.all_items))

  pub fronts_ample : {at : ℕ} {out : List ℕ} → at + longest ≤ length out
      → Ample (mem (take st.slots slots) (take st.counters counters) (take st.items items)) at out
  fronts_ample h =
      record {
        slots = omega (arith, slots_front, k.slots_in);
        counters = omega (arith, counters_front, k.counters_in);
        items = omega (arith, items_front, k.items_in);
        room = h;
      }

-- it comes back in its place
module _ (n : ℕ) (run ys : List ℕ) (h : n ≤ length run) (e : length ys ≡ length (take n run)) where
  back_front : take n (ys ++ drop n run) ≡ ys
  back_front = take_at ys (drop n run) n (e ∙ length-take-le n run h)

  back_long : length (ys ++ drop n run) ≡ length run
  back_long = omega (arith, length-append ys (drop n run), length-drop n run, length-take-le n run h, e)

-- three fronts in use came back
module _ (slots counters items ys cs zs : List ℕ) (s v i : ℕ) (hs : s ≤ length slots) (hv : v ≤ length counters) (hi : i ≤ length items)
    (es : length ys ≡ length (take s slots)) (ev : length cs ≡ length (take v counters)) (ei : length zs ≡ length (take i items)) where
  back_mem : mem (take s (ys ++ drop s slots)) (take v (cs ++ drop v counters)) (take i (zs ++ drop i items)) ≡ mem ys cs zs
  back_mem = rw (back_front s slots ys hs es, back_front v counters cs hv ev, back_front i items zs hi ei)

  back_held : {st st' : State} → Held slots counters items st → st'.slots ≡ s → st'.counters ≡ v → st'.items ≡ i
      → Held (ys ++ drop s slots) (cs ++ drop v counters) (zs ++ drop i items) st'
  back_held k a b c =
      record {
        all_slots = back_long s slots ys hs es ∙ k.all_slots;
        all_counters = back_long v counters cs hv ev ∙ k.all_counters;
        all_items = back_long i items zs hi ei ∙ k.all_items;
        slots_in = omega (arith, k.all_slots);
        counters_in = omega (arith, k.all_counters);
        items_in = omega (arith, k.all_items);
      }

-- a line on the table there is
pub on_table_stepped : {slots counters items ys cs zs out out' : List ℕ} {st : State} {t : Turn} {told : Reply} (y : Reply) → told ≡ y → Held slots counters items st
    → length ys ≡ length (take st.slots slots) → length cs ≡ length (take st.counters counters) → length zs ≡ length (take st.items items)
    → Replied told (mem ys cs zs) st.at out out' t
    → Stepped y st
    (record { slots = st.slots; counters = st.counters; items = st.items; hand = t.hand; number = st.number; missed = st.missed; from = st.from; at = t.next })
    (ys ++ drop st.slots slots) (cs ++ drop st.counters counters) (zs ++ drop st.items items) out out'
on_table_stepped {slots} {counters} {items} {ys} {cs} {zs} {out} {out'} {st} {t} y e k es ev ei r =
    let hs : st.slots ≤ length slots = omega (arith, k.slots_in, k.all_slots) in
    let hv : st.counters ≤ length counters = omega (arith, k.counters_in, k.all_counters) in
    let hi : st.items ≤ length items = omega (arith, k.items_in, k.all_items) in
    record {
      put = rw (← e) r.put;
      near = r.near;
      world_is = rw (← e) (ap₂ world (back_mem slots counters items ys cs zs st.slots st.counters st.items hs hv hi es ev ei ∙ r.left) r.hand);
      held = back_held slots counters items ys cs zs st.slots st.counters st.items hs hv hi es ev ei k refl refl refl;
      same_number = refl;
      same_from = refl;
      same_missed = refl;
    }

-- a fresh that is refused leaves all as it was
module _ {slots counters items out out' : List ℕ} {st r : State} (s v i : ℕ) (k : Held slots counters items st) (q : Refused st out out' r) where
  unchanged : holds s v i && good_lengths four s v i ≡ false → Stepped (starts s v i (in_use slots counters items st)) st r slots counters items out out'
  unfolding starts
  unchanged e =
      rw e
      (record {
        put = q.put;
        near = q.near;
        world_is = rw (q.same_slots, q.same_counters, q.same_items, q.same_hand);
        held = record {
          all_slots = k.all_slots;
          all_counters = k.all_counters;
          all_items = k.all_items;
          slots_in = omega (arith, k.slots_in, q.same_slots);
          counters_in = omega (arith, k.counters_in, q.same_counters);
          items_in = omega (arith, k.items_in, q.same_items);
        };
        same_number = q.same_number;
        same_from = q.same_from;
        same_missed = q.same_missed;
      })

  pub refused_slots : length slots < s → Stepped (starts s v i (in_use slots counters items st)) st r slots counters items out out'
  refused_slots h = unchanged (rw (lt-leb s 8192 (omega (arith, k.all_slots))))

  pub refused_counters : s ≤ length slots → length counters < v → Stepped (starts s v i (in_use slots counters items st)) st r slots counters items out out'
  refused_counters a h = unchanged (rw (le-leb s 8192 (omega (arith, k.all_slots)), lt-leb v 1024 (omega (arith, k.all_counters))))

  pub refused_items : s ≤ length slots → v ≤ length counters → length items < i → Stepped (starts s v i (in_use slots counters items st)) st r slots counters items out out'
  refused_items a b h =
      unchanged (rw (le-leb s 8192 (omega (arith, k.all_slots)), le-leb v 1024 (omega (arith, k.all_counters)), lt-leb i 4096 (omega (arith, k.all_items))))

-- fresh on the fronts: the lengths are those that the line gives
module _ {slots counters items : List ℕ} {st : State} (s v i : ℕ) (k : Held slots counters items st)
    (hs : s ≤ length slots) (hv : v ≤ length counters) (hi : i ≤ length items) where
  lengths_are : right_lengths four (mem (take s slots) (take v counters) (take i items)) ≡ good_lengths four s v i
  lengths_are = rw (length-take-le s slots hs, length-take-le v counters hv, length-take-le i items hi)

  held_is : holds s v i ≡ true
  held_is = rw (le-leb s 8192 (omega (arith, k.all_slots)), le-leb v 1024 (omega (arith, k.all_counters)), le-leb i 4096 (omega (arith, k.all_items)))

  pub fresh_refused : {ys cs zs out out' : List ℕ} {r : State} {said : Result Unit Refusal} {n : Refusal} → said ≡ Err n
      → FreshAs four (mem (take s slots) (take v counters) (take i items)) (mem ys cs zs) (said_starting said) → Refused st out out' r
      → Stepped (starts s v i (in_use slots counters items st)) st r (ys ++ drop s slots) (cs ++ drop v counters) (zs ++ drop i items) out out'
  fresh_refused {ys} {cs} {zs} {out} {out'} {r} {said} {n} e f q =
      bool
      (λ b. right_lengths four (mem (take s slots) (take v counters) (take i items)) ≡ b → said_starting said ≡ choose b started (refused 1)
      → mem ys cs zs ≡ choose b (fresh_memory (shape_of four (mem (take s slots) (take v counters) (take i items)))) (mem (take s slots) (take v counters) (take i items))
      → Stepped (starts s v i (in_use slots counters items st)) st r (ys ++ drop s slots) (cs ++ drop v counters) (zs ++ drop i items) out out')
      (right_lengths four (mem (take s slots) (take v counters) (take i items)))
      (λ _ g t l. let z : ◌≡◌ {A = ℕ} 0 1 = ap (λ (a : Answer). length (paper a).values) (sym (ap said_starting e) ∙ t) in absurd (omega arith))
      (λ _ g t l.
      let a : ys ++ drop s slots ≡ slots = ap (λ (m : Mem). m.slots ++ drop s slots) l ∙ take-append-drop s slots in
      let b : cs ++ drop v counters ≡ counters = ap (λ (m : Mem). m.counters ++ drop v counters) l ∙ take-append-drop v counters in
      let c : zs ++ drop i items ≡ items = ap (λ (m : Mem). m.items ++ drop i items) l ∙ take-append-drop i items in
      rw (a, b, c) (unchanged s v i k q (rw (held_is, ← lengths_are) g)))
      refl f.told f.left

  pub fresh_made : {ys cs zs out out' : List ℕ} {next : ℕ} {said : Result Unit Refusal} {u : Unit} → said ≡ Ok u
      → FreshAs four (mem (take s slots) (take v counters) (take i items)) (mem ys cs zs) (said_starting said) → Put (line (bytes "fresh")) st.at out out' next
      → length ys ≡ length (take s slots) → length cs ≡ length (take v counters) → length zs ≡ length (take i items)
      → Stepped (starts s v i (in_use slots counters items st)) st
      (record { slots = s; counters = v; items = i; hand = 0; number = st.number; missed = st.missed; from = st.from; at = next })
      (ys ++ drop s slots) (cs ++ drop v counters) (zs ++ drop i items) out out'
  unfolding starts
  fresh_made {ys} {cs} {zs} {out} {out'} {next} {said} e f p es ev ei =
      bool
      (λ b. right_lengths four (mem (take s slots) (take v counters) (take i items)) ≡ b → said_starting said ≡ choose b started (refused 1)
      → mem ys cs zs ≡ choose b (fresh_memory (shape_of four (mem (take s slots) (take v counters) (take i items)))) (mem (take s slots) (take v counters) (take i items))
      → Stepped (starts s v i (in_use slots counters items st)) st
      (record { slots = s; counters = v; items = i; hand = 0; number = st.number; missed = st.missed; from = st.from; at = next })
      (ys ++ drop s slots) (cs ++ drop v counters) (zs ++ drop i items) out out')
      (right_lengths four (mem (take s slots) (take v counters) (take i items)))
      (λ _ g t l.
      let good : good_lengths four s v i ≡ true = sym lengths_are ∙ g in
      let sized : fresh_memory (shape_of four (mem (take s slots) (take v counters) (take i items))) ≡ fresh_memory (shape four (s / 4) v (i / 4)) =
      rw (length-take-le s slots hs, length-take-le v counters hv, length-take-le i items hi) in
      rw (held_is, good)
      (record {
        put = p;
        near = omega (arith, p.next);
        world_is = ap (λ (m : Mem). world m 0) (back_mem slots counters items ys cs zs s v i hs hv hi es ev ei ∙ l ∙ sized);
        held = back_held slots counters items ys cs zs s v i hs hv hi es ev ei k refl refl refl;
        same_number = refl;
        same_from = refl;
        same_missed = refl;
      }))
      (λ _ g t l. let z : ◌≡◌ {A = ℕ} 1 0 = ap (λ (a : Answer). length (paper a).values) (sym (ap said_starting e) ∙ t) in absurd (omega arith))
      refl f.told f.left
