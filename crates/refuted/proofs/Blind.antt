-- The three demands do not see the order of a move's stores: a table that clears the source before it writes the destination meets all
-- three. So never-lost, which refuses it (proofs/Refuted), says something that the demands don't. Assumes nothing.
use Prim.Native.Nat.{ℕ, ◌*◌, ◌<◌, ◌-◌}
use native.Mathlib.Omega.{arith}
use native.Mathlib.Decide.{ℕ_discrete, dec_le}
use mathlib.Core.Path.{◌≡◌, refl, sym, ap, ◌∙◌, subst}
use mathlib.Core.Logic.{◌≢◌, ◌⊎◌, inl, inr, ⊎_elim, dite}
use mathlib.Core.Bool.{true, false}
use Rattle.std.specs.Prelude.{Some}
use mathlib.Core.List.{List, [], ◌∷◌, append-nil}
use lib.IntN.{ℤ}
use lib.ListN.{length, take, replicate}
use lib.Seq.{take-nil, take-append-le, set_comm}
use Rattle.model.specs.Memory.{Mem, mem, place, stamp, word}
use Rattle.model.specs.Shape.{Shape, counter_of, fresh_memory, right_lengths, shape_of, four, Ways}
use Rattle.model.specs.Stores.{Block, Store, apply_all, counted, enter, move, recency, remove, slot_to, update, whole, wholes}
use Rattle.model.specs.Calling.{AllTyped, Call, Event, Typed, about, did, make_fresh, read, serve, set_animal}
use Rattle.model.specs.Answers.{Answer, fresh, refused, Listed, stored}
use Rattle.model.specs.Calls.{Outcome, after_call, call, reading}
use Rattle.model.specs.Lent.{lent_call}
use Rattle.model.specs.Row.{beyond, plain, row_call, row_event, row_late, walk_to}
use Rattle.model.specs.WellFormed.{WellFormed}
use Rattle.model.specs.AnyTable.{Table, beside, cut_at, leaves, left}
use Rattle.model.specs.Demands.{Allowed, Demand1, Demand2, Demand3, Roomy, SeenBy, Story, places, reads, row, table, shape_in}
use Rattle.model.specs.Ours.{ours, traced}
use Rattle.model.proofs.ShapeLaws.{Lawful}
use Rattle.model.proofs.ListLaws.{all_append, take_past}
use Rattle.model.proofs.KeepBlocks.{Fits, keep}
use Rattle.model.proofs.View.{AllSpare, view_stores}
use Rattle.model.proofs.Spare.{spares, subject, view}
use Rattle.model.proofs.Cut.{Seen, Tale, counter_home, cut_block, cut_counted, done, last, quiet, same_view, silent_read, zero_read}
use Rattle.model.proofs.Steps.{step}
use Rattle.model.proofs.Runs.{fresh_well, well_after}
use Rattle.model.proofs.Lent.{Alike, alike_call, alike_reading, stores_alike, well_alike}
use Rattle.model.proofs.Trace.{trace_all, trace_cut}
use Rattle.model.proofs.Demand1.{no_blocks, no_wipe, quiet_refusals}
use Rattle.model.proofs.OnWellFormed.{answer_is, lawY, leaves_is, started_again}
use Rattle.model.proofs.Demands.{opened, our_room, our_row, well_story}
use Rattle.refuted.specs.Wrong.{all_swapped, built, source_first, swapped}

module _ (Y : Shape) (L : Lawful Y) (m : Mem) (g : WellFormed Y m) where
  -- a block with its move swapped leaves, as a whole, what the proper block leaves
  whole_same : (b : Block) → Fits Y m b → apply_all (swapped b) m ≡ whole b m
  whole_same (move c from to y) h =
      let apart : from ≢ to = λ q. h.0.held (ap (word m) q ∙ h.0.vacant) in
      ap (λ (l : List ℕ). mem l (whole (move c from to y) m).counters m.items) (set_comm m.slots from to 0 y apart)
  whole_same (enter c p i y x v s) h = refl
  whole_same (update c p v s) h = refl
  whole_same (remove c i p) h = refl
  whole_same (recency p mark) h = refl

  -- a swapped move, cut anywhere, and a read of any animal x
  module _ (c from to y : ℕ) (h : Fits Y m (move c from to y)) (k x limit now : ℕ) where
    -- the animal that is moved
    abbrev own : ℕ
    own = subject m (move c from to y)

    -- the two stores between the additions to its counter
    abbrev inner : List Store
    inner = slot_to from 0 ∷ slot_to to y ∷ []

    -- the memory at the cut
    abbrev cut : Mem
    cut = apply_all (take k (counted c inner)) m

    -- in m' the read gives busy, or what it gives in m, or, for the animal that is moved, what it gives in m''
    abbrev Says : Mem → Mem → Type 0
    Says m' m'' =
        (reading Y m' x limit now ≡ refused 8)
        ⊎ ((reading Y m' x limit now ≡ reading Y m x limit now) ⊎ ((x ≡ own) × (reading Y m' x limit now ≡ reading Y m'' x limit now)))

    -- the counter is that of the animal
    own_counter : c ≡ counter_of Y own
    own_counter =
        let r = g.points from h.0.held in
        let same : place y ≡ place (word m from) = ap place h.1 in
        h.2 ∙ counter_home Y L m g (rw same r.tagged) (rw same r.home)

    -- the animal that is moved is busy in between
    of_own : x ≡ own → Says cut (whole (move c from to y) m)
    of_own s =
        subst (λ m''. Says cut m'') (whole_same (move c from to y) h)
        (subst (λ c. Says (apply_all (take k (counted c inner)) m) (apply_all (counted c inner) m)) (sym own_counter)
        (cut_counted Y L m g own inner tt k x limit now s))

    -- the others read as before, or busy
    of_others : x ≢ own → Says cut (whole (move c from to y) m)
    of_others ne =
        dite (ℕ_discrete x 0) (λ z. inr (inl (zero_read Y cut x limit now z ∙ sym (zero_read Y m x limit now z))))
        λ nz. let w = view Y L m g x nz in
        let s = spares Y L m g x nz w.0 w.1 (move c from to y) h ne in
        let s' : AllSpare Y x w.0 (counted c inner) = (tt, (s.1.1.0, (s.1.0, (tt, tt)))) in
        ⊎_elim inl (λ e. inr (inl e))
        (same_view Y m cut x w.0 w.1 (view_stores Y x w.1 (counted c inner) s' k) (g.even (counter_of Y x)) limit now)

    -- so every read gives what demand 2 allows
    cut_move : Says cut (whole (move c from to y) m)
    cut_move = dite (ℕ_discrete x own) of_own of_others

  -- so with every block, of which only the moves are swapped
  cut_swapped : (b : Block) → Fits Y m b → (k : ℕ) → Seen Y (subject m b) m (whole b m) (apply_all (take k (swapped b)) m)
  cut_swapped (move c from to y) h k = cut_move c from to y h k
  cut_swapped (enter c p i y x v s) h k = cut_block Y L m g (enter c p i y x v s) h k
  cut_swapped (update c p v s) h k = cut_block Y L m g (update c p v s) h k
  cut_swapped (remove c i p) h k = cut_block Y L m g (remove c i p) h k
  cut_swapped (recency p mark) h k = cut_block Y L m g (recency p mark) h k

module _ (Y : Shape) (L : Lawful Y) (a : ℕ) where
  -- the blocks of a call, all swapped, leave as a whole what the proper ones leave
  tale_same : {m : Mem} {bs : List Block} → WellFormed Y m → Tale Y a m bs → apply_all (all_swapped bs) m ≡ wholes bs m
  tale_same g done = refl
  tale_same {m} g (quiet {b = b} {bs = bs} f s t) =
      all_append (swapped b) (all_swapped bs) m ∙ ap (apply_all (all_swapped bs)) (whole_same Y L m g b f) ∙ tale_same (keep Y L m g b f) t
  tale_same {m} g (last {b = b} f e) = ap (λ ss. apply_all ss m) (append-nil (swapped b)) ∙ whole_same Y L m g b f

  -- and, cut anywhere, no read sees the difference
  tale_cut : {m : Mem} {bs : List Block} → WellFormed Y m → Tale Y a m bs → (k : ℕ)
      → Seen Y a m (wholes bs m) (apply_all (take k (all_swapped bs)) m)
  tale_cut {m} g done k = subst (λ ss. Seen Y a m m (apply_all ss m)) (sym (take-nil k)) λ x limit now. inr (inl refl)
  tale_cut {m} g (quiet {b = b} {bs = bs} f s t) k =
      dite (dec_le k (length (swapped b)))
      (λ h. subst (λ ss. Seen Y a m (wholes bs (whole b m)) (apply_all ss m)) (sym (take-append-le k (swapped b) (all_swapped bs) h))
      λ x limit now. ⊎_elim inl (λ u. inr (inl (⊎_elim (λ e. e) (λ e. e.1 ∙ silent_read Y L m g b f s x limit now) u)))
      (cut_swapped Y L m g b f k x limit now))
      λ h. let rest : List Store = take (k - length (swapped b)) (all_swapped bs) in
      subst (λ m'. Seen Y a m (wholes bs (whole b m)) m')
      (sym (ap (λ ss. apply_all ss m) (take_past (swapped b) (all_swapped bs) k (omega arith)) ∙ all_append (swapped b) rest m
      ∙ ap (apply_all rest) (whole_same Y L m g b f)))
      λ x limit now. ⊎_elim inl (λ u. inr (⊎_elim (λ e. inl (e ∙ silent_read Y L m g b f s x limit now)) inr u))
      (tale_cut (keep Y L m g b f) t (k - length (swapped b)) x limit now)
  tale_cut {m} g (last {b = b} f e) k =
      subst (λ ss. Seen Y a m (whole b m) (apply_all (take k ss) m)) (sym (append-nil (swapped b)))
      (subst (λ a. Seen Y a m (whole b m) (apply_all (take k (swapped b)) m)) e (cut_swapped Y L m g b f k))

-- of any ways and moves
module _ (W : Ways) where
  -- our table
  abbrev O : Table
  O = ours W

  -- the one that clears the source first
  abbrev B : Table
  B = built W all_swapped

  module _ (m₀ : Mem) (right : right_lengths W m₀ ≡ true) where
    -- the shape of the three lengths
    abbrev Y : Shape
    Y = shape_of W m₀

    -- which is lawful
    abbrev L : Lawful Y
    L = lawY W m₀ right

    module _ (m : Mem) (g : WellFormed Y m) (c : Call) (h : Typed c) where
      -- on a well-formed memory the lengths play no part
      same_call : lent_call W m c ≡ call Y m c
      same_call = alike_call W m₀ right (well_alike W m₀ right g) c

      -- a finished call leaves what ours leaves
      leaves_same : leaves B m (did c) ≡ after_call Y m c
      leaves_same =
          trace_all (all_swapped (lent_call W m c).blocks) m ∙ ap (λ (o : Outcome). apply_all (all_swapped o.blocks) m) same_call
          ∙ tale_same Y L (about c (call Y m c).answer) g (step Y L m g c h).tale

      -- the first k of the swapped stores
      abbrev swapped_cut : ℕ → Mem
      swapped_cut k = apply_all (take k (all_swapped (call Y m c).blocks)) m

      -- are what a cut call leaves
      cut_same : (k : ℕ) → cut_at B k m (did c) ≡ swapped_cut k
      cut_same k =
          trace_cut (all_swapped (lent_call W m c).blocks) m k
          ∙ ap (λ (o : Outcome). apply_all (take k (all_swapped o.blocks)) m) same_call

      -- a read, where the lengths are those of the shape
      reads_as : (m' : Mem) → Alike W m₀ right m' → (x limit now : ℕ) → reads W B m' x limit now ≡ reading Y m' x limit now
      reads_as m' a x limit now = alike_reading W m₀ right {m = m'} a x limit now

      -- at the cut it gives what demand 2 allows
      seen_cut : (k x limit now : ℕ) → SeenBy W B m (after_call Y m c) (swapped_cut k) (about c (call Y m c).answer) x limit now
      seen_cut k x limit now =
          let r = reads_as m (well_alike W m₀ right g) x limit now in
          let r'' = reads_as (after_call Y m c) (well_alike W m₀ right (well_after Y L m g c h)) x limit now in
          let r' = reads_as (swapped_cut k)
          (stores_alike W m₀ right (take k (all_swapped (call Y m c).blocks)) (well_alike W m₀ right g)) x limit now in
          ⊎_elim (λ e. inl (r' ∙ e)) (λ u. inr (⊎_elim (λ e. inl (r' ∙ e ∙ sym r)) (λ e. inr (e.0, r' ∙ e.1 ∙ sym r'')) u))
          (tale_cut Y L (about c (call Y m c).answer) g (step Y L m g c h).tale k x limit now)

      -- the same in the words of demand 2
      seen_swapped : (k x limit now : ℕ)
          → SeenBy W B m (leaves B m (did c)) (cut_at B k m (did c)) (about c (B.answer m (did c))) x limit now
      seen_swapped k x limit now =
          subst (λ m''. SeenBy W B m m'' (cut_at B k m (did c)) (about c (B.answer m (did c))) x limit now) (sym leaves_same)
          (subst (λ m'. SeenBy W B m (after_call Y m c) m' (about c (B.answer m (did c))) x limit now) (sym (cut_same k))
          (subst (λ (r : Answer). SeenBy W B m (after_call Y m c) (swapped_cut k) (about c r) x limit now)
          (sym (answer_is W m₀ right m g c)) (seen_cut k x limit now)))

    -- the same run leaves the same memory, and the same row beside it
    same_run : (es : List Event) → AllTyped es → (m : Mem) (l : List ℕ) → WellFormed Y m
        → (left B m es ≡ left O m es) × (beside B Y.places m l es ≡ beside O Y.places m l es)
    same_run [] t m l g = (refl, refl)
    same_run (make_fresh ∷ es) t m l g =
        let l' : List ℕ = replicate (4 * Y.places) 0 in
        subst (λ m'. (left B m' es ≡ left O m' es) × (beside B Y.places m' l' es ≡ beside O Y.places m' l' es))
        (sym (started_again W m₀ right m g)) (same_run es t (fresh_memory Y) l' (fresh_well Y))
    same_run (did c ∷ es) t m l g =
        let l' : List ℕ = (row_call Y.places (beyond (O.answer m (did c))) l c).words in
        let r = same_run es t.1 (after_call Y m c) l' (well_after Y L m g c t.0) in
        let p = leaves_same m g c t.0 in
        let q = leaves_is W m₀ right m g c in (
          ap (λ m'. left B m' es) p ∙ r.0 ∙ sym (ap (λ m'. left O m' es) q),
          ap (λ m'. beside B Y.places m' l' es) p ∙ r.1 ∙ sym (ap (λ m'. beside O Y.places m' l' es) q),
        )

  module _ (s : Story W) where
    -- the shape of a story
    abbrev Z : Shape
    Z = shape_in W s

    -- a story leaves the same memory, and the same row, in both tables
    both_same : (table W B s ≡ table W O s) × (row W B s ≡ row W O s)
    both_same =
        let l : List ℕ = replicate (4 * Z.places) 0 in
        subst (λ m. (left B m s.calls ≡ left O m s.calls) × (beside B Z.places m l s.calls ≡ beside O Z.places m l s.calls))
        (sym (opened W s)) (same_run s.memory s.right s.calls s.typed (fresh_memory Z) l (fresh_well Z))

    -- so what is true of our memory and our row is true of the other's
    over : (P : Mem → List ℕ → Type 0) → P (table W O s) (row W O s) → P (table W B s) (row W B s)
    over P h = subst (λ m. P m (row W B s)) (sym both_same.0) (subst (λ l. P (table W O s) l) (sym both_same.1) h)

    -- it answers as the row
    rows : (e : Event) → AllTyped (e ∷ [])
        → plain (B.answer (table W B s) e)
        ≡ (row_event (places W s) (beyond (B.answer (table W B s) e)) (row W B s) e).answer
    rows e t =
        over (λ m l. plain (O.answer m e) ≡ (row_event (places W s) (beyond (O.answer m e)) l e).answer)
        ((our_row W).as_row s e t)

    -- it says fresh only of a held permission in time
    freshes : (x limit now v : ℕ) (z : ℤ)
        → (B.answer (table W B s) (did (read x limit now)) ≡ fresh v z) ⊎ (B.answer (table W B s) (did (serve x limit now)) ≡ fresh v z)
        → (p : ℕ) × (p < places W s) × Allowed (row W B s) x limit now v z p
    freshes x limit now v z =
        over (λ m l. (O.answer m (did (read x limit now)) ≡ fresh v z) ⊎ (O.answer m (did (serve x limit now)) ≡ fresh v z)
        → (p : ℕ) × (p < places W s) × Allowed l x limit now v z p) ((our_row W).fresh_only s x limit now v z)

    -- and its reads at a cut are those that demand 2 allows
    cuts : (c : Call) → Typed c → (k x limit now : ℕ)
        → SeenBy W B (table W B s) (leaves B (table W B s) (did c)) (cut_at B k (table W B s) (did c))
        (about c (B.answer (table W B s) (did c))) x limit now
    cuts c t k x limit now =
        over (λ m l. SeenBy W B m (leaves B m (did c)) (cut_at B k m (did c)) (about c (B.answer m (did c))) x limit now)
        (seen_swapped s.memory s.right (table W O s) (well_story W s) c t k x limit now)

  -- a refusal is one from the list, and writes nothing
  silent : (m : Mem) (e : Event) (n : ℕ) → B.answer m e ≡ refused n → Listed n × (B.writes m e ≡ [])
  silent m make_fresh n e = no_wipe W m n e
  silent m (did c) n e = let h = no_blocks W m c n e in (h.0, ap (λ bs. traced m (all_swapped bs)) h.1)

  -- demand 1
  swapped_1 : Demand1 B
  swapped_1 = quiet_refusals B silent

  -- demand 2
  swapped_2 : Demand2 W B
  swapped_2 =
      record {
        starts = (our_row W).starts;
        as_row = rows;
        same_words = λ s. over s (λ m l. m.items ≡ l) ((our_row W).same_words s);
        fresh_only = freshes;
        cut_reads = λ s c t h. cuts s c t;
        no_search = λ s q good p. over s (λ m l. walk_to l q.animal (places W s) 0 ≡ Some p → row_late (places W s) (stamp l p) q ≡ false
            → O.answer m (did (set_animal q)) ≡ stored 0 0) ((our_row W).no_search s q good p);
      }

  -- demand 3
  swapped_3 : Demand3 W B
  swapped_3 s q good away p vacant =
      let c : Call = set_animal q in
      let x = q.animal in
      let m : Mem = table W O s in
      let g = well_story W s in
      let e = both_same s in
      over s (λ m l. Roomy (Z s) m.slots x (O.answer m (did c)) (leaves B m (did c)).slots)
      (subst (λ (m'' : Mem). Roomy (Z s) m.slots x (O.answer m (did c)) m''.slots)
      (leaves_is W s.memory s.right m g c ∙ sym (leaves_same s.memory s.right m g c good.typed))
      (our_room W s q good (ap (λ l. walk_to l x (places W s) 0) (sym e.1) ∙ away) p
      (ap (λ l. walk_to l 0 (places W s) 0) (sym e.1) ∙ vacant)))

-- a table that clears the source before it writes the destination meets demand 1
pub source_first_1 : Demand1 source_first
source_first_1 = swapped_1 four

-- a table that clears the source before it writes the destination meets demand 2
pub source_first_2 : Demand2 four source_first
source_first_2 = swapped_2 four

-- a table that clears the source before it writes the destination meets demand 3
pub source_first_3 : Demand3 four source_first
source_first_3 = swapped_3 four
