-- Our table on lent memory that is well-formed, whoever made it: what it answers, leaves and shows at a cut. Assumes nothing.
use Prim.Native.Nat.{ℕ, ◌*◌, ◌<◌}
use mathlib.Core.Path.{◌≡◌, sym, ap, ◌∙◌, subst}
use mathlib.Core.Logic.{◌⊎◌, inl, inr, ⊎_elim}
use mathlib.Core.Bool.{true, false}
use Rattle.std.specs.Prelude.{Some, None}
use mathlib.Core.List.{List, []}
use lib.ListN.{length, take}
use lib.IntN.{ℤ}
use Rattle.model.specs.Choice.{choose}
use Rattle.model.specs.Memory.{Mem, stamp}
use Rattle.model.specs.Shape.{Shape, fresh_memory, right_lengths, shape_of, Ways, counter_of}
use Rattle.model.specs.Stores.{cut_stores, stores, wholes}
use Rattle.model.specs.Answers.{Answer, fresh, stored}
use Rattle.model.specs.Calls.{Outcome, after_call, call, cut_call, reading, refuse, set_at, held, updated}
use Rattle.model.specs.Lent.{lent_call}
use Rattle.model.specs.Row.{plain, row_call, row_late, walk_to, beyond}
use Rattle.model.specs.WellFormed.{WellFormed}
use Rattle.model.specs.AnyTable.{Table, cut_at, leaves, make_all}
use Rattle.model.specs.Demands.{Allowed, Roomy, SeenBy, reads, GoodInputs}
use Rattle.model.specs.Ours.{ours, wipe}
use Rattle.model.specs.declared.Grant.{Grant}
use Rattle.model.proofs.ShapeLaws.{Lawful}
use Rattle.model.proofs.Steps.{step}
use Rattle.model.proofs.Runs.{cut_seen, row_fresh, serve_reads, well_after}
use Rattle.model.proofs.Lent.{Alike, alike_call, alike_reading, alike_right, fit, law, stores_alike, well_alike}
use Rattle.model.proofs.RoomOnWellFormed.{roomy}
use Rattle.model.proofs.Trace.{blank, trace_all, trace_cut, wholes_stores, wiped}
use Rattle.model.specs.Calling.{make_fresh, Call, did, Typed, read, set_animal, serve, about}
use Rattle.model.proofs.Calm.{past_asked}
use Rattle.model.specs.Age.{bad_grant}
use Rattle.model.proofs.Turns.{good_grant}
use Rattle.model.proofs.RowWords.{late_is}
use Rattle.model.proofs.ReadWalk.{held_walk}

module _ (W : Ways) (m₀ : Mem) (right : right_lengths W m₀ ≡ true) where
  abbrev O : Table
  O = ours W

  -- the shape of the three lengths
  abbrev Y : Shape
  Y = shape_of W m₀

  pub lawY : Lawful Y
  lawY = law W m₀ right

  -- fresh, where the lengths are those of the shape
  pub begun : (m : Mem) → Alike W m₀ right m → leaves O m make_fresh ≡ fresh_memory Y
  begun m a =
      let f = fit W m₀ right in
      ap (λ b. make_all (choose b (wipe m) []) m) (alike_right W m₀ right a) ∙ wiped m
      ∙ ap (λ n. blank n (length m.counters) (length m.items)) (a.slots_same ∙ f.slots_fit)
      ∙ ap (λ n. blank (Y.buckets * W.ways) n (length m.items)) a.counters_same
      ∙ ap (λ n. blank (Y.buckets * W.ways) Y.counters n) (a.items_same ∙ f.items_fit)

  module _ (m : Mem) (g : WellFormed Y m) where
    alike : Alike W m₀ right m
    alike = well_alike W m₀ right g

    -- on a well-formed memory the lengths play no part
    same_call : (c : Call) → lent_call W m c ≡ call Y m c
    same_call c = alike_call W m₀ right alike c

    pub started_again : leaves O m make_fresh ≡ fresh_memory Y
    started_again = begun m alike

    pub still_right : right_lengths W m ≡ true
    still_right = alike_right W m₀ right alike

    pub answer_is : (c : Call) → O.answer m (did c) ≡ (call Y m c).answer
    answer_is c = ap (λ (o : Outcome). o.answer) (same_call c)

    pub leaves_is : (c : Call) → leaves O m (did c) ≡ after_call Y m c
    leaves_is c =
        trace_all (stores (lent_call W m c).blocks) m ∙ wholes_stores (lent_call W m c).blocks m
        ∙ ap (λ (o : Outcome). wholes o.blocks m) (same_call c)

    pub cut_is : (c : Call) (k : ℕ) → cut_at O k m (did c) ≡ cut_call Y k m c
    cut_is c k =
        trace_cut (stores (lent_call W m c).blocks) m k ∙ ap (λ (o : Outcome). cut_stores k o.blocks m) (same_call c)

    -- it answers as the row of its item words
    pub as_row_on : (c : Call) → Typed c → plain (O.answer m (did c)) ≡ (row_call Y.places (beyond (O.answer m (did c))) m.items c).answer
    as_row_on c t =
        subst (λ (r : Answer). plain r ≡ (row_call Y.places (beyond r) m.items c).answer) (sym (answer_is c)) (step Y lawY m g c t).answer

    -- and its item words are the row's afterwards
    pub words_on : (c : Call) → Typed c → (leaves O m (did c)).items ≡ (row_call Y.places (beyond (O.answer m (did c))) m.items c).words
    words_on c t =
        ap (λ (m : Mem). m.items) (leaves_is c) ∙ (step Y lawY m g c t).items
        ∙ ap (λ (r : Answer). (row_call Y.places (beyond r) m.items c).words) (sym (answer_is c))

    -- it stays well-formed
    pub well_on : (c : Call) → Typed c → WellFormed Y (leaves O m (did c))
    well_on c t = subst (λ m'. WellFormed Y m') (sym (leaves_is c)) (well_after Y lawY m g c t)

    -- fresh is said only of a held permission in time
    pub fresh_on : (x limit now v : ℕ) (z : ℤ)
        → (O.answer m (did (read x limit now)) ≡ fresh v z) ⊎ (O.answer m (did (serve x limit now)) ≡ fresh v z)
        → (p : ℕ) × (p < Y.places) × Allowed m.items x limit now v z p
    fresh_on x limit now v z e =
        row_fresh m.items x limit now v z Y.places (sym (as_row_on (read x limit now) tt) ∙ ap plain (⊎_elim (λ e. e) served e))
      where
        served : O.answer m (did (serve x limit now)) ≡ fresh v z → O.answer m (did (read x limit now)) ≡ fresh v z
        served e = answer_is (read x limit now) ∙ sym (serve_reads Y m x limit now) ∙ sym (answer_is (serve x limit now)) ∙ e

    -- cut anywhere
    reads_as : (m' : Mem) → Alike W m₀ right m' → (x limit now : ℕ) → reads W O m' x limit now ≡ reading Y m' x limit now
    reads_as m' a x limit now = alike_reading W m₀ right {m = m'} a x limit now

    pub seen_on : (c : Call) → Typed c → (k x limit now : ℕ)
        → SeenBy W O m (leaves O m (did c)) (cut_at O k m (did c)) (about c (O.answer m (did c))) x limit now
    seen_on c t k x limit now =
        subst (λ m''. SeenBy W O m m'' (cut_at O k m (did c)) (about c (O.answer m (did c))) x limit now) (sym (leaves_is c))
        (subst (λ m'. SeenBy W O m (after_call Y m c) m' (about c (O.answer m (did c))) x limit now) (sym (cut_is c k))
        (subst (λ (r : Answer). SeenBy W O m (after_call Y m c) (cut_call Y k m c) (about c r) x limit now) (sym (answer_is c)) seen))
      where
        seen : SeenBy W O m (after_call Y m c) (cut_call Y k m c) (about c (call Y m c).answer) x limit now
        seen =
            let r = reads_as m alike x limit now in
            let r' = reads_as (cut_call Y k m c) (stores_alike W m₀ right (take k (stores (call Y m c).blocks)) alike) x limit now in
            let r'' = reads_as (after_call Y m c) (well_alike W m₀ right (well_after Y lawY m g c t)) x limit now in
            ⊎_elim (λ e. inl (r' ∙ e))
            (λ u. inr (⊎_elim (λ e. inl (r' ∙ e ∙ sym r)) (λ e. inr (e.0, r' ∙ e.1 ∙ sym r'')) u))
            (cut_seen Y lawY m g c t k x limit now)

    -- a set of a held animal reports no search
    pub counts_on : (q : Grant) → GoodInputs q → (p : ℕ) → walk_to m.items q.animal Y.places 0 ≡ Some p
        → row_late Y.places (stamp m.items p) q ≡ false → O.answer m (did (set_animal q)) ≡ stored 0 0
    counts_on q good p e k =
        let x = q.animal in
        answer_is (set_animal q) ∙ ap (λ (o : Outcome). o.answer)
        (past_asked Y m x (g.even (counter_of Y x)) g.undamaged good.real (bad_grant q) (good_grant good)
        (set_at Y m q (held Y m x))
        ∙ ap (set_at Y m q) (held_walk Y m g x good.real ∙ e)
        ∙ ap (λ b. choose b (refuse 11) (updated (counter_of Y x) p q)) (late_is Y.places (stamp m.items p) q ∙ k))

    -- demand 3
    pub roomy_on : (q : Grant) → GoodInputs q
        → walk_to m.items q.animal Y.places 0 ≡ None → (p : ℕ) → walk_to m.items 0 Y.places 0 ≡ Some p
        → Roomy Y m.slots q.animal (O.answer m (did (set_animal q))) (leaves O m (did (set_animal q))).slots
    roomy_on q good away p vacant =
        subst (λ (T' : List ℕ). Roomy Y m.slots q.animal (O.answer m (did (set_animal q))) T')
        (ap (λ (m : Mem). m.slots) (sym (leaves_is (set_animal q))))
        (subst (λ (a : Answer). Roomy Y m.slots q.animal a (after_call Y m (set_animal q)).slots) (sym (answer_is (set_animal q)))
        (roomy Y lawY m g q good away p vacant))
