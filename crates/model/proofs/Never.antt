-- No entry is ever lost in our table: at every cut each held animal, but the one that is taken away, stands in a home slot.
-- Assumes nothing.
use Prim.Native.Nat.{ℕ, ◌*◌, suc, ◌-◌, ◌%◌, zero}
use native.Mathlib.Omega.{arith}
use native.Mathlib.Decide.{ℕ_discrete, dec_le}
use mathlib.Core.Path.{◌≡◌, refl, sym, ap, ◌∙◌, subst}
use mathlib.Core.Logic.{◌≢◌, ◌⊎◌, inl, inr, ⊎_elim, dite}
use mathlib.Core.Bool.{Bool, true, false}
use Rattle.std.specs.Prelude.{Option, Some, None}
use mathlib.Core.List.{List, [], ◌∷◌, ◌++◌, append-nil}
use lib.ListN.{length, get_or, set, take}
use lib.Seq.{get_or-set_other, take-nil, take-append-le}
use lib.Dec.{eqb}
use borrow.Author.Tests.{eqb-true}
use lib.Ieee.{size}
use Rattle.model.specs.Choice.{choose, range, there}
use Rattle.model.specs.Memory.{Mem, animal, place, stamp, tag, word}
use Rattle.model.specs.Shape.{Shape, homes, four, Ways, eight}
use Rattle.model.specs.Stores.{Block, Store, apply, apply_all, bump, enter, item_to, move, recency, remove, slot_to, stores, stores_of, update, whole}
use Rattle.model.specs.Moves.{Move, moved}
use Rattle.model.specs.Age.{bad_grant, late}
use Rattle.model.specs.Calls.{Outcome, busy, call, enter_at, enter_block, final_slot, held, hit, hits, home_damage, move_blocks, moves_found}
use Rattle.model.specs.Calls.{refuse, set_at, stopped, vacant_place, visited, search_damage}
use Rattle.model.specs.Row.{walk_to}
use Rattle.model.specs.WellFormed.{WellFormed}
use Rattle.model.specs.Demands.{NeverLost, Stands, table, shape_in}
use Rattle.model.specs.Ours.{gate, ours}
use Rattle.model.specs.declared.Grant.{Grant}
use Rattle.model.proofs.ShapeLaws.{Lawful}
use Rattle.model.proofs.ListLaws.{First, all_append, both_yes, first_is, found, missing, take_past, true_false, walk_is}
use Rattle.model.proofs.KeepBlocks.{Fits, keep}
use Rattle.model.proofs.View.{AtPlace, Entry, View, view_stores}
use Rattle.model.proofs.ReadWalk.{hit_at}
use Rattle.model.proofs.Spare.{spares, subject, view}
use Rattle.model.proofs.Cut.{Silent, Tale, done, last, quiet}
use Rattle.model.proofs.StepEvict.{cleared_animal}
use Rattle.model.proofs.Steps.{step}
use Rattle.model.proofs.OnWellFormed.{answer_is, cut_is, lawY}
use Rattle.model.proofs.Demands.{same_story, well_story}
use Rattle.model.specs.Calling.{set_animal, Call, about, HasCut, gone, read, serve, find, delete, evict, write_list, plan_set, step_move, step_enter}

-- no block takes an entry away
abbrev Keeps : List Block → Type 0
Keeps [] = Unit {0}
Keeps (move c f t y ∷ bs) = Keeps bs
Keeps (enter c p i y a v s ∷ bs) = Keeps bs
Keeps (update c p v s ∷ bs) = Keeps bs
Keeps (remove c i p ∷ bs) = ⊥
Keeps (recency p v ∷ bs) = Keeps bs

-- a store to no slot and to no animal number
abbrev Harmless : Store → Type 0
Harmless (bump c) = Unit {0}
Harmless (slot_to i y) = ⊥
Harmless (item_to k v) = k % 4 ≢ 0

abbrev AllHarmless : List Store → Type 0
AllHarmless [] = Unit {0}
AllHarmless (s ∷ ss) = Harmless s × AllHarmless ss

module _ (Y : Shape) (x : ℕ) where
  stands_harmless : (s : Store) (m : Mem) → Harmless s → Stands Y m x → Stands Y (apply s m) x
  unfolding hits
  stands_harmless (bump c) m h st = st
  stands_harmless (slot_to i y) m h st = absurd h
  stands_harmless (item_to k v) m h st =
      let i = st.0 in
      let same : animal (set m.items k v) (place (word m i)) ≡ animal m.items (place (word m i))
      = get_or-set_other m.items k (4 * place (word m i)) v 0 (λ e. h (omega arith)) in
      (i, st.1, ap (λ n. choose (eqb (tag (word m i)) (Y.tag_of x)) (eqb n x) false) same ∙ st.2)

  stands_all : (ss : List Store) (m : Mem) → AllHarmless ss → Stands Y m x → (k : ℕ) → Stands Y (apply_all (take k ss) m) x
  stands_all [] m h st zero = st
  stands_all [] m h st (suc k) = st
  stands_all (s ∷ ss) m h st zero = st
  stands_all (s ∷ ss) m h st (suc k) = stands_all ss (apply s m) h.1 (stands_harmless s m h.0 st) k

  view_stands : (m : Mem) (o : Option Entry) → View Y x o m → (p : ℕ) → AtPlace Y x p o → Stands Y m x
  unfolding hits
  view_stands m None r p h = absurd h
  view_stands m (Some e) r p h =
      (e.slot, r.stands.home, both_yes r.stands.tagged (ap (animal m.items) r.stands.points ∙ r.stands.holds))

  -- found by no slot
  nowhere : (m : Mem) {o : Option ℕ} → First (hits Y m x) (homes Y x) o → o ≡ None → Stands Y m x → ⊥
  nowhere m (found q t) e st = true_false {b = true} refl (ap there e)
  nowhere m (missing h) e st = true_false st.2 (h st.0 st.1)

  pub not_standing : (m : Mem) → hit Y m x ≡ None → Stands Y m x → ⊥
  unfolding hit
  not_standing m e st = nowhere m (first_is (hits Y m x) (homes Y x)) e st

module _ (Y : Shape) (L : Lawful Y) (x : ℕ) (nz : x ≢ 0) where
  good_stands : (m : Mem) → WellFormed Y m → (p : ℕ) → animal m.items p ≡ x → Stands Y m x
  good_stands m g p e =
      let s = g.pointed p (rw e nz) in
      let h = hit_at Y m g x nz e s.1.0 s.1.1 in
      (s.0, h.0, h.1)

  module _ (m : Mem) (g : WellFormed Y m) (p : ℕ) (e : animal m.items p ≡ x) where
    -- a move of x itself
    own_move : (c f t y : ℕ) → Fits Y m (move c f t y) → x ≡ animal m.items (place y) → (k : ℕ) → Stands Y (apply_all (take k (stores_of (move c f t y))) m) x
    unfolding hits
    own_move c f t y h same zero = good_stands m g p e
    own_move c f t y h same (suc zero) = good_stands m g p e
    own_move c f t y h same (suc (suc zero)) =
        let held : animal m.items (place (word m f)) ≡ x = ap (λ y. animal m.items (place y)) (sym h.1) ∙ sym same in
        let a = hit_at Y m g x nz held h.0.held refl in
        let ne : f ≢ t = λ q. h.0.held (ap (word m) q ∙ h.0.vacant) in
        let still : get_or (set m.slots t y) f 0 ≡ word m f = get_or-set_other m.slots t f y 0 ne in
        (f, a.0, ap (λ n. choose (eqb (tag n) (Y.tag_of x)) (eqb (animal m.items (place n)) x) false) still ∙ a.1)
    own_move c f t y h same (suc (suc (suc zero))) = good_stands (whole (move c f t y) m) (keep Y L m g (move c f t y) h) p e
    own_move c f t y h same (suc (suc (suc (suc zero)))) = good_stands (whole (move c f t y) m) (keep Y L m g (move c f t y) h) p e
    own_move c f t y h same (suc (suc (suc (suc (suc k))))) = good_stands (whole (move c f t y) m) (keep Y L m g (move c f t y) h) p e

    own : (b : Block) → Fits Y m b → x ≡ subject m b → Keeps (b ∷ []) → (k : ℕ) → Stands Y (apply_all (take k (stores_of b)) m) x
    own (move c f t y) h same kp k = own_move c f t y h same k
    own (enter c q i y a v s) h same kp k = absurd (h.new p (e ∙ same))
    own (update c q v s) h same kp k =
        stands_all Y x (stores_of (update c q v s)) m (tt, ((λ z. omega arith), ((λ z. omega arith), ((λ z. omega arith), (tt, tt))))) (good_stands m g p e) k
    own (remove c i q) h same kp k = absurd kp
    own (recency q v) h same kp k = stands_all Y x (stores_of (recency q v)) m ((λ z. omega arith), tt) (good_stands m g p e) k

    never_block : (b : Block) → Fits Y m b → Keeps (b ∷ []) ⊎ (x ≢ subject m b) → (k : ℕ) → Stands Y (apply_all (take k (stores_of b)) m) x
    never_block b h st k =
        dite (ℕ_discrete x (subject m b)) (λ same. ⊎_elim (λ kp. own b h same kp k) (λ ne. absurd (ne same)) st)
        λ ne. let w = view Y L m g x nz in
        view_stands Y x (apply_all (take k (stores_of b)) m) w.0 (view_stores Y x w.1 (stores_of b) (spares Y L m g x nz w.0 w.1 b h ne) k) p (w.1.only p e)

  silent_keeps : (b : Block) → Silent b → Keeps (b ∷ [])
  silent_keeps (move c f t y) s = tt
  silent_keeps (enter c p i y a v s) s' = absurd s'
  silent_keeps (update c p v s) s' = absurd s'
  silent_keeps (remove c i p) s' = absurd s'
  silent_keeps (recency p v) s = tt

  silent_animal : (b : Block) → Silent b → (m : Mem) (p : ℕ) → animal (whole b m).items p ≡ animal m.items p
  silent_animal (move c f t y) s m p = refl
  silent_animal (enter c q i y a v s) s' m p = absurd s'
  silent_animal (update c q v s) s' m p = absurd s'
  silent_animal (remove c i q) s' m p = absurd s'
  silent_animal (recency q v) s m p = cleared_animal m.items q v p

  later : (b : Block) (bs : List Block) → Keeps (b ∷ bs) → Keeps bs
  later (move c f t y) bs h = h
  later (enter c p i y a v s) bs h = h
  later (update c p v s) bs h = h
  later (remove c i p) bs h = absurd h
  later (recency p v) bs h = h

  never_tale : (a : ℕ) {m : Mem} {bs : List Block} → WellFormed Y m → (p : ℕ) → animal m.items p ≡ x → Keeps bs ⊎ (x ≢ a) → Tale Y a m bs
      → (k : ℕ) → Stands Y (apply_all (take k (stores bs)) m) x
  unfolding stores
  never_tale a {m} g p e st done k = subst (λ ss. Stands Y (apply_all ss m) x) (sym (take-nil k)) (good_stands m g p e)
  never_tale a {m} g p e st (quiet {b = b} {bs = bs} f s t) k =
      dite (dec_le k (length (stores_of b)))
      (λ h. subst (λ ss. Stands Y (apply_all ss m) x) (sym (take-append-le k (stores_of b) (stores bs) h)) (never_block m g p e b f (inl (silent_keeps b s)) k))
      λ h. subst (λ m'. Stands Y m' x)
      (sym (ap (λ ss. apply_all ss m) (take_past (stores_of b) (stores bs) k (omega arith)) ∙ all_append (stores_of b) (take (k - length (stores_of b)) (stores bs)) m))
      (never_tale a (keep Y L m g b f) p (silent_animal b s m p ∙ e) (⊎_elim (λ c. inl (later b bs c)) inr st) t (k - length (stores_of b)))
  never_tale a {m} g p e st (last {b = b} f q) k =
      subst (λ ss. Stands Y (apply_all (take k ss) m) x) (sym (append-nil (stores_of b))) (never_block m g p e b f (⊎_elim inl (λ ne. inr (rw q ne)) st) k)

-- a set takes no entry away
record Keeping (o : Outcome) : Type 0 where
  keeps : Keeps o.blocks

module _ (Y : Shape) (m : Mem) where
  pass : (b : Bool) {o o' : Outcome} → Keeping o → Keeping o' → Keeping (choose b o o')
  pass true k k' = k
  pass false k k' = k'

  refusal : (n : ℕ) → Keeping (refuse n)
  refusal n = record { keeps = tt }

  moves_keep : (T : List ℕ) (ms : List Move) (q : Grant) (p i : ℕ) → Keeps (move_blocks Y T ms ++ (enter_block Y q p i ∷ []))
  moves_keep T [] q p i = tt
  moves_keep T (u ∷ ms) q p i = moves_keep (moved T u) ms q p i

  new_keeps : (q : Grant) (o : Option ℕ) → Keeping (enter_at Y m q o)
  new_keeps q None = refusal 5
  new_keeps q (Some p) =
      let x = q.animal in
      pass (search_damage Y m x) (refusal 4) (pass (eqb (stopped Y m x) (length (visited Y m x))) (refusal 6)
      (record { keeps = moves_keep m.slots (moves_found Y m x) q p (final_slot Y m x) }))

  set_at_keeps : (q : Grant) (o : Option ℕ) → Keeping (set_at Y m q o)
  set_at_keeps q None = new_keeps q (vacant_place Y.places m.items)
  set_at_keeps q (Some p) = pass (late (stamp m.items p) q) (refusal 11) (record { keeps = tt })

  set_keeps : (q : Grant) → Keeping (call Y m (set_animal q))
  set_keeps q =
      let x = q.animal in
      pass (eqb x 0) (refusal 2) (pass (bad_grant q) (refusal 3)
      (pass (busy Y m x) (refusal 8) (pass (home_damage Y m x) (refusal 4) (set_at_keeps q (held Y m x)))))

  kept : (c : Call) → HasCut c → (x : ℕ) → x ≢ gone c (call Y m c).answer → Keeps (call Y m c).blocks ⊎ (x ≢ about c (call Y m c).answer)
  kept (read a limit now) h x ne = absurd h
  kept (serve a limit now) h x ne = absurd h
  kept (find a) h x ne = absurd h
  kept (set_animal q) h x ne = inl (set_keeps q).keeps
  kept (delete a) h x ne = inr ne
  kept (evict hand) h x ne = inr ne
  kept (write_list size) h x ne = absurd h
  kept (plan_set q) h x ne = absurd h
  kept (step_move q v) h x ne = absurd h
  kept (step_enter q p i) h x ne = absurd h

-- the walk finds the animal
walk_sound : (M : ℕ) (l : List ℕ) (x p : ℕ) → walk_to l x M 0 ≡ Some p → animal l p ≡ x
walk_sound M l x p e = go (walk_is l x M 0) e
  where
    go : {o : Option ℕ} → First (λ q. eqb (animal l q) x) (range 0 M) o → o ≡ Some p → animal l p ≡ x
    go (found {i = i} q t) e = let f : i ≡ p = cc in rw (← f) (eqb-true (animal l i) x t)
    go (missing h) e = let z : ◌≡◌ {A = ℕ} 0 1 = cc in absurd (omega arith)

module _ (W : Ways) where
  pub our_never : NeverLost W (ours W)
  our_never s c t h x p nz e ne k =
      let m : Mem = table W (ours W) s in
      let Z : Shape = shape_in W s in
      let g = well_story W s in
      let L = lawY W s.memory s.right in
      subst (λ m'. Stands Z m' x) (sym (cut_is W s.memory s.right m g c k))
      (never_tale Z L x nz (about c (call Z m c).answer) g p
      (walk_sound Z.places m.items x p (ap (λ l. walk_to l x Z.places 0) (same_story W s) ∙ e))
      (kept Z m c h x (λ f. ne (f ∙ ap (gone c) (sym (answer_is W s.memory s.right m g c)))))
      (step Z L m g c t).tale k)

pub gate_never : NeverLost four gate
gate_never = our_never four

pub eight_never : NeverLost eight (ours eight)
eight_never = our_never eight
