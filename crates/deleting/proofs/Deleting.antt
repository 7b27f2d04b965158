-- Delete: a law a way out, in the code's own words. Assumes nothing.
use Prim.Native.Nat.{ℕ, ◌*◌, ◌%◌}
use native.Mathlib.Omega.{arith}
use mathlib.Core.Path.{◌≡◌, refl, sym, ap, ◌∙◌, ap₂}
use mathlib.Core.Bool.{Bool, true, false}
use mathlib.Core.List.{List, [], ◌∷◌, ◌++◌}
use lib.ListN.{get_or}
use lib.Dec.{eqb}
use borrow.Author.Tests.{eq-eqb, ne_eqb}
use Rattle.std.specs.Prelude.{Option, Some, None, Result, Ok, Err, option_map}
use Rattle.model.specs.Choice.{choose, first, range}
use Rattle.model.specs.Memory.{Mem, animal, place, tag, word}
use Rattle.model.specs.Said.{said_deleting}
use Rattle.model.specs.Shape.{Shape, Ways, homes, shape_of}
use Rattle.model.specs.Stores.{remove, stores_of, stores}
use Rattle.model.specs.Answers.{deleted}
use Rattle.model.specs.Calling.{delete}
use Rattle.model.specs.Calls.{Outcome, delete_at, hit, hits, place_at, refuse}
use Rattle.model.specs.Lent.{lent_call}
use Rattle.model.specs.Promised.{CutAs, WholeAs}
use Rattle.model.proofs.ListLaws.{First, bool, first_is, found, missing, true_false}
use Rattle.looking.specs.Look.{LooksUp, Passed}
use Rattle.looking.proofs.Looking.{look_holds, look_lacks}
use Rattle.looking.proofs.OwnWords.{hit_words}
use Rattle.blocks.specs.Made.{Made, all_stores}
use Rattle.blocks.proofs.Budget.{Few, did_all, does_one, does_refuse, few_asked, few_refuse}
use Rattle.deleting.specs.Removing.{removing}
use Rattle.deleting.specs.declared.Removal.{Removal}
use Rattle.looking.specs.declared.Looked.{Looked}
use Rattle.model.specs.declared.Refusal.{Refusal}

-- the first slot with a word is the hit, where it is the word of a hit
same_word : (F : ℕ → Bool) (g : ℕ → ℕ) (is : List ℕ) (i : ℕ) → first (λ j. F (g j)) is ≡ Some i → first (λ j. eqb (g j) (g i)) is ≡ Some i
unfolding first
same_word F g [] i e = let z : ◌≡◌ {A = ℕ} 0 1 = cc in absurd (omega arith)
same_word F g (j ∷ is) i e =
    bool (λ b. F (g j) ≡ b → choose b (Some j) (first (λ j. F (g j)) is) ≡ Some i → choose (eqb (g j) (g i)) (Some j) (first (λ j. eqb (g j) (g i)) is) ≡ Some i)
    (F (g j)) (λ t q e. let f : j ≡ i = cc in rw (eq-eqb (g j) (g i) (ap g f), f))
    (λ t q e. rw (ne_eqb (g j) (g i) (λ s. true_false (passes is e) (ap F (sym s) ∙ q))) (same_word F g is i e)) refl e
  where
    passes : (is : List ℕ) → first (λ j. F (g j)) is ≡ Some i → F (g i) ≡ true
    passes is e = go (first_is (λ j. F (g j)) is) e
      where
        go : {o : Option ℕ} → First (λ j. F (g j)) is o → o ≡ Some i → F (g i) ≡ true
        go (found {i = k} q t) e = let f : k ≡ i = cc in rw (← f) t
        go (missing h) e = let z : ◌≡◌ {A = ℕ} 0 1 = cc in absurd (omega arith)

-- the look
module _ (W : Ways) (m : Mem) (x : ℕ) {r : Looked} (p : Passed W m x false) (l : LooksUp W m x r) where
  abbrev Y : Shape
  Y = shape_of W m

  abbrev rest : Outcome
  rest = delete_at Y m x (hit Y m x)

  pub removal_absent : r.hit ≡ Ok None → refuse 7 ≡ lent_call W m (delete x)
  removal_absent q =
      let s = look_lacks W m x false rest p l q in
      sym (s.0 ∙ ap (delete_at Y m x) (no_place (hit Y m x) s.1))
    where
      no_place : (o : Option ℕ) → place_at m o ≡ None → o ≡ None
      no_place None q = refl
      no_place (Some i) q = absurd (cc)

  module _ {w : ℕ} (q : r.hit ≡ Ok (Some w)) where
    -- the hit is a slot with that word
    hit_slot : (i : ℕ) × (hit Y m x ≡ Some i) × (word m i ≡ w)
    hit_slot = go (hit Y m x) refl (sym (hit_words W m x) ∙ (look_holds W m x false rest p l q).2)
      where
        go : (o : Option ℕ) → hit Y m x ≡ o → option_map (word m) o ≡ Some w → (i : ℕ) × (hit Y m x ≡ Some i) × (word m i ≡ w)
        go None e f = absurd (cc)
        go (Some i) e f = (i, e, cc)

    -- what the search for the word comes to
    module _ {s : Option ℕ} (e : s ≡ first (λ i. eqb (get_or m.slots i 0) w) (range (r.homes.first * W.ways) W.ways ++ range (r.homes.second * W.ways) W.ways)) where
      found_slot : s ≡ Some hit_slot.0
      unfolding hit hits
      found_slot =
          e ∙ ap₂ (λ (a b : ℕ). first (λ i. eqb (get_or m.slots i 0) w) (range (a * W.ways) W.ways ++ range (b * W.ways) W.ways))
          l.homes_are.first_is l.homes_are.second_is
          ∙ ap (λ v. first (λ j. eqb (word m j) v) (homes Y x)) (sym hit_slot.2)
          ∙ same_word (λ y. choose (eqb (tag y) (Y.tag_of x)) (eqb (animal m.items (place y)) x) false) (word m) (homes Y x) hit_slot.0 hit_slot.1

      pub removal_nowhere : s ≡ None → refuse 7 ≡ lent_call W m (delete x)
      removal_nowhere z = let f = found_slot in absurd (cc)

      pub removal_takes : {i : ℕ} → s ≡ Some i → removing (Ok (record { counter = r.homes.counter; slot = i; place = w % 65536 })) ≡ lent_call W m (delete x)
      unfolding place
      removal_takes {i} z =
          let f = found_slot in
          let j : i ≡ hit_slot.0 = cc in
          sym ((look_holds W m x false rest p l q).0 ∙ ap (delete_at Y m x) hit_slot.1
          ∙ ap₂ (λ (c y : ℕ). record { answer = deleted; blocks = remove c hit_slot.0 (y % 65536) ∷ [] }) (sym l.homes_are.counter_is) hit_slot.2
          ∙ ap (λ i. record { answer = deleted; blocks = remove r.homes.counter i (w % 65536) ∷ [] }) (sym j))

-- the call, cut and whole
module _ (W : Ways) (m : Mem) (x : ℕ) {d : Result Removal Refusal} (is : removing d ≡ lent_call W m (delete x)) where
  pub cut_refused : {r : Refusal} {k : ℕ} → d ≡ Err r → CutAs W m (delete x) k m (said_deleting (Err r))
  cut_refused q = does_refuse (sym is ∙ ap removing q)

  pub cut_done : {v : Removal} {k l : ℕ} {m' : Mem} → d ≡ Ok v → Made (stores_of (remove v.counter v.slot v.place)) k m m' l
      → CutAs W m (delete x) k m' deleted
  cut_done {v} {l = l} q made = does_one {l = l} deleted (remove v.counter v.slot v.place) (sym is ∙ ap removing q) made

few_delete : (W : Ways) (m : Mem) (x : ℕ) → Few 7 (lent_call W m (delete x))
unfolding stores
few_delete W m x = few_asked W m x false (few (hit (shape_of W m) m x))
  where
    few : (o : Option ℕ) → Few 7 (delete_at (shape_of W m) m x o)
    few None = few_refuse 7
    few (Some i) = record { few = omega arith }

pub whole_of_cut : (W : Ways) (m : Mem) (x : ℕ) (r : Result Unit Refusal) {m' : Mem} → CutAs W m (delete x) all_stores m' (said_deleting r)
    → WholeAs W m (delete x) m' (said_deleting r)
whole_of_cut W m x r d = did_all (few_delete W m x) (omega arith) d
