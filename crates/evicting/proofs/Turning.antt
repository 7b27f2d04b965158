-- Evict, whole and cut: a law a way out, in the code's own words. Assumes nothing.
use Prim.Native.Nat.{ℕ, zero, suc, ◌+◌, ◌*◌, ◌≤◌, ◌-◌, ◌%◌, min}
use native.Mathlib.Omega.{arith}
use mathlib.Core.Path.{◌≡◌, refl, sym, ap, ◌∙◌, subst}
use mathlib.Core.Bool.{◌&&◌}
use Rattle.std.specs.Prelude.{Option, Some, None, Ok, Err}
use mathlib.Core.List.{List, [], ◌∷◌, ◌++◌, append-nil}
use lib.ListN.{length, length-append}
use lib.Dec.{leb}
use Rattle.model.specs.Choice.{choose}
use Rattle.model.specs.Memory.{Mem, animal, is_recent, live, mem}
use Rattle.model.specs.Shape.{Shape, Ways, counter_of, right_lengths, shape_of}
use Rattle.model.specs.Stores.{Block, Store, item_to, remove, stores, stores_of}
use Rattle.model.specs.Answers.{evicted, hand_back}
use Rattle.model.specs.Calling.{evict}
use Rattle.model.specs.Clock.{Victim, clears, next_hand, passed_recent, prepend, victim}
use Rattle.model.specs.Calls.{busy, call, clear_blocks, evict_at, evict_slot, home_damage, refuse, slot_of, some_live}
use Rattle.model.specs.Lent.{lent_call}
use Rattle.model.proofs.ListLaws.{bool}
use Rattle.model.proofs.Lent.{fit}
use Rattle.model.proofs.Clock.{next_mod}
use Rattle.blocks.specs.Made.{Made, all_stores}
use Rattle.blocks.proofs.Laws.{made_append}
use Rattle.blocks.proofs.Budget.{Few, did_all, does_made, does_refuse, few_or, few_refuse}
use Rattle.aiming.specs.Aiming.{Aim, Readies, Ready, aiming, passed_by, places_in}
use Rattle.evicting.specs.Evict.{EvictCut, Evicted, TurnsAs, clear_stores, evict_stores}
use Rattle.places.specs.declared.Hand.{Hand}
use Rattle.aiming.specs.declared.Target.{Target}
use Rattle.evicting.specs.declared.Turned.{Turned}
use Rattle.model.specs.declared.Refusal.{Refusal}

-- the stores of the clears and of one block more
blocks_stores : (ps : List ℕ) (b : Block) → stores (clear_blocks ps ++ (b ∷ [])) ≡ clear_stores ps ++ stores_of b
unfolding stores
blocks_stores [] b = append-nil (stores_of b)
blocks_stores (p ∷ ps) b = ap (λ (ss : List Store). item_to (4 * p + 3) 0 ∷ ss) (blocks_stores ps b)

-- the clears, of the places that were counted, and then the delete
pub stores_made : (m : Mem) (hand : ℕ) (t : Target) {k count l l' : ℕ} {t₁ : List ℕ} {m' : Mem}
    → count ≡ min (t.looked - 1) (places_in m)
    → ((s c : List ℕ) → Made (clear_stores (passed_recent (places_in m) m.items count hand)) k (mem s c m.items) (mem s c t₁) l)
    → Made (stores_of (remove t.counter t.slot t.place)) l (mem m.slots m.counters t₁) m' l'
    → Made (evict_stores m hand t) k m m' l'
stores_made m hand t e d d' = made_append (rw e at (d m.slots m.counters)) d'

-- the do
module _ {m : Mem} {a : Aim} where
  -- a refusal makes no store, cut anywhere, and the hand comes back as it was
  pub turn_refused : {k : ℕ} {n : Refusal} {h : Hand} → a ≡ Err n → TurnsAs (aiming m h.at a) h.at k m m (record { answer = Err n; hand = h })
  turn_refused {h = h} e = record { does = does_refuse (ap (aiming m h.at) e); back = sym (ap (λ a. hand_back h.at (aiming m h.at a).answer) e) }

  module _ {hand : ℕ} {t : Target} (w : Readies m hand a) (e : a ≡ Ok t) where
    pub turn_ready : Ready m hand t
    turn_ready = subst (Readies m hand) e w

    pub turn_taken : {k l : ℕ} {m' : Mem} {g : Hand} → Made (evict_stores m hand t) k m m' l → g.at ≡ next_hand (places_in m) t.place
        → TurnsAs (aiming m hand a) hand k m m' (record { answer = Ok (record { victim = t.animal; looked = t.looked }); hand = g })
    turn_taken {k} {l} {m'} {g} d n =
        let f : g.at ≡ (t.place + 1) % places_in m = n ∙ next_mod (places_in m) t.place turn_ready.place_below in
        let b = remove t.counter t.slot t.place in
        record {
          does = does_made {l = l} (evicted t.animal t.looked g.at) (clear_blocks (passed_by m hand t) ++ (b ∷ []))
              (ap (aiming m hand) e ∙ ap (λ h. record { answer = evicted t.animal t.looked h; blocks = clear_blocks (passed_by m hand t) ++ (b ∷ []) }) (sym f))
              (rw (blocks_stores (passed_by m hand t) b) d);
          back = f ∙ sym (ap (λ a. hand_back hand (aiming m hand a).answer) e);
        }

few_clears : (M : ℕ) (l : List ℕ) (k h : ℕ) → length (clear_stores (passed_recent M l k h)) ≤ k
unfolding passed_recent
few_clears M l zero h = omega arith
few_clears M l (suc k) h =
    bool (λ b. length (clear_stores (prepend b h (passed_recent M l k (next_hand M h)))) ≤ suc k) (live l h && is_recent l h)
    (λ e. omega (arith, few_clears M l k (next_hand M h))) λ e. omega (arith, few_clears M l k (next_hand M h))

-- at most a clear for each place, and the seven stores of a delete
module _ (Y : Shape) (m : Mem) (hand : ℕ) where
  few_slot : (v : Victim) (x : ℕ) (o : Option ℕ) → Few (Y.places + 7) (evict_slot Y m hand v x o)
  few_slot v x None = few_refuse 4
  few_slot v x (Some i) =
      let b = remove (counter_of Y x) i v.place in
      record {
        few = rw (blocks_stores (clears Y.places m.items hand v) b, length-append)
            (omega (arith, few_clears Y.places m.items (min (v.looked - 1) Y.places) hand));
      }

  few_at : (o : Option Victim) → Few (Y.places + 7) (evict_at Y m hand o)
  few_at None = few_refuse 10
  few_at (Some v) =
      let x = animal m.items v.place in
      few_or (busy Y m x) (few_refuse 8) (few_or (home_damage Y m x) (few_refuse 4) (few_slot v x (slot_of Y m x v.place)))

  few_call : Few (Y.places + 7) (call Y m (evict hand))
  few_call =
      few_or (leb Y.places hand) (few_refuse 1)
      (few_or (some_live Y.places m.items) (few_at (victim Y.places m.items hand)) (few_refuse 7))

few_evict : (W : Ways) (m : Mem) (hand : ℕ) → Few 4103 (lent_call W m (evict hand))
few_evict W m hand =
    bool (λ b. right_lengths W m ≡ b → Few 4103 (choose b (call (shape_of W m) m (evict hand)) (refuse 1))) (right_lengths W m)
    (λ e right. record { few = omega (arith, (few_call (shape_of W m) m hand).few, (fit W m right).few) }) (λ e right. few_refuse 1) refl

-- all of the stores, by the cut form
pub evict_done : (W : Ways) (m : Mem) (hand : ℕ) {m' : Mem} {r : Turned} → EvictCut W m hand all_stores m' r → Evicted W m hand m' r
evict_done W m hand c = record { did = did_all (few_evict W m hand) (omega arith) c.does; back = c.back }
