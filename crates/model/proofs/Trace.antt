-- Our stores as writes of words, and what fresh leaves. Assumes nothing.
use Prim.Native.Nat.{ℕ, suc, zero}
use mathlib.Core.Path.{◌≡◌, refl, ap, ◌∙◌}
use mathlib.Core.List.{List, [], ◌∷◌, ◌++◌, map}
use lib.ListN.{length, set, take, replicate}
use Rattle.model.specs.Choice.{range}
use Rattle.model.specs.Memory.{Mem}
use Rattle.model.specs.Stores.{Block, Store, apply, apply_all, bump, item_to, slot_to, stores, stores_of, whole, wholes}
use Rattle.model.specs.AnyTable.{Write, counter, item, make, make_all, slot}
use Rattle.model.specs.Ours.{traced, wipe}
use Rattle.model.proofs.ListLaws.{all_append}

pub trace_cut : (ss : List Store) (m : Mem) (k : ℕ) → make_all (take k (traced m ss)) m ≡ apply_all (take k ss) m
trace_cut [] m zero = refl
trace_cut [] m (suc k) = refl
trace_cut (s ∷ ss) m zero = refl
trace_cut (bump c ∷ ss) m (suc k) = trace_cut ss (apply (bump c) m) k
trace_cut (slot_to i x ∷ ss) m (suc k) = trace_cut ss (apply (slot_to i x) m) k
trace_cut (item_to i x ∷ ss) m (suc k) = trace_cut ss (apply (item_to i x) m) k

pub trace_all : (ss : List Store) (m : Mem) → make_all (traced m ss) m ≡ apply_all ss m
trace_all [] m = refl
trace_all (bump c ∷ ss) m = trace_all ss (apply (bump c) m)
trace_all (slot_to i x ∷ ss) m = trace_all ss (apply (slot_to i x) m)
trace_all (item_to i x ∷ ss) m = trace_all ss (apply (item_to i x) m)

pub wholes_stores : (bs : List Block) (m : Mem) → apply_all (stores bs) m ≡ wholes bs m
unfolding stores
wholes_stores [] m = refl
wholes_stores (b ∷ bs) m = all_append (stores_of b) (stores bs) m ∙ wholes_stores bs (whole b m)

-- zero everywhere
abbrev zeroed : ℕ → ℕ → List ℕ → List ℕ
zeroed a zero l = l
zeroed a (suc n) l = zeroed (suc a) n (set l a 0)

shift : (n a x : ℕ) (l : List ℕ) → ◌≡◌ {A = List ℕ} (zeroed (suc a) n (x ∷ l)) (x ∷ zeroed a n l)
shift zero a x l = refl
shift (suc n) a x l = shift n (suc a) x (set l a 0)

zeroed_is : (l : List ℕ) → ◌≡◌ {A = List ℕ} (zeroed 0 (length l) l) (replicate (length l) 0)
zeroed_is [] = refl
zeroed_is (x ∷ l) = shift (length l) 0 0 l ∙ ap (λ (r : List ℕ). 0 ∷ r) (zeroed_is l)

make_append : (xs ys : List Write) (m : Mem) → make_all (xs ++ ys) m ≡ make_all ys (make_all xs m)
make_append [] ys m = refl
make_append (x ∷ xs) ys m = make_append xs ys (make x m)

wiped_slots : (n a : ℕ) (m : Mem) → make_all (map (λ i. slot i 0) (range a n)) m ≡ record { slots = zeroed a n m.slots; counters = m.counters; items = m.items }
unfolding range
wiped_slots zero a m = refl
wiped_slots (suc n) a m = wiped_slots n (suc a) (make (slot a 0) m)

wiped_counters : (n a : ℕ) (m : Mem) → make_all (map (λ i. counter i 0) (range a n)) m ≡ record { slots = m.slots; counters = zeroed a n m.counters; items = m.items }
unfolding range
wiped_counters zero a m = refl
wiped_counters (suc n) a m = wiped_counters n (suc a) (make (counter a 0) m)

wiped_items : (n a : ℕ) (m : Mem) → make_all (map (λ i. item i 0) (range a n)) m ≡ record { slots = m.slots; counters = m.counters; items = zeroed a n m.items }
unfolding range
wiped_items zero a m = refl
wiped_items (suc n) a m = wiped_items n (suc a) (make (item a 0) m)

abbrev pub blank : ℕ → ℕ → ℕ → Mem
blank s v i = record { slots = replicate s 0; counters = replicate v 0; items = replicate i 0 }

pub wiped : (m : Mem) → make_all (wipe m) m ≡ blank (length m.slots) (length m.counters) (length m.items)
wiped m =
    make_append (map (λ i. slot i 0) (range 0 (length m.slots))) (map (λ i. counter i 0) (range 0 (length m.counters)) ++ map (λ i. item i 0) (range 0 (length m.items))) m
    ∙ ap (make_all (map (λ i. counter i 0) (range 0 (length m.counters)) ++ map (λ i. item i 0) (range 0 (length m.items)))) (wiped_slots (length m.slots) 0 m)
    ∙ make_append (map (λ i. counter i 0) (range 0 (length m.counters))) (map (λ i. item i 0) (range 0 (length m.items))) m₁
    ∙ ap (make_all (map (λ i. item i 0) (range 0 (length m.items)))) (wiped_counters (length m.counters) 0 m₁)
    ∙ wiped_items (length m.items) 0 (record { slots = m₁.slots; counters = zeroed 0 (length m.counters) m.counters; items = m.items })
    ∙ rw (zeroed_is m.slots, zeroed_is m.counters, zeroed_is m.items)
  where
    m₁ : Mem
    m₁ = record { slots = zeroed 0 (length m.slots) m.slots; counters = m.counters; items = m.items }
