-- The lent table: right lengths are those of a lawful shape, and stores don't change them. Assumes nothing.
use Prim.Native.Nat.{ℕ, ◌+◌, ◌*◌, ◌^◌, ◌<◌, ◌≤◌, ◌%◌, ◌/◌}
use native.Mathlib.Nat.{div-add-mod'}
use native.Mathlib.Omega.{arith}
use mathlib.Core.Path.{◌≡◌, refl, sym, ap, ◌∙◌, subst}
use mathlib.Core.Bool.{Bool, true, false, ◌&&◌}
use mathlib.Core.List.{List, [], ◌∷◌}
use lib.ListN.{length, get_or, length-set}
use lib.Dec.{eqb, leb}
use borrow.Author.Tests.{eqb-true, leb-true}
use Rattle.model.specs.Choice.{choose, one_of}
use Rattle.model.specs.Memory.{Mem}
use Rattle.model.specs.Hash.{Size}
use Rattle.model.specs.Shape.{Shape, good_counters, good_items, good_lengths, good_slots, right_lengths, Ways, Sizes, shape_of}
use Rattle.model.specs.Stores.{Store, apply, apply_all, bump, item_to, slot_to}
use Rattle.model.specs.Calls.{Outcome, call, reading, refuse}
use Rattle.model.specs.Lent.{event_answer, lent_call}
use Rattle.model.specs.WellFormed.{WellFormed}
use Rattle.model.proofs.ShapeLaws.{Lawful, lawful}
use Rattle.model.proofs.ListLaws.{bool, true_false}
use Rattle.model.specs.Calling.{Call, did, read}

-- a good number of buckets is a power of two
size_of : (n : ℕ) (ns : List ℕ) → Sizes ns → one_of n ns ≡ true → Size n
size_of n [] h e = true_false e refl
size_of n (k ∷ ks) h e =
    bool (λ b. choose b true (one_of n ks) ≡ true → eqb n k ≡ b → Size n) (eqb n k) (λ t e f. subst Size (sym (eqb-true n k f)) h.0)
    (λ t e f. size_of n ks h.1 e) e refl

pub and_is : (b c : Bool) → (b && c) ≡ true → (b ≡ true) × (c ≡ true)
and_is true c e = (refl, e)
and_is false c e = true_false e refl

module _ (W : Ways) where
  -- what right lengths say
  pub record Fit (m : Mem) : Type 0 where
    pub size : Size (length m.slots / W.ways)
    pub slots_fit : length m.slots ≡ length m.slots / W.ways * W.ways
    pub some : 0 < length m.counters
    pub few_counters : length m.counters ≤ 1024
    pub items_fit : length m.items ≡ 4 * (length m.items / 4)
    pub few : length m.items / 4 ≤ 4096

  pub fit : (m : Mem) → right_lengths W m ≡ true → Fit m
  unfolding good_lengths good_slots good_counters good_items
  fit m e =
      let s = length m.slots in
      let v = length m.counters in
      let i = length m.items in
      let a = and_is (eqb (s % W.ways) 0 && one_of (s / W.ways) W.sizes) ((leb 1 v && leb v 1024) && (eqb (i % 4) 0 && (leb 4 i && leb i 16384))) e in
      let b = and_is (eqb (s % W.ways) 0) (one_of (s / W.ways) W.sizes) a.0 in
      let c = and_is (leb 1 v && leb v 1024) (eqb (i % 4) 0 && (leb 4 i && leb i 16384)) a.1 in
      let f = and_is (leb 1 v) (leb v 1024) c.0 in
      let g = and_is (eqb (i % 4) 0) (leb 4 i && leb i 16384) c.1 in
      let h = and_is (leb 4 i) (leb i 16384) g.1 in
      record {
        size = size_of (s / W.ways) W.sizes W.powers b.1;
        slots_fit = omega (arith, div-add-mod' s W.ways, eqb-true (s % W.ways) 0 b.0);
        some = leb-true 1 v f.0;
        few_counters = leb-true v 1024 f.1;
        items_fit = omega (arith, eqb-true (i % 4) 0 g.0);
        few = omega (arith, leb-true i 16384 h.1);
      }

  module _ (m₀ : Mem) (right : right_lengths W m₀ ≡ true) where
    abbrev Y : Shape
    Y = shape_of W m₀

    pub law : Lawful Y
    law =
        let f = fit m₀ right in
        lawful W (length m₀.slots / W.ways) (length m₀.counters) (length m₀.items / 4) f.size f.some (omega (arith, f.few))

    -- a memory with the same three lengths
    pub record Alike (m : Mem) : Type 0 where
      pub slots_same : length m.slots ≡ length m₀.slots
      pub counters_same : length m.counters ≡ length m₀.counters
      pub items_same : length m.items ≡ length m₀.items

    pub well_alike : {m : Mem} → WellFormed Y m → Alike m
    well_alike g =
        let f = fit m₀ right in
        record {
          slots_same = g.slots_long ∙ sym f.slots_fit;
          counters_same = g.counters_long;
          items_same = g.items_long ∙ sym f.items_fit;
        }

    store_alike : (s : Store) {m : Mem} → Alike m → Alike (apply s m)
    store_alike (bump c) {m} a =
        record {
          slots_same = a.slots_same;
          counters_same = length-set m.counters c ((get_or m.counters c 0 + 1) % 2 ^ 32) ∙ a.counters_same;
          items_same = a.items_same;
        }
    store_alike (slot_to i y) {m} a =
        record { slots_same = length-set m.slots i y ∙ a.slots_same; counters_same = a.counters_same; items_same = a.items_same }
    store_alike (item_to k v) {m} a =
        record { slots_same = a.slots_same; counters_same = a.counters_same; items_same = length-set m.items k v ∙ a.items_same }

    pub stores_alike : (ss : List Store) {m : Mem} → Alike m → Alike (apply_all ss m)
    stores_alike [] a = a
    stores_alike (s ∷ ss) {m} a = stores_alike ss {m = apply s m} (store_alike s a)

    module _ {m : Mem} (a : Alike m) where
      pub alike_right : right_lengths W m ≡ true
      alike_right = rw (a.slots_same, a.counters_same, a.items_same) right

      pub alike_shape : shape_of W m ≡ Y
      alike_shape = rw (a.slots_same, a.counters_same, a.items_same)

      pub alike_call : (c : Call) → lent_call W m c ≡ call Y m c
      alike_call c = ap (λ b. choose b (call (shape_of W m) m c) (refuse 1)) alike_right ∙ ap (λ Z. call Z m c) alike_shape

      pub alike_reading : (x limit now : ℕ) → event_answer W m (did (read x limit now)) ≡ reading Y m x limit now
      unfolding reading
      alike_reading x limit now = ap (λ (o : Outcome). o.answer) (alike_call (read x limit now))
