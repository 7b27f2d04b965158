-- The four numbers of an animal lie in the runs of a table of good lengths. Assumes nothing.
use Prim.Native.Nat.{ℕ, ◌+◌, ◌*◌, ◌<◌, ◌≤◌, ◌%◌, ◌/◌, ◌^◌, min}
use native.Mathlib.Nat.{mod-lt, mul-le-mul_right, suc-mul}
use native.Mathlib.Omega.{arith}
use mathlib.Core.Path.{◌≡◌, refl}
use mathlib.Core.Bool.{true, false, Bool, ◌&&◌}
use mathlib.Core.List.{List}
use lib.ListN.{length}
use lib.Dec.{eqb, leb}
use borrow.Author.Tests.{leb-true}
use Rattle.model.specs.Memory.{Mem, mem}
use Rattle.model.specs.Hash.{Size}
use Rattle.model.specs.Shape.{Ways, good_counters, good_items, good_lengths, good_slots, right_lengths, second_of, shape_of}
use Rattle.model.proofs.Hash.{size_most}
use Rattle.model.proofs.ListLaws.{true_false}
use Rattle.model.proofs.ShapeLaws.{Lawful}
use Rattle.model.proofs.Lent.{fit, law}
use Rattle.hashing.specs.Homes.{HomesAre}
use Rattle.looking.specs.Look.{HomesIn}
use Rattle.hashing.specs.declared.Homes.{Homes}

both : (b c : Bool) → (b && c) ≡ true → (b ≡ true) × (c ≡ true)
both true c e = (refl, e)
both false c e = true_false e refl

-- the numbers of buckets, counters and places fit 32 bits
module _ (W : Ways) (s c i : List ℕ) (right : right_lengths W (mem s c i) ≡ true) where
  pub buckets_fit : length s / W.ways < 2 ^ 32
  buckets_fit = omega (arith, size_most (fit W (mem s c i) right).size)

  pub counters_fit : length c < 2 ^ 32
  counters_fit = omega (arith, (fit W (mem s c i) right).few_counters)

  pub places_fit : length i / 4 < 2 ^ 32
  places_fit = omega (arith, (fit W (mem s c i) right).few)

  -- there is a place, and a slot word can name each
  pub places_some : 1 ≤ length i / 4
  unfolding good_lengths good_items
  places_some =
      let a = both (good_slots W (length s)) (good_counters (length c) && good_items (length i)) right in
      let b = both (good_counters (length c)) (good_items (length i)) a.1 in
      let d = both (eqb (length i % 4) 0) (leb 4 (length i) && leb (length i) 16384) b.1 in
      omega (arith, leb-true 4 (length i) (both (leb 4 (length i)) (leb (length i) 16384) d.1).0)

  pub places_named : length i / 4 ≤ 65536
  places_named = omega (arith, (fit W (mem s c i) right).few)

module _ (W : Ways) (m : Mem) (right : right_lengths W m ≡ true) where
  -- what the hash takes
  pub size_is : Size (length m.slots / W.ways) × (0 < length m.counters)
  size_is = let f = fit W m right in (f.size, f.some)

  -- a bucket's slots lie in the run
  bucket_in : (b : ℕ) → b < length m.slots / W.ways → b * W.ways + W.ways ≤ length m.slots
  bucket_in b l = omega (arith, suc-mul b W.ways, mul-le-mul_right W.ways l, (fit W m right).slots_fit)

  pub homes_lie : (x : ℕ) {r : Homes} → HomesAre (length m.slots / W.ways) (length m.counters) x r → HomesIn W m x r
  homes_lie x {r} h =
      let L : Lawful (shape_of W m) = law W m right in
      let Y = shape_of W m in
      record {
        tag_is = h.tag_is;
        first_is = h.first_is;
        second_is = h.second_is;
        counter_is = h.counter_is;
        tag_low = rw h.tag_is (L.tag_low x);
        tag_high = rw h.tag_is (omega (arith, L.tag_high x));
        first_in = rw h.first_is (bucket_in (Y.first_of x) (L.first_in x));
        second_in = rw h.second_is (bucket_in (second_of Y x) (L.other_in (Y.tag_of x) (Y.first_of x) (L.first_in x)));
        counter_in = rw h.counter_is (mod-lt (min (Y.first_of x) (second_of Y x)) L.some_counter);
      }
