-- The words of a visited bucket, slot after slot: what is so before one, and what they come to. Assumes nothing.
use Prim.Native.Nat.{ℕ, ◌<◌, ◌≤◌}
use native.Mathlib.Omega.{arith}
use mathlib.Core.Path.{◌≡◌}
use mathlib.Core.Bool.{true, false}
use mathlib.Core.List.{List}
use lib.ListN.{length, get_or, take}
use lib.Dec.{eqb}
use borrow.Author.Tests.{eq-eqb, lt-ltb, le-ltb}
use Rattle.std.specs.Prelude.{Some, None, Ok, Err}
use Rattle.std.specs.List.{list_any, position_or_len}
use Rattle.std.proofs.lemmas.List.Folds.{list_any_at}
use Rattle.std.proofs.lemmas.List.Sums.{position_or_len_is}
use Rattle.model.specs.Memory.{damaged}
use Rattle.model.specs.declared.Refusal.TheVariants.{Damaged}
use Rattle.paths.specs.Buckets.{sound_free}

module _ (m : ℕ) (w : List ℕ) where
  -- no word before slot i is damaged
  pub record Sound (i : ℕ) : Type 0 where
    pub sound : list_any (damaged m) (take i w) ≡ false

  -- none at all is damaged, and none before slot i is free
  pub record Taken (i : ℕ) : Type 0 where
    pub unharmed : list_any (damaged m) w ≡ false
    pub taken : (k : ℕ) → k < i → eqb (get_or w k 0) 0 ≡ false

  -- a damaged word
  pub harmed : {i : ℕ} → i < length w → damaged m (get_or w i 0) ≡ true → sound_free m w ≡ Err Damaged
  harmed {i} h e = rw (list_any_at (damaged m) w i 0 h e)

module _ {m : ℕ} {w : List ℕ} where
  -- the first free slot; and none
  pub has_room : {s : ℕ} → Taken m w s → s < length w → get_or w s 0 ≡ 0 → sound_free m w ≡ Ok (Some s)
  has_room {s} t h z =
      let p : position_or_len (λ y. eqb y 0) w ≡ s = position_or_len_is (λ y. eqb y 0) w s 0 (omega arith) t.taken (λ l. eq-eqb _ 0 z) in
      rw (t.unharmed, p, lt-ltb s (length w) h)

  pub is_crowded : {s : ℕ} → Taken m w s → length w ≤ s → sound_free m w ≡ Ok None
  is_crowded {s} t h =
      let p : position_or_len (λ y. eqb y 0) w ≡ length w =
      position_or_len_is (λ y. eqb y 0) w (length w) 0 (omega arith) (λ k l. t.taken k (omega arith)) (λ l. absurd (omega arith)) in
      rw (t.unharmed, p, le-ltb (length w) (length w) (omega arith))
