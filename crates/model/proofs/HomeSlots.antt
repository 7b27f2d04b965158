-- The home slots of an animal are the slots of its two buckets. Assumes nothing.
use Prim.Native.Nat.{ℕ, ◌+◌, ◌-◌, ◌*◌, ◌/◌, ◌<◌}
use native.Mathlib.Nat.{mod-lt, div-add-mod'}
use native.Mathlib.Omega.{arith}
use native.Mathlib.Decide.{ℕ_discrete}
use mathlib.Core.Path.{◌≡◌}
use mathlib.Core.Logic.{◌≢◌, inl, inr, ⊎_elim, dite}
use mathlib.Core.List.Memᴰ
use mathlib.Core.List.Memᴰ.{append_cases}
use mathlib.Core.List.{Memᴰ as In}
use lib.ListN.{length}
use lib.Arith.{digits_div}
use Rattle.model.specs.Memory.{Mem, word}
use Rattle.model.specs.Shape.{Home, Shape, bucket, homes, second_of, slots_of}
use Rattle.model.proofs.ListLaws.{in_range, inside_held, range_in}

module _ (Y : Shape) where
  in_slots : {i b : ℕ} → i < Y.buckets * Y.layout.ways → bucket Y i ≡ b → In i (slots_of Y b)
  in_slots {i} {b} h e =
      let pos : 0 < Y.layout.ways = dite (ℕ_discrete Y.layout.ways 0) (λ z. absurd (omega (arith, rw z at h))) (λ nz. omega arith) in
      rw (← e) (range_in (i / Y.layout.ways * Y.layout.ways) Y.layout.ways (omega (arith, div-add-mod' i Y.layout.ways))
      (omega (arith, div-add-mod' i Y.layout.ways, mod-lt i pos)))

  slots_in : {i : ℕ} (b : ℕ) → In i (slots_of Y b) → bucket Y i ≡ b
  slots_in {i} b q =
      let r = in_range (b * Y.layout.ways) Y.layout.ways q in
      let s : i - b * Y.layout.ways < Y.layout.ways = omega (arith, r.0, r.1) in
      let e : b * Y.layout.ways + (i - b * Y.layout.ways) ≡ i = omega (arith, r.0) in
      rw e at (digits_div b s)

  -- an occupied slot of one of its buckets is one of them, and each of them lies in one of its buckets
  pub home_in : (m : Mem) → length m.slots ≡ Y.buckets * Y.layout.ways → {x i : ℕ} → word m i ≢ 0 → Home Y x (bucket Y i) → In i (homes Y x)
  home_in m long {x} {i} nz h =
      let l : i < Y.buckets * Y.layout.ways = rw (← long) (inside_held m.slots i nz) in
      ⊎_elim (λ e. Memᴰ.append_left (slots_of Y (second_of Y x)) (in_slots l e)) (λ e. Memᴰ.append_right (slots_of Y (Y.first_of x)) (in_slots l e)) h

  pub in_home : (x i : ℕ) → In i (homes Y x) → Home Y x (bucket Y i)
  in_home x i q =
      ⊎_elim (λ r. inl (slots_in (Y.first_of x) r)) (λ r. inr (slots_in (second_of Y x) r)) (append_cases (slots_of Y (Y.first_of x)) q)
