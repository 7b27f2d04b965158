-- Where the search stops, for any ways: at damage, at a free slot, or at the end of the visit list. Assumes nothing.
use Prim.Native.Nat.{ℕ, ◌+◌, ◌<◌, ◌≤◌}
use native.Mathlib.Omega.{arith}
use native.Mathlib.Decide.{dec_lt}
use mathlib.Core.Path.{◌≡◌, ap, ap₂, ◌∙◌}
use mathlib.Core.Logic.{dite}
use mathlib.Core.Bool.{true, false}
use Rattle.std.specs.Prelude.{Ok, Err}
use mathlib.Core.List.{List}
use lib.ListN.{length, get_or}
use borrow.Author.Count.{below_more}
use borrow.Author.Tests.{eq-eqb, ne_eqb}
use Rattle.model.specs.Shape.{Layout, Ways}
use Rattle.model.specs.Moves.{Free}
use Rattle.model.specs.Visits.{first_free, free_slot}
use Rattle.model.proofs.Search.{first_same, slot_is, stop_is}
use Rattle.model.specs.declared.Refusal.TheVariants.{Damaged, NoRoom}
use Rattle.paths.specs.Buckets.{layout_of}
use Rattle.paths.specs.Path.{room_from}
use Rattle.paths.proofs.Visits.{damage_met, damage_of, no_damage, visits_of}
use Rattle.searching.specs.Search.{FoundIs, at_end, meets_damage_in}

-- no bucket before position v has a damaged word or a free slot
pub record Behind (W : Ways) (n m : ℕ) (T : List ℕ) (b c v : ℕ) : Type 0 where
  pub sound : (i : ℕ) → i < v → damage_of W n T b c m i ≡ false
  pub full : (i : ℕ) → i < v → ¬ Free (layout_of W n) T (get_or (visits_of W n T b c) i 0)

pub behind_none : (W : Ways) (n m : ℕ) (T : List ℕ) (b c : ℕ) → Behind W n m T b c 0
behind_none W n m T b c = record { sound = λ i h. absurd (omega arith); full = λ i h. absurd (omega arith) }

module _ {W : Ways} {n m : ℕ} {T : List ℕ} {b c v : ℕ} (k : Behind W n m T b c v) where
  abbrev S : Layout
  S = layout_of W n

  abbrev Q : List ℕ
  Q = visits_of W n T b c

  abbrev q : ℕ
  q = first_free S T Q

  -- nor has the bucket there
  pub behind_more : damage_of W n T b c m v ≡ false → ¬ Free S T (get_or Q v 0) → Behind W n m T b c (v + 1)
  behind_more d f =
      record {
        sound = below_more (λ i. damage_of W n T b c m i ≡ false) v k.sound d;
        full = below_more (λ i. ¬ Free S T (get_or Q i 0)) v k.full f;
      }

  -- the whole list is visited
  pub stops_nowhere : v ≡ length Q → FoundIs W n m T b c (Err NoRoom)
  stops_nowhere e =
      let s : v ≡ q = first_same S T Q v (omega arith) (λ h. absurd (omega arith)) k.full in
      let no : meets_damage_in W n m T b c ≡ false = no_damage W n T b c m (λ i h l. k.sound i (omega arith)) in
      let end : at_end W n T b c ≡ true = eq-eqb q (length Q) (omega arith) in
      record { found_is = rw (no, end) }

  module _ (h : v < length Q) where
    -- it does not stop before
    not_before : v ≤ q
    not_before =
        let r = stop_is S T Q in
        dite (dec_lt q v)
        (λ l.
        let f = r.free (omega arith) in
        absurd (k.full q l (free_slot S T (get_or Q q 0), f, (slot_is S T (get_or Q q 0)).free f)))
        λ l. omega arith

    -- the bucket there is damaged
    pub stops_damaged : damage_of W n T b c m v ≡ true → FoundIs W n m T b c (Err Damaged)
    stops_damaged e =
        let yes : meets_damage_in W n m T b c ≡ true = damage_met W n T b c m v not_before h e in
        record { found_is = rw yes }

    -- it is not, and s is its lowest free slot
    pub stops_with_room : {s : ℕ} → damage_of W n T b c m v ≡ false → s < W.ways → s ≡ free_slot S T (get_or Q v 0)
        → FoundIs W n m T b c (Ok (room_from W n T Q v s))
    stops_with_room {s} d l e =
        let stops : v ≡ q = first_same S T Q v (omega arith)
        (λ z. (s, l, rw (← e) at ((slot_is S T (get_or Q v 0)).free (rw (← e) l)))) k.full in
        let no : meets_damage_in W n m T b c ≡ false
        = no_damage W n T b c m (λ i z y. below_more (λ i. damage_of W n T b c m i ≡ false) v k.sound d i (omega arith)) in
        let inside : at_end W n T b c ≡ false = ne_eqb q (length Q) (λ z. omega arith) in
        record { found_is = rw (no, inside) (ap Ok (ap₂ (room_from W n T Q) stops (e ∙ ap (λ p. free_slot S T (get_or Q p 0)) stops))) }
