-- What a reader of animal x relies on, and the stores that leave it alone. Assumes nothing.
use Prim.Native.Nat.{ℕ, zero, suc, ◌+◌, ◌*◌, ◌/◌, ◌%◌, ◌<◌}
use native.Mathlib.Omega.{arith}
use mathlib.Core.Path.{◌≡◌, refl, sym, ap, ◌∙◌}
use mathlib.Core.Logic.{◌≢◌, ◌⊎◌, inl, inr, ⊎_elim}
use mathlib.Core.Bool.{false}
use Rattle.std.specs.Prelude.{Option, Some, None}
use mathlib.Core.List.{List, [], ◌∷◌, Memᴰ as In}
use lib.ListN.{get_or, set, take}
use lib.Seq.{get_or-set_other}
use Rattle.model.specs.Memory.{Mem, animal, damaged, permission, place, stamp, tag, word}
use Rattle.model.specs.Shape.{Shape, homes}
use Rattle.model.specs.Stores.{Store, apply, apply_all, bump, item_to, slot_to}
use Rattle.model.specs.Answers.{Answer, absent}
use Rattle.model.specs.Age.{judge, verdict}
use Rattle.model.specs.Calls.{hit, hits, place_at}
use Rattle.model.proofs.ListLaws.{First, at_set, both_is, both_yes, first_is, found, missing, true_false}

-- an entry: its slot, place, permission and stamp
pub record Entry : Type 0 where
  pub slot : ℕ
  pub place : ℕ
  pub permission : ℕ
  pub stamp : ℕ

-- what is said of an entry
abbrev pub told : ℕ → ℕ → Option Entry → Answer
told limit now None = absent
told limit now (Some e) = verdict limit now e.permission e.stamp

module _ (Y : Shape) (x : ℕ) where
  -- the entry stands in memory
  pub record Stands (m : Mem) (e : Entry) : Type 0 where
    pub home : In e.slot (homes Y x)
    pub tagged : tag (word m e.slot) ≡ Y.tag_of x
    pub points : place (word m e.slot) ≡ e.place
    pub holds : animal m.items e.place ≡ x
    pub permission_is : permission m.items e.place ≡ e.permission
    pub stamp_is : stamp m.items e.place ≡ e.stamp

  abbrev pub StandsIn : Mem → Option Entry → Type 0
  StandsIn m None = Unit {0}
  StandsIn m (Some e) = Stands m e

  abbrev pub AtPlace : ℕ → Option Entry → Type 0
  AtPlace q None = ⊥
  AtPlace q (Some e) = q ≡ e.place

  -- x has the entry o, or none, and no other place holds x
  pub record View (o : Option Entry) (m : Mem) : Type 0 where
    pub stands : StandsIn m o
    pub only : (q : ℕ) → animal m.items q ≡ x → AtPlace q o
    pub sound : (i : ℕ) → damaged Y.places (word m i) ≡ false

  -- a store that leaves the entry o of x alone
  abbrev pub OffSlot : ℕ → Option Entry → Type 0
  OffSlot i None = Unit {0}
  OffSlot i (Some e) = i ≢ e.slot

  abbrev pub OffItem : ℕ → Option Entry → Type 0
  OffItem k None = Unit {0}
  OffItem k (Some e) = (k / 4 ≢ e.place) ⊎ (k % 4 ≡ 3)

  abbrev pub Spares : Option Entry → Store → Type 0
  Spares o (bump c) = Unit {0}
  Spares o (slot_to i y) = OffSlot i o × (damaged Y.places y ≡ false)
  Spares o (item_to k v) = OffItem k o × (k % 4 ≡ 0 → v ≢ x)

  abbrev pub AllSpare : Option Entry → List Store → Type 0
  AllSpare o [] = Unit {0}
  AllSpare o (s ∷ ss) = Spares o s × AllSpare o ss

  -- a word of the entry's place other than the recent one
  off : {k p j : ℕ} → (k / 4 ≢ p) ⊎ (k % 4 ≡ 3) → j < 3 → 4 * p + j ≢ k
  off (inl h) l e = h (omega arith)
  off (inr h) l e = absurd (omega arith)

  stands_store : (m : Mem) (o : Option Entry) → StandsIn m o → (s : Store) → Spares o s → StandsIn (apply s m) o
  stands_store m None r s h = tt
  stands_store m (Some e) r (bump c) h =
      record { home = r.home; tagged = r.tagged; points = r.points; holds = r.holds; permission_is = r.permission_is; stamp_is = r.stamp_is }
  stands_store m (Some e) r (slot_to i y) h =
      let same : get_or (set m.slots i y) e.slot 0 ≡ word m e.slot = get_or-set_other m.slots i e.slot y 0 (λ f. h.0 (sym f)) in
      record {
        home = r.home;
        tagged = ap tag same ∙ r.tagged;
        points = ap place same ∙ r.points;
        holds = r.holds;
        permission_is = r.permission_is;
        stamp_is = r.stamp_is;
      }
  stands_store m (Some e) r (item_to k v) h =
      record {
        home = r.home;
        tagged = r.tagged;
        points = r.points;
        holds = get_or-set_other m.items k (4 * e.place) v 0 (λ f. off {j = 0} h.0 (omega arith) (omega arith)) ∙ r.holds;
        permission_is = get_or-set_other m.items k (4 * e.place + 1) v 0 (off {j = 1} h.0 (omega arith)) ∙ r.permission_is;
        stamp_is = get_or-set_other m.items k (4 * e.place + 2) v 0 (off {j = 2} h.0 (omega arith)) ∙ r.stamp_is;
      }

  only_store : {m : Mem} {o : Option Entry} → View o m → (s : Store) → Spares o s → (q : ℕ) → animal (apply s m).items q ≡ x → AtPlace q o
  only_store r (bump c) h q e = r.only q e
  only_store r (slot_to i y) h q e = r.only q e
  only_store {m} r (item_to k v) h q e =
      ⊎_elim (λ f. absurd (h.1 (omega arith) (sym f.1 ∙ e))) (λ f. r.only q (sym f ∙ e)) (at_set m.items k v (4 * q))

  sound_store : {m : Mem} {o : Option Entry} → View o m → (s : Store) → Spares o s → (i : ℕ) → damaged Y.places (word (apply s m) i) ≡ false
  sound_store r (bump c) h i = r.sound i
  sound_store r (item_to k v) h i = r.sound i
  sound_store {m} r (slot_to j y) h i = ⊎_elim (λ f. rw f.1 h.1) (λ f. rw f (r.sound i)) (at_set m.slots j y i)

  view_store : {m : Mem} {o : Option Entry} → View o m → (s : Store) → Spares o s → View o (apply s m)
  view_store {m} {o} r s h = record { stands = stands_store m o r.stands s h; only = only_store r s h; sound = sound_store r s h }

  pub view_stores : {m : Mem} {o : Option Entry} → View o m → (ss : List Store) → AllSpare o ss → (k : ℕ) → View o (apply_all (take k ss) m)
  view_stores r [] h zero = r
  view_stores r [] h (suc k) = r
  view_stores r (s ∷ ss) h zero = r
  view_stores {m = m} r (s ∷ ss) h (suc k) = view_stores {m = apply s m} (view_store r s h.0) ss h.1 k

  -- what a reader works out
  module _ {m : Mem} where
    told_is : (limit now : ℕ) (o : Option Entry) → View o m → {i : Option ℕ} → First (hits Y m x) (homes Y x) i → judge m.items limit now (place_at m i) ≡ told limit now o
    unfolding hits
    told_is limit now None r (missing h) = refl
    told_is limit now None r (found {i = i} q t) =
        absurd (r.only (place (word m i)) (both_is (tag (word m i)) (Y.tag_of x) (animal m.items (place (word m i))) x t).1)
    told_is limit now (Some e) r (missing h) =
        true_false (both_yes r.stands.tagged (ap (animal m.items) r.stands.points ∙ r.stands.holds)) (h e.slot r.stands.home)
    told_is limit now (Some e) r (found {i = i} q t) =
        let p = r.only (place (word m i)) (both_is (tag (word m i)) (Y.tag_of x) (animal m.items (place (word m i))) x t).1 in
        rw p (rw (r.stands.permission_is, r.stands.stamp_is))

    pub view_told : (limit now : ℕ) (o : Option Entry) → View o m → judge m.items limit now (place_at m (hit Y m x)) ≡ told limit now o
    unfolding hit
    view_told limit now o r = told_is limit now o r (first_is (hits Y m x) (homes Y x))
