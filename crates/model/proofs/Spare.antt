-- In a good memory every animal has a view, and a block about another animal leaves it alone. Assumes nothing.
use Prim.Native.Nat.{ℕ, ◌+◌, ◌*◌, ◌/◌}
use native.Mathlib.Omega.{arith}
use mathlib.Core.Path.{◌≡◌, refl, sym, ap, ◌∙◌}
use mathlib.Core.Logic.{◌≢◌, ◌⊎◌, inl, inr, ⊎_elim}
use Rattle.std.specs.Prelude.{Option, Some, None}
use lib.Dec.{eqb}
use borrow.Author.Tests.{eq-eqb, eqb-true}
use Rattle.model.specs.Choice.{range}
use Rattle.model.specs.Memory.{Mem, animal, permission, place, stamp, word}
use Rattle.model.specs.Shape.{Shape}
use Rattle.model.specs.Stores.{Block, enter, move, recency, remove, stores_of, update}
use Rattle.model.specs.WellFormed.{Right, WellFormed}
use Rattle.model.proofs.ShapeLaws.{Lawful, tagged_word}
use Rattle.model.proofs.ListLaws.{First, first_is, found, missing, range_in, true_false}
use Rattle.model.proofs.KeepBlocks.{Fits, entry_sound, free_sound, live_in}
use Rattle.model.proofs.View.{AllSpare, Entry, OffItem, OffSlot, View}
use Rattle.model.proofs.HomeSlots.{home_in}

-- the animal that a block is about
abbrev pub subject : Mem → Block → ℕ
subject m (move c f t x) = animal m.items (place x)
subject m (enter c p i x a v s) = a
subject m (update c p v s) = animal m.items p
subject m (remove c i p) = animal m.items p
subject m (recency p v) = animal m.items p

module _ (Y : Shape) (L : Lawful Y) (m : Mem) (g : WellFormed Y m) (x : ℕ) (nz : x ≢ 0) where
  view_of : {o : Option ℕ} → First (λ p. eqb (animal m.items p) x) (range 0 Y.places) o → (e : Option Entry) × View Y x e m
  view_of (missing h) = (
    None,
    record {
      stands = tt;
      only = λ q e. true_false (eq-eqb (animal m.items q) x e) (h q (range_in 0 Y.places (omega arith) (omega (arith, live_in Y g q (rw e nz)))));
      sound = g.undamaged;
    },
  )
  view_of (found {i = p} q t) =
      let e = eqb-true (animal m.items p) x t in
      let s = g.pointed p (rw e nz) in
      let a : animal m.items (place (word m s.0)) ≡ x = rw s.1.1 e in
      let r : Right Y x (word m s.0) s.0 = rw a at (g.points s.0 s.1.0) in (
        Some (record { slot = s.0; place = p; permission = permission m.items p; stamp = stamp m.items p }),
        record {
          stands = record { home = home_in Y m g.slots_long s.1.0 r.home; tagged = r.tagged; points = s.1.1; holds = e; permission_is = refl; stamp_is = refl };
          only = λ k f. sym (g.distinct p k (rw e nz) (e ∙ sym f));
          sound = g.undamaged;
        },
      )

  pub view : (e : Option Entry) × View Y x e m
  view = view_of (first_is (λ p. eqb (animal m.items p) x) (range 0 Y.places))

  -- slots and item words that are not those of x
  off_slot : (o : Option Entry) → View Y x o m → (i : ℕ) → (word m i ≡ 0) ⊎ (animal m.items (place (word m i)) ≢ x) → OffSlot Y x i o
  off_slot None r i h = tt
  off_slot (Some e) r i h =
      λ f. ⊎_elim (tagged_word L (word m i) x (rw f r.stands.tagged)) (λ k. k (rw (f, r.stands.points) r.stands.holds)) h

  off_item : (o : Option Entry) → View Y x o m → (p k : ℕ) → k / 4 ≡ p → animal m.items p ≢ x → OffItem Y x k o
  off_item None r p k h ne = tt
  off_item (Some e) r p k h ne = inl (λ f. ne (rw (← h, f) r.stands.holds))

  off_recent : (o : Option Entry) (p : ℕ) → OffItem Y x (4 * p + 3) o
  off_recent None p = tt
  off_recent (Some e) p = inr (omega arith)

  module _ (o : Option Entry) (r : View Y x o m) where
    pub spares_recent : (p v : ℕ) → AllSpare Y x o (stores_of (recency p v))
    spares_recent p v = ((off_recent o p, λ e. absurd (omega arith)), tt)

    pub spares : (b : Block) → Fits Y m b → x ≢ subject m b → AllSpare Y x o (stores_of b)
    spares (move c f t y) h ne =
        (tt, ((off_slot o r t (inl h.0.vacant), rw h.1 (g.undamaged f)), ((off_slot o r f (inr (λ e. ne (sym e ∙ ap (λ y. animal m.items (place y)) (sym h.1)))), free_sound Y), (tt, tt))))
    spares (enter c p i y a v s) h ne =
        let np : animal m.items p ≢ x = λ e. nz (sym e ∙ h.vacant) in (
          tt,
          (
            (off_item o r p (4 * p) (omega arith) np, λ e f. ne (sym f)),
            (
              (off_item o r p (4 * p + 1) (omega arith) np, λ e. absurd (omega arith)),
              (
                (off_item o r p (4 * p + 2) (omega arith) np, λ e. absurd (omega arith)),
                (
                  (off_item o r p (4 * p + 3) (omega arith) np, λ e. absurd (omega arith)),
                  ((off_slot o r i (inl h.free), rw h.entry (entry_sound Y L m g a h.inside)), (tt, tt)),
                ),
              ),
            ),
          ),
        )
    spares (update c p v s) h ne =
        let np : animal m.items p ≢ x = λ e. ne (sym e) in (
          tt,
          (
            (off_item o r p (4 * p + 1) (omega arith) np, λ e. absurd (omega arith)),
            (
              (off_item o r p (4 * p + 2) (omega arith) np, λ e. absurd (omega arith)),
              ((off_item o r p (4 * p + 3) (omega arith) np, λ e. absurd (omega arith)), (tt, tt)),
            ),
          ),
        )
    spares (remove c i p) h ne =
        let np : animal m.items p ≢ x = λ e. ne (sym e) in (
          tt,
          (
            (off_slot o r i (inr (rw h.0.1 np)), free_sound Y),
            (
              (off_item o r p (4 * p) (omega arith) np, λ e f. nz (sym f)),
              (
                (off_item o r p (4 * p + 1) (omega arith) np, λ e f. nz (sym f)),
                (
                  (off_item o r p (4 * p + 2) (omega arith) np, λ e f. nz (sym f)),
                  ((off_item o r p (4 * p + 3) (omega arith) np, λ e f. nz (sym f)), (tt, tt)),
                ),
              ),
            ),
          ),
        )
    spares (recency p v) h ne = spares_recent p v
