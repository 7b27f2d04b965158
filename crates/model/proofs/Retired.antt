-- Wish 6, on any memory: what is said of an entry with the mark, that serve makes no store for it, and that a list replaces it. Assumes nothing.
use Prim.Native.Nat.{ℕ, ◌%◌, ◌≤◌}
use native.Mathlib.Omega.{arith}
use mathlib.Core.Path.{◌≡◌, refl, sym, ap, ◌∙◌}
use mathlib.Core.Logic.{◌≢◌}
use mathlib.Core.Bool.{Bool, true, false}
use Rattle.std.specs.Prelude.{Option, Some}
use mathlib.Core.List.{[]}
use lib.ListN.{get_or}
use borrow.Author.Tests.{eq-eqb, le-ltb, ne_eqb}
use Rattle.model.specs.Choice.{choose}
use Rattle.model.specs.Memory.{Mem, animal, permission, stamp}
use Rattle.model.specs.Shape.{Shape, Ways, counter_of, homes, shape_of}
use Rattle.model.specs.Calling.{read, serve, set_animal}
use Rattle.model.specs.Age.{bad_time, is_fresh, judge, no_minute, retired_mark}
use Rattle.model.specs.Calls.{Outcome, asked, held, refuse, serve_at, set_at, tell, updated}
use Rattle.model.specs.Late.{ItsTurn}
use Rattle.model.specs.Lent.{lent_call}
use Rattle.model.specs.Ours.{ours, traced}
use Rattle.model.specs.Stores.{stores, wholes}
use Rattle.model.specs.Retired.{RetiredAt, RetiredHeld, RetiredReads, RetiredReplaced, RetiredThenDated, RetiredUnserved}
use Rattle.model.proofs.ListLaws.{bool, walk_is}
use Rattle.model.proofs.Calm.{none_damaged}
use Rattle.model.proofs.ReadWalk.{held_walk}
use Rattle.model.proofs.Verdict.{says_retired}
use Rattle.model.proofs.Turns.{in_turn}
use Rattle.model.proofs.Late.{never_late}
use Rattle.model.proofs.Linked.{leaves_lent}
use Rattle.model.proofs.FromIssue.{from_issue_on, walk_there}

-- a retired stamp is never fresh
never_fresh : (limit now : ℕ) {s : ℕ} → s ≡ retired_mark → is_fresh limit now s ≡ false
unfolding is_fresh
never_fresh limit now {s} e = rw (eq-eqb s retired_mark e)

module _ (W : Ways) (m : Mem) (x p : ℕ) (r : RetiredAt W m x p) where
  abbrev Y : Shape
  Y = shape_of W m

  -- a question about the animal comes to what its place says
  comes : {bad : Bool} → bad ≡ false → (at : Option ℕ → Outcome) → choose true (asked Y m x bad (at (held Y m x))) (refuse 1) ≡ at (Some p)
  comes e at = rw (ne_eqb x 0 r.real, e, r.calm, r.sound) (ap at r.held_at)

  module _ (limit now : ℕ) where
    lent_read : bad_time limit now ≡ false → lent_call W m (read x limit now) ≡ tell (judge m.items limit now (Some p))
    lent_read e = rw r.lengths (comes e (λ o. tell (judge m.items limit now o)))

    lent_serve : bad_time limit now ≡ false → lent_call W m (serve x limit now) ≡ serve_at Y m limit now (Some p)
    lent_serve e = rw r.lengths (comes e (serve_at Y m limit now))

    good : limit ≤ 10080 → now ≢ no_minute → bad_time limit now ≡ false
    good l n = rw (le-ltb 10080 limit l, ne_eqb now no_minute n)

    -- where 3 is due there is no store either
    unserved : (lent_call W m (serve x limit now)).blocks ≡ []
    unserved =
        bool (λ b. bad_time limit now ≡ b → (lent_call W m (serve x limit now)).blocks ≡ []) (bad_time limit now)
        (λ _ e. rw (r.lengths, ne_eqb x 0 r.real, e))
        (λ _ e. ap (λ (o : Outcome). o.blocks) (lent_serve e) ∙ rw (never_fresh limit now r.marked)) refl

pub retired_held : (W : Ways) → RetiredHeld W
retired_held W m p right w live marked =
    let Y = shape_of W m in
    let x = animal m.items p in
    record {
      lengths = right;
      real = live;
      calm = ne_eqb (get_or m.counters (counter_of Y x) 0 % 2) 1 (omega (arith, w.even (counter_of Y x)));
      sound = none_damaged Y m w.undamaged (homes Y x);
      held_at = held_walk Y m w x live ∙ walk_there Y m w x live p refl (walk_is m.items x Y.places 0);
      marked = marked;
    }

pub retired_reads : (W : Ways) → RetiredReads W (ours W)
retired_reads W m x p r limit now l n =
    let b = good W m x p r limit now l n in
    let said = sym (says_retired limit now (permission m.items p) (stamp m.items p) r.marked) in (
      ap (λ (o : Outcome). o.answer) (lent_read W m x p r limit now b) ∙ said,
      ap (λ (o : Outcome). o.answer) (lent_serve W m x p r limit now b) ∙ said,
    )

pub retired_unserved : (W : Ways) → RetiredUnserved W (ours W)
unfolding stores
retired_unserved W m x p r limit now = ap (λ bs. traced m (stores bs)) (unserved W m x p r limit now)

pub retired_replaced : (W : Ways) → RetiredReplaced W (ours W)
retired_replaced W m g p r timely issued =
    let turn : ItsTurn W m g = record { lengths = r.lengths; real = r.real; timely = timely; issued = issued; calm = r.calm; sound = r.sound } in
    let Y = shape_of W m in
    let there : lent_call W m (set_animal g) ≡ updated (counter_of Y g.animal) p g
    = in_turn W m g (set_at Y m g (held Y m g.animal)) turn ∙ ap (set_at Y m g) r.held_at ∙ rw (never_late (stamp m.items p) g r.marked) refl in (
      ap (λ (o : Outcome). o.answer) there,
      ap (λ (m' : Mem). m'.items) (leaves_lent W m (set_animal g)) ∙ ap (λ (o : Outcome). (wholes o.blocks m).items) there,
      ap (λ (m' : Mem). m'.slots) (leaves_lent W m (set_animal g)) ∙ ap (λ (o : Outcome). (wholes o.blocks m).slots) there,
    )

pub retired_then_dated : (W : Ways) → RetiredThenDated W (ours W)
retired_then_dated W m g p w r i limit now l n =
    from_issue_on W m r.lengths m w g i.typed 0 0 (retired_replaced W m g p r i.timely i.issued).0 limit now l n
