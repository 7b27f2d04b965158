-- On any lent memory: fresh is said only of a place that holds the animal, in time. Assumes nothing.
use Prim.Native.Nat.{ℕ, ◌%◌, ◌^◌, ◌*◌}
use mathlib.Core.Path.{◌≡◌, refl, sym, ◌∙◌}
use mathlib.Core.Logic.{◌≢◌, ⊎_elim, ◌⊎◌}
use mathlib.Core.Bool.{Bool, true, false}
use Rattle.std.specs.Prelude.{Option}
use mathlib.Core.List.{List}
use lib.IntN.{ℤ}
use lib.Dec.{eqb}
use borrow.Author.Tests.{eqb-false}
use Rattle.model.specs.Choice.{choose}
use Rattle.model.specs.Memory.{Mem, animal, permission, place, stamp, tag, word}
use Rattle.model.specs.Shape.{Shape, Ways, homes, right_lengths, shape_of, four}
use Rattle.model.specs.Answers.{absent, fresh, refused}
use Rattle.model.specs.Calling.{read, serve}
use Rattle.model.specs.Age.{bad_time, judge, verdict}
use Rattle.model.specs.Calls.{busy, call, held, hit, hits, home_damage, place_at, refuse, tell}
use Rattle.model.specs.Demands.{FreshAnywhere, Holds}
use Rattle.model.specs.Ours.{gate, ours}
use Rattle.model.proofs.ListLaws.{First, both_is, first_is, found, missing, inside_held}
use Rattle.model.proofs.RowWords.{says_mod}
use Rattle.model.proofs.Runs.{in_time, not_fresh, serve_reads}

-- a place with the number, of which fresh is said
pub held_in_time : (l : List ℕ) (x limit now v : ℕ) (z : ℤ) (p : ℕ) → x ≢ 0 → animal l p ≡ x → verdict limit now (permission l p) (stamp l p) ≡ fresh v z
    → Holds l x limit now v z p
held_in_time l x limit now v z p nz here e =
    let j = in_time l x limit now v z (permission l p % 2 ^ 32) (stamp l p) (sym (says_mod limit now (permission l p) (stamp l p)) ∙ e) in
    record { real = nz; inside = inside_held l (4 * p) (rw here nz); animal_is = here; permission_is = j.0; in_time = j.1 }

module _ (Y : Shape) (m : Mem) (x limit now v : ℕ) (z : ℤ) where
  at_hit : x ≢ 0 → {o : Option ℕ} → First (hits Y m x) (homes Y x) o → judge m.items limit now (place_at m o) ≡ fresh v z
      → (p : ℕ) × Holds m.items x limit now v z p
  unfolding hits
  at_hit nz (missing h) e = not_fresh m.items x limit now v z absent refl e
  at_hit nz (found {i = i} q t) e =
      let p = place (word m i) in
      (p, held_in_time m.items x limit now v z p nz (both_is (tag (word m i)) (Y.tag_of x) (animal m.items p) x t).1 e)

  read_held : (call Y m (read x limit now)).answer ≡ fresh v z → (p : ℕ) × Holds m.items x limit now v z p
  unfolding hit
  read_held e = asks (eqb x 0) (bad_time limit now) (busy Y m x) (home_damage Y m x) (eqb-false x 0) e
    where
      asks : (b c d f : Bool) → (b ≡ false → x ≢ 0)
          → (choose b (refuse 2) (choose c (refuse 3) (choose d (refuse 8) (choose f (refuse 4) (tell (judge m.items limit now (held Y m x))))))).answer ≡ fresh v z
          → (p : ℕ) × Holds m.items x limit now v z p
      asks true c d f nz e = not_fresh m.items x limit now v z (refused 2) refl e
      asks false true d f nz e = not_fresh m.items x limit now v z (refused 3) refl e
      asks false false true f nz e = not_fresh m.items x limit now v z (refused 8) refl e
      asks false false false true nz e = not_fresh m.items x limit now v z (refused 4) refl e
      asks false false false false nz e = at_hit (nz refl) (first_is (hits Y m x) (homes Y x)) e

pub our_fresh_anywhere : (W : Ways) → FreshAnywhere (ours W)
our_fresh_anywhere W m x limit now v z e = go (right_lengths W m) e
  where
    Y : Shape
    Y = shape_of W m

    go : (b : Bool) → ((choose b (call Y m (read x limit now)) (refuse 1)).answer ≡ fresh v z) ⊎ ((choose b (call Y m (serve x limit now)) (refuse 1)).answer ≡ fresh v z)
        → (p : ℕ) × Holds m.items x limit now v z p
    go true e = read_held Y m x limit now v z (⊎_elim (λ e. e) (λ e. sym (serve_reads Y m x limit now) ∙ e) e)
    go false e = ⊎_elim (λ e. not_fresh m.items x limit now v z (refused 1) refl e) (λ e. not_fresh m.items x limit now v z (refused 1) refl e) e

pub gate_fresh_anywhere : FreshAnywhere gate
gate_fresh_anywhere = our_fresh_anywhere four
