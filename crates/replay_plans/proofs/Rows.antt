-- Each step with its line means what its row means. Assumes nothing.
use Prim.Native.Nat.{ℕ}
use mathlib.Core.Path.{◌≡◌}
use mathlib.Core.List.{List}
use lib.ListN.{get_or}
use Rattle.model.specs.Memory.{Mem}
use Rattle.model.specs.Calling.{grant, plan_set, step_move}
use Rattle.model.specs.declared.Grant.{Grant}
use Rattle.replay_calls.specs.Told.{Told, Whole, answer_of}
use Rattle.replay_calls.proofs.Rows.{asked, called}
use Rattle.replay_rows.specs.declared.Row.TheVariants as row
use Rattle.replay_rows.specs.Meaning.{meaning, permission}
use Rattle.replay_rows.specs.Rows.{Line}

module _ {m : Mem} {at next : ℕ} {before after : List ℕ} {g : Grant} (n h : ℕ) (xs : List ℕ) where
  pub as_plan : g ≡ grant (get_or xs 0 0) (permission (get_or xs 1 0)) (get_or xs 2 0) (get_or xs 3 0) → Told (answer_of m (plan_set g)) at before after next
      → Line row.Plan n xs m h m at before after next
  unfolding meaning
  as_plan q t = asked (plan_set (grant (get_or xs 0 0) (permission (get_or xs 1 0)) (get_or xs 2 0) (get_or xs 3 0))) (rw q at t)

  pub as_move : {m' : Mem} → g ≡ grant (get_or xs 3 0) (permission (get_or xs 4 0)) (get_or xs 5 0) (get_or xs 6 0)
      → Whole m (step_move g (record { from = get_or xs 0 0; tag = get_or xs 1 0; to = get_or xs 2 0 })) m' at before after next
      → Line row.Move n xs m h m' at before after next
  unfolding meaning
  as_move q w =
      called
      (step_move (grant (get_or xs 3 0) (permission (get_or xs 4 0)) (get_or xs 5 0) (get_or xs 6 0))
      (record { from = get_or xs 0 0; tag = get_or xs 1 0; to = get_or xs 2 0 })) (rw q at w)
