-- The line of what a call said is the line of what document 01 answers. Assumes nothing.
use Prim.Native.Nat.{ℕ, ◌+◌, ◌≤◌}
use mathlib.Core.Path.{◌≡◌, subst}
use mathlib.Core.List.{List}
use Rattle.model.specs.Memory.{Mem}
use Rattle.model.specs.Shape.{four}
use Rattle.model.specs.Answers.{Answer}
use Rattle.model.specs.Calling.{Call}
use Rattle.model.specs.Promised.{CutAs, WholeAs}
use Rattle.buffer.specs.Put.{Put}
use Rattle.replay_answers.specs.Text.{text}
use Rattle.replay_calls.specs.Told.{Told, Whole, Cut}

module _ {at r : ℕ} {before after : List ℕ} where
  pub told_as : {s a : Answer} → s ≡ a → Put (text s) at before after r × (r ≤ at + 384) → Told a at before after r
  told_as e p = subst (λ b. Told b at before after r) e (record { line = p.0; room = p.1 })

  pub whole_as : {m m' : Mem} {c : Call} {s : Answer} → WholeAs four m c m' s → Put (text s) at before after r × (r ≤ at + 384) → Whole m c m' at before after r
  whole_as d p = record { told = told_as d.told p; left = d.left }

  pub cut_as : {m m' : Mem} {c : Call} {k : ℕ} {s : Answer} → CutAs four m c k m' s → Put (text s) at before after r × (r ≤ at + 384) → Cut m c k m' at before after r
  cut_as d p = record { told = told_as d.told p; left = d.left }
