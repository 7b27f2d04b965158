-- A call with the line of its answer is what its row means. Assumes nothing.
use Prim.Native.Nat.{ℕ}
use native.Mathlib.Omega.{arith}
use mathlib.Core.Path.{refl}
use mathlib.Core.List.{List}
use Rattle.model.specs.Memory.{Mem}
use Rattle.model.specs.Calling.{Call}
use Rattle.replay_rows.specs.World.{Replied, world}
use Rattle.replay_rows.specs.Meaning.{asks, calls}
use Rattle.replay_calls.specs.Told.{Told, Whole, answer_of}

module _ {m : Mem} {at next h : ℕ} {before after : List ℕ} (c : Call) where
  pub asked : Told (answer_of m c) at before after next → Replied (asks c (world m h)) m at before after (record { next = next; hand = h })
  asked t = record { put = t.line; near = omega (arith, t.room); left = refl; hand = refl }

  pub called : {m' : Mem} → Whole m c m' at before after next → Replied (calls c (world m h)) m' at before after (record { next = next; hand = h })
  called w = record { put = w.told.line; near = omega (arith, w.told.room); left = w.left; hand = refl }
