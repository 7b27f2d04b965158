-- `moves::move_one` meets its contract. Assumes nothing.
use Prim.Native.Nat.{◌^◌}
use native.Mathlib.Omega.{arith}
use Rattle.moves.proofs.Moving.{one_move}
use native.Mathlib.Nat.{div-le_self}
use Rattle.moves.proofs.move_one.Goals as goal

pub overflow_cast-b-2 : goal.overflow_cast-b-2
overflow_cast-b-2 c = record { fits = omega (arith, div-le_self c.args.m.from (2 ^ c.args.shift), c.requires.inside) }

pub returns : goal.returns
returns c = search one_move
