-- `paths::child` meets its contract: the other bucket is one of at most 2,048. Assumes nothing.
use Prim.Native.Nat.{◌/◌}
use native.Mathlib.Omega.{arith}
use Rattle.model.specs.Memory.{tag}
use Rattle.model.proofs.Hash.{other_lt, size_most}
use Rattle.paths.proofs.child.Goals as goal

pub overflow_cast-result : goal.overflow_cast-result
overflow_cast-result c =
    let a = c.args in
    let p = c.requires in
    omega (arith, other_lt p.0 (a.w / 65536) a.b p.1, size_most p.0, c.other_of.ensures)

pub returns : goal.returns
unfolding tag
returns c = rw c.other_of.ensures
