use mathlib.Core.Path.{◌≡◌}
use Rattle.paths.proofs.Back.{Back}
use Rattle.paths.proofs.path_back.Given as goal

abbrev pub invariant-loop-j : goal.invariant-loop-j
invariant-loop-j l = Back l.slots l.queue l.v l.s l.moves l.j l.at l.to × (l.count ≡ l.j)
