use Rattle.replay_loads.proofs.Loads.{Pouring}
use Rattle.replay_loads.proofs.pour.Given as goal

abbrev pub invariant-loop-i : goal.invariant-loop-i
invariant-loop-i g l =
    (goal.iterator-loop-i g).can_next l.i-iterator × (goal.iterator-loop-i g).is_finite l.i-iterator
    × Pouring l.line l.i-iterator.iter.0.now g.T.RunWord.LARGEST (g.T.RunWord.numbers l.initial.run) (g.T.RunWord.numbers l.run) l.i-iterator.count
