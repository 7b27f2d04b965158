use Rattle.replay_lines.proofs.Fitting.{Reading}
use Rattle.replay_lines.proofs.fits.Given as goal

abbrev pub invariant-loop-wanted : goal.invariant-loop-wanted
invariant-loop-wanted l = Reading l.row l.line l.initial.numbers l.numbers l.wanted-iterator.0.now l.words.0.now l.count
