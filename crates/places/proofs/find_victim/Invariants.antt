use Rattle.places.proofs.Laws.{Looking}
use Rattle.places.proofs.find_victim.Given as goal

abbrev pub invariant-loop-looked : goal.invariant-loop-looked
invariant-loop-looked l = Looking l.m l.items l.initial.h.at l.h.at l.looked
