-- `places::find_victim` meets its contract: from where the hand stands it finds what it finds from the start. Assumes nothing.
use native.Mathlib.Omega.{arith}
use Rattle.places.proofs.Laws.{by_taken, by_passed, by_nobody}
use Rattle.places.proofs.find_victim.Goals as goal

pub returns-then-animal-recent : goal.returns-then-animal-recent
returns-then-animal-recent c = by_taken (search) (omega arith) (search)

pub loop-looked-preserved : goal.loop-looked-preserved
loop-looked-preserved c = by_passed c.loop-looked.invariant (omega arith) (search) (search)

pub returns : goal.returns
returns c = by_nobody c.loop-looked.invariant (omega arith)
