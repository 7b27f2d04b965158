-- `places::Hand::step` meets its contract. Assumes nothing.
use native.Mathlib.Omega.{arith}
use Rattle.places.proofs.Laws.{hand_on, hand_back}
use Rattle.places.proofs.Hand.step.Goals as goal

pub returns-then-m-at : goal.returns-then-m-at
returns-then-m-at c = hand_back _ _ (omega arith)

pub returns-then-next-m : goal.returns-then-next-m
returns-then-next-m c = hand_on _ _ c.if-next-m.true

pub returns : goal.returns
returns c = hand_back _ _ c.if-next-m.false
