-- `pointing::is_stray_slot` meets its contract. Assumes nothing.
use native.Mathlib.Omega.{arith}
use Rattle.model.specs.Shape.{four}
use Rattle.looking.proofs.HomesLie.{buckets_fit}
use Rattle.pointing.proofs.Pointing.{by_free, by_vacant, by_homes}
use Rattle.pointing.proofs.is_stray_slot.Goals as goal

pub returns-then-w-eq0 : goal.returns-then-w-eq0
returns-then-w-eq0 c = search by_free

pub returns-then-x-eq0 : goal.returns-then-x-eq0
returns-then-x-eq0 c = search by_vacant

pub overflow_cast-b : goal.overflow_cast-b
overflow_cast-b c =
    record { fits = omega (arith, c.requires.1, buckets_fit four c.args.table.now.slots.now c.args.table.now.counters.now c.args.table.now.items.now c.requires.0) }

pub returns : goal.returns
returns c =
    by_homes _ _ c.if-w-eq0.false c.word_or-x.ensures c.if-x-eq0.false c.homes_in-h.ensures
