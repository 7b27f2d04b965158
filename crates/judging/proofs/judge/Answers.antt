-- `judging::judge` meets its contract: each answer has the walks so far, and that none of them found anything. Assumes nothing.
use native.Mathlib.Omega.{arith}
use Rattle.model.specs.Seen.{seen}
use Rattle.model.specs.Shape.{four}
use Rattle.model.proofs.Lent.{fit}
use Rattle.judging.proofs.InTurn.{goes_on, right_now, aimed_now, sought_now, by_one, by_two, by_three, by_four, by_five, by_six, by_seven, by_last}
use Rattle.judging.proofs.judge.Goals as goal

pub returns-in_err-holds : goal.returns-in_err-holds
returns-in_err-holds c = goes_on c.from_residual.result _ c.from_residual.ensures.1 (by_one _ c.misshapen_run-shape.ensures c.in_err-holds.ensures)

pub overflow_cast-places : goal.overflow_cast-places
overflow_cast-places c =
    let right = right_now (seen c.args.table.now) c.misshapen_run-shape.ensures c.in_ok-holds.ensures in
    record { fits = omega (arith, (fit four (seen c.args.table.now) right).few) }

pub returns-in_err-holds-2 : goal.returns-in_err-holds-2
returns-in_err-holds-2 c = goes_on c.from_residual-in_err-holds-2.result _ c.from_residual-in_err-holds-2.ensures.1 (by_two _ c.misshapen_run-shape.ensures c.in_ok-holds.ensures c.damaged_slot.ensures c.in_err-holds-2.ensures)

pub returns-in_err-holds-3 : goal.returns-in_err-holds-3
returns-in_err-holds-3 c = goes_on c.from_residual-in_err-holds-3.result _ c.from_residual-in_err-holds-3.ensures.1 (by_three _ c.misshapen_run-shape.ensures c.in_ok-holds.ensures c.damaged_slot.ensures c.in_ok-holds-2.ensures c.uneven_counter.ensures c.in_err-holds-3.ensures)

pub stray_slot-requires : goal.stray_slot-requires
stray_slot-requires c = right_now _ c.misshapen_run-shape.ensures c.in_ok-holds.ensures

pub returns-in_err-holds-4 : goal.returns-in_err-holds-4
returns-in_err-holds-4 c = goes_on c.from_residual-in_err-holds-4.result _ c.from_residual-in_err-holds-4.ensures.1 (by_four _ c.misshapen_run-shape.ensures c.in_ok-holds.ensures c.damaged_slot.ensures c.in_ok-holds-2.ensures c.uneven_counter.ensures c.in_ok-holds-3.ensures c.stray_slot.ensures c.in_err-holds-4.ensures)

pub unsought_place-requires : goal.unsought_place-requires
unsought_place-requires c = aimed_now _ c.misshapen_run-shape.ensures c.in_ok-holds.ensures c.stray_slot.ensures c.in_ok-holds-4.ensures

pub returns-in_err-holds-5 : goal.returns-in_err-holds-5
returns-in_err-holds-5 c = goes_on c.from_residual-in_err-holds-5.result _ c.from_residual-in_err-holds-5.ensures.1 (by_five _ c.misshapen_run-shape.ensures c.in_ok-holds.ensures c.damaged_slot.ensures c.in_ok-holds-2.ensures c.uneven_counter.ensures c.in_ok-holds-3.ensures c.stray_slot.ensures c.in_ok-holds-4.ensures c.unsought_place.ensures c.in_err-holds-5.ensures)

pub doubled_place-requires : goal.doubled_place-requires
doubled_place-requires c =
    sought_now _ c.misshapen_run-shape.ensures c.in_ok-holds.ensures c.stray_slot.ensures c.in_ok-holds-4.ensures
    c.unsought_place.ensures c.in_ok-holds-5.ensures

pub returns-in_err-holds-6 : goal.returns-in_err-holds-6
returns-in_err-holds-6 c = goes_on c.from_residual-in_err-holds-6.result _ c.from_residual-in_err-holds-6.ensures.1 (by_six _ c.misshapen_run-shape.ensures c.in_ok-holds.ensures c.damaged_slot.ensures c.in_ok-holds-2.ensures c.uneven_counter.ensures c.in_ok-holds-3.ensures c.stray_slot.ensures c.in_ok-holds-4.ensures c.unsought_place.ensures c.in_ok-holds-5.ensures c.doubled_place.ensures c.in_err-holds-6.ensures)

pub returns-in_err-holds-7 : goal.returns-in_err-holds-7
returns-in_err-holds-7 c = goes_on c.from_residual-in_err-holds-7.result _ c.from_residual-in_err-holds-7.ensures.1 (by_seven _ c.misshapen_run-shape.ensures c.in_ok-holds.ensures c.damaged_slot.ensures c.in_ok-holds-2.ensures c.uneven_counter.ensures c.in_ok-holds-3.ensures c.stray_slot.ensures c.in_ok-holds-4.ensures c.unsought_place.ensures c.in_ok-holds-5.ensures c.doubled_place.ensures c.in_ok-holds-6.ensures c.wide_place.ensures c.in_err-holds-7.ensures)

pub returns : goal.returns
returns c = by_last _ c.misshapen_run-shape.ensures c.in_ok-holds.ensures c.damaged_slot.ensures c.in_ok-holds-2.ensures c.uneven_counter.ensures c.in_ok-holds-3.ensures c.stray_slot.ensures c.in_ok-holds-4.ensures c.unsought_place.ensures c.in_ok-holds-5.ensures c.doubled_place.ensures c.in_ok-holds-6.ensures c.wide_place.ensures c.in_ok-holds-7.ensures c.unswept_place.ensures c.holds-8.ensures
