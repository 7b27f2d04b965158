-- `stepping::make_entry` meets its contract. Assumes nothing.
use Rattle.stepping.proofs.Entering.{enter_made, enter_refused, place_out}
use Rattle.stepping.proofs.make_entry.Goals as goal

pub returns-then-items-place : goal.returns-then-items-place
returns-then-items-place c = search place_out

pub returns-then-not-may_enter : goal.returns-then-not-may_enter
returns-then-not-may_enter c = search enter_refused

pub returns : goal.returns
returns c = search enter_made
