use Rattle.judge_program.proofs.Dumps.{loaded_slots, loaded_counters, loaded_items}
use Rattle.judge_program.proofs.load.Goals as goal

pub returns-in-Slots : goal.returns-in-Slots
returns-in-Slots c = λ number. loaded_slots number _ (rw c.in-Slots.is at c.requires) c.pour.ensures

pub returns-in-Counters : goal.returns-in-Counters
returns-in-Counters c = λ number. loaded_counters number _ (rw c.in-Counters.is at c.requires) c.pour-in-Counters.ensures

pub returns-in-Items : goal.returns-in-Items
returns-in-Items c = λ number. loaded_items number _ (rw c.in-Items.is at c.requires) c.pour-in-Items.ensures
