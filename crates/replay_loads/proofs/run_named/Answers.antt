-- `replay_loads::run_named` meets its contract. Assumes nothing.
use Rattle.replay_loads.proofs.Loads.{named_slots, named_counters, named_items, named_none}
use Rattle.replay_loads.proofs.run_named.Goals as goal

pub returns-then-is_word : goal.returns-then-is_word
returns-then-is_word c = search named_slots

pub returns-then-is_word-2 : goal.returns-then-is_word-2
returns-then-is_word-2 c = search named_counters

pub returns-then-is_word-3 : goal.returns-then-is_word-3
returns-then-is_word-3 c = search named_items

pub returns : goal.returns
returns c = search named_none
