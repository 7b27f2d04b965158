-- `replay_steps::step` meets its contract. Assumes nothing.
use Rattle.replay_steps.proofs.Steps.{slots_front, counters_front, items_front, fronts_ample, on_table_stepped}
use borrow.Author.Rules.{rules}
use Rattle.replay_steps.proofs.step.Goals as goal

pub on_table-turn-requires : goal.on_table-turn-requires
on_table-turn-requires g c = record { no_fresh = search rules; ample = search fronts_ample }

pub returns : goal.returns
returns g c = search (on_table_stepped, c.row-row.ensures.meant)
