-- `replay_steps::start` meets its contract. Assumes nothing.
use Rattle.replay_steps.proofs.Steps.{refused_slots, refused_counters, refused_items, fresh_refused, fresh_made}
use Rattle.replay_steps.proofs.start.Goals.{then-slots-s-via-then-slots-s, then-slots-s-via-else-slots-s+then-counters-v, then-slots-s-via-else-slots-s+else-counters-v+then-items-i}
use Rattle.replay_steps.proofs.start.Goals as goal

pub returns-then-slots-s : goal.returns-then-slots-s
returns-then-slots-s c =
    elim c.then-slots-s.branch [
      | then-slots-s-via-then-slots-s w ↦ search refused_slots
      | then-slots-s-via-else-slots-s+then-counters-v w ↦ search refused_counters
      | then-slots-s-via-else-slots-s+else-counters-v+then-items-i w ↦ search refused_items
    ]

pub returns-in-Err : goal.returns-in-Err
returns-in-Err c = search fresh_refused

pub returns-in-Ok : goal.returns-in-Ok
returns-in-Ok c = search fresh_made
