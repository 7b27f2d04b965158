-- What has been answered so far is a part of what the portion answers.
use Rattle.std.proofs.Common.{length, ◌-◌, ◌≡◌}
use Rattle.replay_loop.specs.Going.{Went}
use Rattle.replay_loop.proofs.portion.Given as goal

abbrev pub invariant-loop-state : goal.invariant-loop-state
invariant-loop-state l =
    Went l.echo l.calls l.initial.slots l.initial.counters l.initial.items l.initial.out l.initial.state l.slots l.counters l.items l.out l.state
    × (length l.records ≡ length l.initial.records)

abbrev pub decreases-loop-state : goal.decreases-loop-state
decreases-loop-state l = length l.calls - l.state.from
