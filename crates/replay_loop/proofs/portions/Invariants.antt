-- What has gone out and what is still to come are the answers.
use Rattle.std.proofs.Common.{length, ◌-◌, ◌≡◌}
use Rattle.replay_loop.proofs.Handed.{Handed}
use Rattle.replay_loop.proofs.portions.Given as goal

abbrev pub invariant-loop-state : goal.invariant-loop-state
invariant-loop-state g l = Handed l.echo l.calls l.slots l.counters l.items l.records l.out l.state l.written × (length l.out ≡ length l.initial.out)

abbrev pub decreases-loop-state : goal.decreases-loop-state
decreases-loop-state g l = length l.calls - l.state.from
