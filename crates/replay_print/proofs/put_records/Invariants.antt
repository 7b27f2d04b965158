use Rattle.replay_print.proofs.Records.{Listing}
use Rattle.replay_print.proofs.put_records.Given as goal

abbrev pub invariant-loop-i : goal.invariant-loop-i
invariant-loop-i l = Listing l.n l.records l.at l.initial.buffer l.buffer l.next l.i
