use Rattle.replay_print.proofs.Records.{Digits}
use Rattle.replay_print.proofs.put_record.Given as goal

abbrev pub invariant-loop-b : goal.invariant-loop-b
invariant-loop-b l = Digits l.bytes l.at l.initial.buffer l.buffer l.next l.b-index
