-- The lines so far and those still to come make the dump, and the lines go on.
use Rattle.std.specs.Iterator.Adapters.{enumerate_source, enumerate_count}
use Rattle.replay_words.specs.Words.{lines}
use Rattle.judge_program.proofs.Dumps.{Reading}
use Rattle.judge_program.proofs.read_dump.Given as goal

abbrev pub invariant-loop-i : goal.invariant-loop-i
invariant-loop-i l = goal.iterator-loop-i.can_next l.i-iterator × goal.iterator-loop-i.is_finite l.i-iterator × Reading l.text l.slots l.counters l.items (lines (enumerate_source l.i-iterator).0.now) (enumerate_count l.i-iterator) l.known
