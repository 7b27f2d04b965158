-- `replay_lines::take_word` meets its contract. Assumes nothing.
use Rattle.replay_lines.proofs.Fitting.{by_bound}
use Rattle.replay_lines.proofs.take_word.Goals as goal

pub returns-in-Some : goal.returns-in-Some
returns-in-Some c = by_bound c.args.wanted.now c.args.word.now c.in-Some.ensures c.take_number.ensures

pub returns-in-None : goal.returns-in-None
returns-in-None c = by_bound c.args.wanted.now c.args.word.now c.in-None.ensures c.take_name.ensures
