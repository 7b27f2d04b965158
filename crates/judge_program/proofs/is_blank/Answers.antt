use Rattle.judge_program.proofs.Dumps.{blank_is}
use Rattle.judge_program.proofs.is_blank.Goals as goal

pub returns : goal.returns
returns c = blank_is c.args.line.now (record { 0 = c.body_of.result }) c.next.new.self c.next.result c.body_of.ensures c.next.ensures.steps c.is_none.ensures
