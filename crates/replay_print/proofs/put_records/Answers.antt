-- `replay_print::put_records` meets its contract. Assumes nothing.
use Rattle.replay_print.proofs.Records.{records_more, records_end}
use borrow.Author.Rules.{rules}
use Rattle.replay_print.proofs.put_records.Goals as goal

pub loop-i-preserved : goal.loop-i-preserved
loop-i-preserved c = search records_more

pub returns : goal.returns
returns c = (search records_end, search rules)
