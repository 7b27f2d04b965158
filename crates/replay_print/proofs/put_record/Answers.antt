-- `replay_print::put_record` meets its contract. Assumes nothing.
use Rattle.replay_print.proofs.Records.{digits_more, digits_end}
use Rattle.replay_print.proofs.put_record.Goals as goal

pub loop-b-preserved : goal.loop-b-preserved
loop-b-preserved c = search digits_more

pub returns-clause-put : goal.returns-clause-put
returns-clause-put c = search digits_end
