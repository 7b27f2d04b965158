-- `replay_echo::put_call` meets its contract: filled in up to here. Assumes nothing.
use Rattle.replay_echo.proofs.Filling.{fill_more, fill_end}
use borrow.Author.Rules.{rules}
use Rattle.replay_echo.proofs.put_call.Goals as goal

pub loop-b-preserved : goal.loop-b-preserved
loop-b-preserved c = search fill_more

pub returns : goal.returns
returns c = (search fill_end, search rules)
