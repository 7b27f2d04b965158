-- `replay_print::put_line` meets its contract. Assumes nothing.
use Rattle.replay_print.proofs.Lines.{put_ended}
use Rattle.replay_print.proofs.put_line.Goals as goal

pub returns : goal.returns
returns c = search put_ended
