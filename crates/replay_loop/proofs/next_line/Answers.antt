use Rattle.replay_loop.proofs.Goes.{goes_on}
use Rattle.replay_loop.proofs.next_line.Goals as goal

pub returns-clause-went : goal.returns-clause-went
returns-clause-went c = goes_on c.piece_at-end.ensures c.requires.held.1 c.requires.from_in_bounds.1 c.requires.from_in_bounds.2 c.reply.ensures
