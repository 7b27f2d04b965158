-- `replay_reply::beside_the_rows` meets its contract. Assumes nothing.
use Rattle.replay_reply.proofs.Replies.{as_other, as_faulty}
use Rattle.replay_reply.proofs.beside_the_rows.Goals as goal

pub returns-in-Other : goal.returns-in-Other
returns-in-Other c = search as_other

pub returns-in-Faulty : goal.returns-in-Faulty
returns-in-Faulty c = search as_faulty
