-- `replay_rows::show_call` meets its contract. Assumes nothing.
use Rattle.replay_rows.proofs.Beside.{room_to_show}
use Rattle.replay_rows.proofs.show_call.Goals as goal

pub put_echo-requires : goal.put_echo-requires
put_echo-requires c = search room_to_show
