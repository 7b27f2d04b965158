-- `replay_print::put_hex_byte` meets its contract. Assumes nothing.
use Rattle.replay_print.proofs.Printing.{hex_put}
use borrow.Author.Rules.{rules}
use Rattle.replay_print.proofs.put_hex_byte.Goals as goal

pub returns : goal.returns
returns c = (search hex_put, search rules)
