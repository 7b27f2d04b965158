-- `replay_print::put_decimal` meets its contract: the digits still to come and those that are there are those of the number. Assumes nothing.
use Rattle.replay_print.proofs.Printing.{print_more, print_put, print_few}
use Rattle.replay_print.proofs.put_decimal.Goals as goal

pub loop-rest-preserved : goal.loop-rest-preserved
loop-rest-preserved c = search print_more

pub returns : goal.returns
returns c = (search print_put, search print_few)
