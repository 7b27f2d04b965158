use Rattle.judge_program.proofs.Verdicts.{line_is}
use Rattle.judge_program.proofs.tell_in.Goals as goal

pub hand_over-requires : goal.hand_over-requires
hand_over-requires g c = search line_is
