-- `replay_lines::takes` meets its contract. Assumes nothing.
use Rattle.std.proofs.Common.{◌∙◌, ap, not}
use Rattle.replay_lines.proofs.Fitting.{takes_is, takes_other}
use Rattle.replay_lines.proofs.takes.Goals as goal
use Rattle.replay_lines.proofs.takes.Goals.{in-No, in_default}

pub returns : goal.returns
returns c =
    elim c.match-matches.branch [
      | in-No w ↦ ap not w.matches-is ∙ takes_is c.args.wanted.now c.args.word.now w.in-No.ensures
      | in_default w ↦ ap not w.matches-is ∙ takes_other c.args.wanted.now c.args.word.now c.take_word.result c.take_word.ensures w.in_default.not-No
    ]
