-- `replay_words::Lines` gives its next line. Assumes nothing.
use borrow.Author.Tests.{true-eqb}
use Rattle.replay_words.proofs.Scan.{no_lines}
use Rattle.replay_words.proofs.LinesIterator.next.Goals as goal

pub returns-then-is_empty-clause-steps : goal.returns-then-is_empty-clause-steps
returns-then-is_empty-clause-steps c =
    let none = no_lines c.args.self.now.0.now (true-eqb _ _ c.if-is_empty.ensures) in
    (none, none)
