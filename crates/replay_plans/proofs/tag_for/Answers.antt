-- `replay_plans::tag_for` meets its contract. Assumes nothing.
use Rattle.replay_plans.proofs.Planned.{no_tag, same_tag}
use borrow.Author.Rules.{rules}
use Rattle.replay_plans.proofs.tag_for.Goals as goal

pub returns-then-stands-said : goal.returns-then-stands-said
returns-then-stands-said c = search same_tag

pub returns : goal.returns
returns c = search (no_tag, rules)
