-- `replay_words::mark_length` meets its contract. Assumes nothing.
use Rattle.std.proofs.Common.{rules}
use Rattle.replay_words.proofs.OneWord.{mark_found, mark_none}
use Rattle.replay_words.proofs.mark_length.Goals as goal

pub returns-then-starts_with : goal.returns-then-starts_with
returns-then-starts_with c = (mark_found c.args.text.now c.starts_with.ensures.value c.if-starts_with.true, search rules)

pub returns : goal.returns
returns c = (mark_none c.args.text.now c.starts_with.ensures.value c.if-starts_with.false, search rules)
