-- `home_words::hit_word` meets its contract: one word with the tag decides; else the slots are taken in order. Assumes nothing.
use mathlib.Core.Path.{◌∙◌}
use Rattle.home_words.proofs.Words.{by_no_tag, by_number}
use Rattle.home_words.proofs.Sound.{sum_reads}
use Rattle.home_words.proofs.hit_word.Goals as goal

pub returns-then-sum-eq0 : goal.returns-then-sum-eq0
returns-then-sum-eq0 c = search by_no_tag

pub bounds-items-sum : goal.bounds-items-sum
bounds-items-sum c = search sum_reads

pub returns-then-sum-tag : goal.returns-then-sum-tag
returns-then-sum-tag c = c.then_some.ensures ∙ search by_number
