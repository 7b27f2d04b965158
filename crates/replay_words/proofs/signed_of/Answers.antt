-- `replay_words::signed_of` meets its contract. Assumes nothing.
use Rattle.replay_words.proofs.SignedWord.{small_size, signed_minus, signed_plain}
use Rattle.replay_words.proofs.signed_of.Goals as goal

pub with_sign-requires : goal.with_sign-requires
with_sign-requires c = small_size c.args.top c.requires _ c.number_of.ensures

pub with_sign-requires-in-None : goal.with_sign-requires-in-None
with_sign-requires-in-None c = small_size c.args.top c.requires _ c.number_of-in-None.ensures

pub returns-in-Some : goal.returns-in-Some
returns-in-Some c =
    signed_minus c.args.top c.args.word.now c.in-Some.size.now c.in-Some.ensures.cases.0 c.in-Some.ensures.cases.1 c.number_of.ensures
    c.with_sign.ensures

pub returns-in-None : goal.returns-in-None
returns-in-None c = signed_plain c.args.top c.args.word.now c.in-None.ensures.cases c.number_of-in-None.ensures c.with_sign-in-None.ensures
