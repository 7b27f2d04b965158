-- `replay_reply::make_call` meets its contract. Assumes nothing.
use mathlib.Core.Path.{◌≡◌}
use Rattle.replay_rows.specs.Rows.{row_number}
use Rattle.replay_reply.proofs.Replies.{call_made, is_named, named}
use borrow.Author.Rules.{rules}
use Rattle.replay_reply.proofs.make_call.Goals as goal

pub unwrap-named-requires : goal.unwrap-named-requires
unwrap-named-requires c = search (named, rules)

pub step-requires : goal.step-requires
step-requires c =
    let asked = c.requires in
    let shown = c.show_call-at.ensures in
    search (rules, asked, shown)

pub returns : goal.returns
returns c =
    let row : row_number c.unwrap-named.result ≡ c.args.row = search (is_named, rules) in
    call_made _ _ _ _ c.args.row _ c.unwrap-named.result row c.show_call-at.ensures.0 c.show_call-at.ensures.1 c.step.ensures
