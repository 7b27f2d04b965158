-- `replay_echo::row_at` meets its contract: it is the row of that number. Assumes nothing.
use Rattle.std.proofs.Common.{◌∙◌, refl}
use Rattle.std.proofs.lemmas.Iterator.Consumers.{nth_from_yields_List, YieldsList-from_first}
use Rattle.std.proofs.lemmas.Option.{unwrap_or-slice_get}
use Rattle.replay_words.specs.Words.{lines}
use Rattle.replay_echo.proofs.Filling.{row_or}
use Rattle.replay_echo.proofs.row_at.Goals as goal

pub returns : goal.returns
returns c =
    let found = nth_from_yields_List c.nth.result c.nth.new.self c.args.row c.nth.ensures.ran (YieldsList-from_first (λ x. x.now) (λ s. lines s.0.now) (lines c.args.rows.now) refl) in
    row_or c.nth.result _ c.unwrap_or.ensures found ∙ unwrap_or-slice_get (lines c.args.rows.now) c.args.row _
