-- `searching::search` meets its contract: it ends in the first home bucket, or goes along the list. Assumes nothing.
use mathlib.Core.Path.{ap, ◌∙◌}
use Rattle.std.specs.Prelude.{Ok}
use Rattle.std.proofs.lemmas.Result.{err_from_is_err_and}
use Rattle.searching.proofs.FirstVisit.{home_damaged, home_room}
use Rattle.searching.proofs.search.Goals as goal

pub returns-in_err-s : goal.returns-in_err-s
returns-in_err-s c =
    let p = err_from_is_err_and c.from_residual.result c.from_residual.ensures.1 in
    rw (p.1, p.2) (home_damaged _ _ _ _ _ c.words_at.ensures c.free_among.ensures c.in_err-s.was)

pub returns-in-Some : goal.returns-in-Some
returns-in-Some c = home_room _ _ _ _ _ c.words_at.ensures c.free_among.ensures (c.in_ok-s.was ∙ ap Ok c.in-Some.is) c.room_at_home.ensures
