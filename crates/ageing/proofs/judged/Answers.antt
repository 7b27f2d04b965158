-- `ageing::judged` meets its contract. Assumes nothing.
use Rattle.model.proofs.Verdict.{says_ahead}
use Rattle.ageing.proofs.Judging.{judged_old, judged_retired, judged_young}
use Rattle.ageing.proofs.judged.Goals as goal

pub returns-then-stamp-eq-RETIRED_MARK : goal.returns-then-stamp-eq-RETIRED_MARK
returns-then-stamp-eq-RETIRED_MARK c = search judged_retired

pub returns-then-minute-stamp : goal.returns-then-minute-stamp
returns-then-minute-stamp c = search says_ahead

pub returns-then-age-limit : goal.returns-then-age-limit
returns-then-age-limit c = search judged_young

pub returns : goal.returns
returns c = search judged_old
