-- What delete's look has found out, as an outcome. Assumes nothing.
use Rattle.std.specs.Prelude.{Result, Ok, Err, [], ◌∷◌}
use Rattle.model.specs.Stores.{remove}
use Rattle.model.specs.Answers.{deleted}
use Rattle.model.specs.Calls.{Outcome, refuse}
use Rattle.model.specs.Said.{refusal_number}
use Rattle.model.specs.declared.Refusal.{Refusal}
use Rattle.deleting.specs.declared.Removal.{Removal}

abbrev pub removing : Result Removal Refusal → Outcome
removing (Err r) = refuse (refusal_number r)
removing (Ok d) = record { answer = deleted; blocks = remove d.counter d.slot d.place ∷ [] }
