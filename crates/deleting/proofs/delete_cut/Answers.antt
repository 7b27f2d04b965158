-- `deleting::delete_cut` meets its contract. Assumes nothing.
use mathlib.Core.Path.{◌≡◌, sym, subst}
use Rattle.std.proofs.Common.{rules}
use Rattle.std.specs.Prelude.{Err}
use Rattle.model.specs.Memory.{mem}
use Rattle.model.specs.Shape.{four}
use Rattle.model.specs.Said.{said_deleting}
use Rattle.model.specs.Calling.{delete}
use Rattle.model.specs.Promised.{CutAs}
use Rattle.deleting.proofs.Deleting.{cut_done, cut_refused}
use Rattle.deleting.proofs.delete_cut.Goals as goal

pub returns-in_err-counter : goal.returns-in_err-counter
returns-in_err-counter c =
    let a = c.args in
    let m = mem a.slots.now a.counters.now a.items.now in
    let e : c.from_residual.result ≡ Err c.in_err-counter.field-0.0 = search rules in
    subst (λ r. CutAs four m (delete a.animal) a.k m (said_deleting r)) (sym e)
    (cut_refused four m a.animal c.removal_of.ensures c.in_err-counter.was)

pub returns : goal.returns
returns c =
    let a = c.args in
    cut_done four (mem a.slots.now a.counters.now a.items.now) a.animal c.removal_of.ensures {l = c.remove_entry.result} c.in_ok-counter.was
    c.remove_entry.ensures
