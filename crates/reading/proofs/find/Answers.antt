-- `reading::find` meets its contract. Assumes nothing.
use Prim.Native.Nat.{◌%◌}
use mathlib.Core.Bool.{false}
use mathlib.Core.Path.{◌≡◌, refl, ap, ◌∙◌}
use Rattle.std.proofs.Common.{rules}
use Rattle.std.specs.Prelude.{option_map}
use Rattle.model.specs.Said.{found_at}
use Rattle.model.specs.Seen.{seen}
use Rattle.model.specs.Shape.{four}
use Rattle.looking.proofs.Early.{early_passed}
use Rattle.reading.proofs.Reading.{find_seen}
use Rattle.reading.proofs.find.Goals as goal

pub returns : goal.returns
returns c =
    let a = c.args in
    let e : c.map.result ≡ option_map (λ w. w % 65536) c.in_ok-hit.hit = search rules in
    let p = early_passed four (seen a.table.now) a.animal false refl c.refused_early.ensures c.in_ok-refused_early.was in
    ap found_at e ∙ find_seen four (seen a.table.now) a.animal p c.look_up.ensures c.in_ok-hit.hit c.in_ok-hit.was
