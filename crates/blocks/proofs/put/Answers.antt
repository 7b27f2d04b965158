-- `blocks::put` meets its contract. Assumes nothing.
use Rattle.std.proofs.Common.{sym, ◌∙◌}
use Rattle.std.proofs.Math.Seq.{set_out}
use Rattle.blocks.proofs.Laws.{put_none, put_one}
use Rattle.blocks.proofs.put.Goals as goal
use Rattle.blocks.proofs.put.Goals.{then-i-run, else-i-run}

pub returns-then-left-eq0 : goal.returns-then-left-eq0
returns-then-left-eq0 g c = put_none c.if-left-eq0.true

pub returns : goal.returns
returns g c = elim c.if-i-run.branch [ then-i-run w ↦ put_one c.if-left-eq0.false w.run-is | else-i-run w ↦ put_one c.if-left-eq0.false (w.run-is ∙ sym (set_out _ _ _ w.if-i-run.false)) ]
