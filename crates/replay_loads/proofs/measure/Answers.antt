-- `replay_loads::measure` meets its contract. Assumes nothing.
use Rattle.replay_loads.proofs.Loads.{no_words, no_run, measure_words, measure_bad}
use Rattle.replay_loads.proofs.measure.Goals as goal

pub returns-in_default : goal.returns-in_default
returns-in_default c = no_words c.args.line.now c.body_of.ensures c.in_default.ensures.steps.0

pub returns-in_default-run_named : goal.returns-in_default-run_named
returns-in_default-run_named c = no_run c.args.line.now c.body_of.ensures _ c.in-Some.ensures.steps c.in_default-run_named.ensures

pub returns-in-Ok : goal.returns-in-Ok
returns-in-Ok c =
    measure_words c.args.line.now c.body_of.ensures _ c.in-Some.ensures.steps c.in-Some-run_named.run' c.in-Some-run_named.ensures c.top_of.ensures c.in-Ok.ensures

pub returns-in-Err : goal.returns-in-Err
returns-in-Err c =
    measure_bad c.args.line.now c.body_of.ensures _ c.in-Some.ensures.steps c.in-Some-run_named.run' c.in-Some-run_named.ensures c.top_of.ensures c.in-Err.why c.in-Err.ensures
