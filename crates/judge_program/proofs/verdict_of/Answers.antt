use Rattle.judge_program.proofs.Verdicts.{slots_front, counters_front, items_front, wrong_length, judged_fronts}
use Rattle.judge_program.proofs.verdict_of.Goals as goal

pub returns-in-Some : goal.returns-in-Some
returns-in-Some c = search wrong_length

pub slice_bounds-judge-end : goal.slice_bounds-judge-end
slice_bounds-judge-end c = search slots_front

pub slice_bounds-judge-end-2 : goal.slice_bounds-judge-end-2
slice_bounds-judge-end-2 c = search counters_front

pub slice_bounds-judge-end-3 : goal.slice_bounds-judge-end-3
slice_bounds-judge-end-3 c = search items_front

pub returns : goal.returns
returns c = search judged_fronts
