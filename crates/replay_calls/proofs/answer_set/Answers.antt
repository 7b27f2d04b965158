-- `replay_calls::answer_set` meets its contract. Assumes nothing.
use Rattle.replay_calls.proofs.Tell.{whole_as, cut_as}
use Rattle.replay_calls.proofs.answer_set.Goals.{in-None, in-Some}
use Rattle.replay_calls.proofs.answer_set.Goals as goal

pub returns : goal.returns
returns c =
    elim c.match-cut.branch [
      | in-None w ↦
          let put = rw w.said-is at c.put_setting.ensures in
          rw (w.in-None.is, w.slots-is, w.counters-is, w.items-is) (whole_as w.set-said.ensures put)
      | in-Some w ↦
          let put = rw w.said-is at c.put_setting.ensures in
          rw (w.in-Some.is, w.slots-is, w.counters-is, w.items-is) (cut_as w.set_cut-said.ensures put)
    ]
