-- `replay_calls::answer_evict` meets its contract. Assumes nothing.
use Rattle.replay_calls.proofs.Tell.{whole_as, cut_as}
use Rattle.replay_calls.proofs.answer_evict.Goals.{in-None, in-Some}
use Rattle.replay_calls.proofs.answer_evict.Goals as goal

pub returns-clause-made : goal.returns-clause-made
returns-clause-made c =
    elim c.match-cut.branch [
      | in-None w ↦
          let put = rw w.turned-is at c.put_evicting-next.ensures in
          rw (w.in-None.is, w.slots-is, w.counters-is, w.items-is) (whole_as w.evict-turned.ensures.did put)
      | in-Some w ↦
          let put = rw w.turned-is at c.put_evicting-next.ensures in
          rw (w.in-Some.is, w.slots-is, w.counters-is, w.items-is) (cut_as w.evict_cut-turned.ensures.does put)
    ]
