-- `replay_shows::poke` meets its contract. Assumes nothing.
use Rattle.replay_shows.proofs.Poking.{poke_outside, poke_large, poke_made}
use Rattle.replay_shows.proofs.poke.Goals as goal

pub returns-then-run-i : goal.returns-then-run-i
returns-then-run-i g c = let run = g.met.T.RunWord in search (poke_outside run.of_none run.of_more)

pub returns-then-LARGEST-word : goal.returns-then-LARGEST-word
returns-then-LARGEST-word g c =
    let run = g.met.T.RunWord in
    poke_large run.of_none run.of_more _ _ _ _ c.if-run-i.false c.LARGEST.ensures c.if-LARGEST-word.true

pub returns : goal.returns
returns g c =
    let run = g.met.T.RunWord in
    poke_made run.of_none run.of_more _ _ _ _ c.if-run-i.false c.LARGEST.ensures c.of_number.ensures c.if-LARGEST-word.false
