-- `looking::look_up` meets its contract. Assumes nothing.
use Rattle.model.specs.Shape.{four}
use Rattle.model.specs.Seen.{seen}
use Rattle.looking.proofs.Looking.{look_sound}
use Rattle.looking.proofs.look_up.Goals as goal

pub hit_word-requires-clause-sound : goal.hit_word-requires-clause-sound
hit_word-requires-clause-sound c = look_sound four (seen c.args.table.now) c.args.animal c.home_of-words.ensures c.in-Ok.is
