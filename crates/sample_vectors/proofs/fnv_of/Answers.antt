use Rattle.std.proofs.Common.{rules}
use Rattle.sample_vectors.proofs.Fold.{fnv_folds}
use Rattle.sample_vectors.proofs.fnv_of.Goals as goal

pub returns : goal.returns
returns c = rw (← fnv_folds 2166136261 c.args.text.now) (search rules)
