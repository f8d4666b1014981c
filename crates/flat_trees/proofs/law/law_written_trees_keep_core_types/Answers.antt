use Rattle.flat_trees.proofs.Written.{written_keep}
use Rattle.flat_trees.proofs.law.law_written_trees_keep_core_types.Goals as goal

pub returns : goal.returns
returns c = written_keep
