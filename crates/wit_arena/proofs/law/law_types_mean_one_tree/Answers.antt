use Rattle.wit_arena.proofs.OneMeaning.{types_mean_one_tree}
use Rattle.wit_arena.proofs.law.law_types_mean_one_tree.Goals as goal

pub returns : goal.returns
returns c = types_mean_one_tree
