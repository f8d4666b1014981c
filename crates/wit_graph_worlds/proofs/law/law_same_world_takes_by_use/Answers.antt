use Rattle.wit_graph_worlds.proofs.Taking.{same_takes}
use Rattle.wit_graph_worlds.proofs.law.law_same_world_takes_by_use.Goals as goal

pub returns : goal.returns
returns c = same_takes
