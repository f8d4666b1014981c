use Rattle.known_definitions.proofs.Laws.{one_list}
use Rattle.known_definitions.proofs.law.law_one_list.Goals as goal

pub returns : goal.returns
returns c = one_list
