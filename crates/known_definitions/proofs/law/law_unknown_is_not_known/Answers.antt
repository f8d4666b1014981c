use Rattle.known_definitions.proofs.Laws.{not_known}
use Rattle.known_definitions.proofs.law.law_unknown_is_not_known.Goals as goal

pub returns : goal.returns
returns c = not_known
