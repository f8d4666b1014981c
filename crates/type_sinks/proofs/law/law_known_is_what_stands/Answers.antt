use Rattle.type_sinks.proofs.Placed.{known}
use Rattle.type_sinks.proofs.law.law_known_is_what_stands.Goals as goal

pub returns : goal.returns
returns c = known
