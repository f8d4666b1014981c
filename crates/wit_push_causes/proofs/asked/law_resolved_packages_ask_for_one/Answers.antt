use Rattle.wit_push_causes.proofs.Resolving.{resolved_for_one}
use Rattle.wit_push_causes.proofs.asked.law_resolved_packages_ask_for_one.Goals as goal

pub returns : goal.returns
returns c = resolved_for_one
