use Rattle.wit_push_causes.proofs.Resolving.{parsed_for_one}
use Rattle.wit_push_causes.proofs.asked.law_parsed_packages_ask_for_one.Goals as goal

pub returns : goal.returns
returns c = parsed_for_one
