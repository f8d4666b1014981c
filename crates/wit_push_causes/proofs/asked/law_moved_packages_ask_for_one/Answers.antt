use Rattle.wit_push_causes.proofs.Asking.{moved_for_one}
use Rattle.wit_push_causes.proofs.asked.law_moved_packages_ask_for_one.Goals as goal

pub returns : goal.returns
returns c = moved_for_one
