use Rattle.wit_push_causes.proofs.Asking.{deps_for_one}
use Rattle.wit_push_causes.proofs.asked.law_deps_ask_for_one.Goals as goal

pub returns : goal.returns
returns c = deps_for_one
