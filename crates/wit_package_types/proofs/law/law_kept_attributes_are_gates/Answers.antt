use Rattle.wit_package_types.proofs.Gated.{gates_ready}
use Rattle.wit_package_types.proofs.law.law_kept_attributes_are_gates.Goals as goal

pub returns : goal.returns
returns c = gates_ready
