use Rattle.wit_named_packages.proofs.Interfaces.{interfaces_take}
use Rattle.wit_named_packages.proofs.law.law_resolved_interfaces_take_by_use.Goals as goal

pub returns : goal.returns
returns c = interfaces_take
