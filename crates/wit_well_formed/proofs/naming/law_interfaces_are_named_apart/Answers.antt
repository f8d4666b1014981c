use Rattle.wit_well_formed.proofs.InterfaceNames.{named_apart}
use Rattle.wit_well_formed.proofs.naming.law_interfaces_are_named_apart.Goals as goal

pub returns : goal.returns
returns c = named_apart
