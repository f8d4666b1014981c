use Rattle.wit_placed.proofs.Names.{names_apart}
use Rattle.wit_placed.proofs.naming.law_moved_interfaces_have_names_apart.Goals as goal

pub returns : goal.returns
returns c = names_apart
