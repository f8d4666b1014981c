use Rattle.wit_interfaces.proofs.Pairs.{functions_apart}
use Rattle.wit_interfaces.proofs.interface.named_functions.Goals as goal

pub keyed-requires : goal.keyed-requires
keyed-requires c = functions_apart c.in_ok-pairs.pairs.items c.args.functions.items c.in_ok-pairs.ensures.0 c.in_ok-pairs.ensures.1 c.requires
