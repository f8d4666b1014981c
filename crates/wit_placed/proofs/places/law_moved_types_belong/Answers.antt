use Rattle.wit_placed.proofs.Order.{types_belong}
use Rattle.wit_placed.proofs.places.law_moved_types_belong.Goals as goal

pub returns : goal.returns
returns c = types_belong
