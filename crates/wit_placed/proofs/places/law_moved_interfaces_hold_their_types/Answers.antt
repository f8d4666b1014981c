use Rattle.wit_placed.proofs.Holding.{interfaces_hold}
use Rattle.wit_placed.proofs.places.law_moved_interfaces_hold_their_types.Goals as goal

pub returns : goal.returns
returns c = interfaces_hold
