use Rattle.wit_placed.proofs.Own.{interfaces_take_places}
use Rattle.wit_placed.proofs.places.law_interfaces_take_places.Goals as goal

pub returns : goal.returns
returns c = interfaces_take_places
