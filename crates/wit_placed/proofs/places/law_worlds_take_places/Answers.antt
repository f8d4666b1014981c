use Rattle.wit_placed.proofs.Own.{worlds_take_places}
use Rattle.wit_placed.proofs.places.law_worlds_take_places.Goals as goal

pub returns : goal.returns
returns c = worlds_take_places
