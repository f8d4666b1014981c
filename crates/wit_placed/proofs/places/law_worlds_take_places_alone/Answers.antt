use Rattle.wit_placed.proofs.Own.{worlds_take_places_alone}
use Rattle.wit_placed.proofs.places.law_worlds_take_places_alone.Goals as goal

pub returns : goal.returns
returns c = worlds_take_places_alone
