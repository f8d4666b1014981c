-- What the values of the code stand for.
use Rattle.wit_moves.specs.declared.plan.OwnerPlaces.{OwnerPlaces as Owners}
use Rattle.wit_moves.specs.Plan.{OwnerPlaces}

abbrev pub owners : Owners → OwnerPlaces
owners o = record { interfaces = o.interfaces; worlds = o.worlds }
