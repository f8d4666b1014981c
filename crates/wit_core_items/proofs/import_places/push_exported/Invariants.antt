use Rattle.std.proofs.Common.{◌≡◌, ◌++◌, take}
use Rattle.std.specs.Prelude.{flat_map}
use Rattle.wit_core_items.specs.ImportPlaces.{exported_places}
use Rattle.wit_core_items.proofs.import_places.push_exported.Given as goal

abbrev pub invariant-loop-resource : goal.invariant-loop-resource
invariant-loop-resource l = l.places.items ≡ l.initial.places.items ++ flat_map (exported_places l.entry) (take l.resource-index l.resources)
