use Rattle.std.proofs.Common.{◌≡◌, ◌++◌, ℕ, map, take}
use Rattle.wit_core_items.specs.declared.import_places.ImportPlace.TheVariants.{InterfaceDrop}
use Rattle.wit_core_items.proofs.import_places.push_drops.Given as goal

abbrev pub invariant-loop-resource : goal.invariant-loop-resource
invariant-loop-resource l = l.places.items ≡ l.initial.places.items ++ map (λ (r : ℕ). InterfaceDrop l.entry r) (take l.resource-index l.resources)
