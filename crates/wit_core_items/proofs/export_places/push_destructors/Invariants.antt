use Rattle.std.proofs.Common.{◌≡◌, ◌++◌, ℕ, map, take}
use Rattle.wit_core_items.specs.declared.export_places.ExportPlace.TheVariants.{Destructor}
use Rattle.wit_core_items.proofs.export_places.push_destructors.Given as goal

abbrev pub invariant-loop-resource : goal.invariant-loop-resource
invariant-loop-resource l = l.places.items ≡ l.initial.places.items ++ map (λ (r : ℕ). Destructor l.entry r) (take l.resource-index l.resources)
