use Rattle.std.proofs.Common.{◌≡◌, ◌++◌}
use Rattle.wit_core_items.specs.ExportPlaces.{function_places}
use Rattle.wit_core_items.specs.Places.{counted}
use Rattle.wit_core_items.proofs.export_places.push_functions.Given as goal

abbrev pub invariant-loop-function : goal.invariant-loop-function
invariant-loop-function l = l.places.items ≡ l.initial.places.items ++ counted (function_places l.entry) l.function
