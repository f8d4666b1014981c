use Rattle.std.proofs.Common.{take}
use Rattle.wit_core_names.specs.Texts.{known}
use Rattle.wit_core_items.specs.ExportPlaces.{export_at, of_exports}
use Rattle.wit_core_items.specs.Places.{Adds}
use Rattle.wit_core_items.proofs.export_places.push_exports.Given as goal

abbrev pub invariant-loop-entry : goal.invariant-loop-entry
invariant-loop-entry l = Adds (export_at (known l.tables) l.world) l.initial.places.items l.places.items (of_exports (known l.tables) (take l.entry l.world.exports.entries))
