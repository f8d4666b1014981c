use Rattle.std.proofs.Common.{take}
use Rattle.wit_core_names.specs.Texts.{known}
use Rattle.wit_core_items.specs.Places.{Adds}
use Rattle.wit_core_items.specs.ImportPlaces.{import_at, imported}
use Rattle.wit_core_items.proofs.import_places.push_imports.Given as goal

abbrev pub invariant-loop-entry : goal.invariant-loop-entry
invariant-loop-entry l = Adds (import_at (known l.tables) l.world) l.initial.places.items l.places.items (imported (known l.tables) (take l.entry l.world.imports.entries))
