use Rattle.wit_core_names.specs.Texts.{known}
use Rattle.wit_types.specs.declared.world.WorldItem.{WorldItem}
use Rattle.wit_types.specs.declared.world_key.WorldKey.{WorldKey}
use Rattle.wit_core_items.specs.ImportPlaces.{import_at}
use Rattle.wit_core_items.specs.World.{of_import}
use Rattle.wit_core_items.proofs.Placing.{adds_next}
use Rattle.wit_core_items.proofs.import_places.push_imports.Goals as goal

pub loop-entry-preserved : goal.loop-entry-preserved
loop-entry-preserved c =
    adds_next (import_at (known c.args.tables.now) c.args.world.now) (λ (e : WorldKey × WorldItem). of_import (known c.args.tables.now) e.0 e.1) c.args.world.now.imports.entries c.loop-entry.entry (c.entry_at.result.0.now, c.entry_at.result.1.now)
    c.args.places.now.items c.loop-entry.places.items c.push_import.new.places.items c.entry_at.ensures c.loop-entry.invariant (c.in_ok-push_import.ensures c.args.world.now c.entry_at.result.0.now c.entry_at.ensures)
