use Rattle.std.proofs.Common.{Some, sym, ap, subst, ◌∙◌, ◌++◌, map, List, ℕ}
use Rattle.std.specs.Prelude.{option_map}
use Rattle.wit_types.specs.declared.world.WorldItem.{WorldItem}
use Rattle.wit_core_names.specs.Texts.{known}
use Rattle.wit_core_items.specs.World.{of_import}
use Rattle.wit_core_items.specs.Places.{Adds}
use Rattle.wit_core_items.specs.ImportPlaces.{import_at}
use Rattle.wit_core_items.specs.declared.import_places.ImportPlace.TheVariants.{InterfaceDrop}
use Rattle.wit_core_items.proofs.ImportPlaces.{interface_put}
use Rattle.wit_core_items.proofs.import_places.push_import.Goals as goal

pub returns-in_ok-push_drops-in-Interface : goal.returns-in_ok-push_drops-in-Interface
returns-in_ok-push_drops-in-Interface c w key there =
    let i = c.in-Interface in
    subst (λ (x : WorldItem). Adds (import_at (known c.args.tables.now) w) c.args.places.now.items c.push_drops.new.places.items (of_import (known c.args.tables.now) key x)) (sym i.is)
    (interface_put (known c.args.tables.now) w c.args.entry key i.id i.stability i.span c.in-Some.interface.now (sym c.interface_at.ensures ∙ ap (option_map (λ d. d.now)) c.in-Some.is) c.args.places.now.items c.push_functions.new.places.items c.push_drops.new.places.items
    c.in_ok-found-in-Interface.found.items c.len.result (there ∙ ap (λ (x : WorldItem). Some (key, x)) i.is) c.len.ensures.len c.in_ok-found-in-Interface.ensures c.in_ok-push_functions-in-Interface.ensures
    (c.in_ok-push_drops-in-Interface.ensures ∙ ap (λ (l : List ℕ). c.push_functions.new.places.items ++ map (λ r. InterfaceDrop c.args.entry r) l) c.as_slice.ensures.value))
