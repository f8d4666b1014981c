use Rattle.std.proofs.Common.{Some, sym, ap, subst, ◌∙◌, ◌++◌, map, List, ℕ}
use Rattle.std.specs.Prelude.{option_map}
use Rattle.wit_types.specs.declared.world.WorldItem.{WorldItem}
use Rattle.wit_core_names.specs.Texts.{known}
use Rattle.wit_core_items.specs.World.{of_export}
use Rattle.wit_core_items.specs.ExportPlaces.{export_at}
use Rattle.wit_core_items.specs.Places.{Adds}
use Rattle.wit_core_items.specs.declared.export_places.ExportPlace.TheVariants.{Destructor}
use Rattle.wit_core_items.proofs.ExportPlaces.{interface_put}
use Rattle.wit_core_items.proofs.export_places.push_export.Goals as goal

pub returns-in_ok-push_destructors-in-Interface : goal.returns-in_ok-push_destructors-in-Interface
returns-in_ok-push_destructors-in-Interface c w key there =
    let i = c.in-Interface in
    subst (λ (x : WorldItem). Adds (export_at (known c.args.tables.now) w) c.args.places.now.items c.push_destructors.new.places.items (of_export (known c.args.tables.now) key x)) (sym i.is)
    (interface_put (known c.args.tables.now) w c.args.entry key i.id i.stability i.span c.in-Some.interface.now (sym c.interface_at.ensures ∙ ap (option_map (λ d. d.now)) c.in-Some.is) (there ∙ ap (λ (x : WorldItem). Some (key, x)) i.is) c.args.places.now.items c.push_functions.new.places.items c.push_destructors.new.places.items
    c.in_ok-found-in-Interface.found.items c.len.result c.len.ensures.len c.in_ok-found-in-Interface.ensures c.in_ok-push_functions-in-Interface.ensures
    (c.in_ok-push_destructors-in-Interface.ensures ∙ ap (λ (l : List ℕ). c.push_functions.new.places.items ++ map (λ r. Destructor c.args.entry r) l) c.as_slice.ensures.value))
