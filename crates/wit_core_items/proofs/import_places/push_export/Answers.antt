use Rattle.std.proofs.Common.{Some, sym, ap, subst, ◌∙◌, ◌++◌, List, ℕ}
use Rattle.wit_types.specs.declared.world.WorldItem.{WorldItem}
use Rattle.std.specs.Prelude.{flat_map, option_map}
use Rattle.wit_core_names.specs.Texts.{known}
use Rattle.wit_core_items.specs.World.{of_exported}
use Rattle.wit_core_items.specs.Places.{Adds}
use Rattle.wit_core_items.specs.ImportPlaces.{import_at, exported_places}
use Rattle.wit_core_items.proofs.ImportPlaces.{exported_put}
use Rattle.wit_core_items.proofs.import_places.push_export.Goals as goal

pub returns-in_ok-push_exported : goal.returns-in_ok-push_exported
returns-in_ok-push_exported c w key there =
    let i = c.in-Interface in
    subst (λ (x : WorldItem). Adds (import_at (known c.args.tables.now) w) c.args.places.now.items c.push_exported.new.places.items (of_exported (known c.args.tables.now) key x)) (sym i.is)
    (exported_put (known c.args.tables.now) w c.args.entry key i.id i.stability i.span c.in-Some.interface.now (sym c.interface_at.ensures ∙ ap (option_map (λ d. d.now)) c.in-Some.is) c.args.places.now.items c.push_exported.new.places.items
    c.in_ok-found.found.items (there ∙ ap (λ (x : WorldItem). Some (key, x)) i.is) c.in_ok-found.ensures
    (c.in_ok-push_exported.ensures ∙ ap (λ (l : List ℕ). c.args.places.now.items ++ flat_map (exported_places c.args.entry) l) c.as_slice.ensures.value))
