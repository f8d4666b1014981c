use Rattle.std.proofs.Common.{◌≡◌, ◌<◌, arith, length, Some, None, map, sym, ap, ◌∙◌, subst}
use Rattle.std.specs.Prelude.{filter, slice_get, option_map, bytes_eq}
use Rattle.std.proofs.lemmas.List.{length-map}
use Rattle.std.proofs.lemmas.Option.{slice_get-map, slice_get_past}
use Rattle.wasm_types.specs.Entries.{import_value}
use Rattle.wasm_format.specs.Module.{module_value}
use Rattle.wit_component.specs.Candidates.{Stands}
use Rattle.wit_component.specs.CoreNames.{is_import_name}
use Rattle.wit_component.specs.Linking.{core_import}
use Rattle.wit_component.specs.declared.table.Candidates.{Candidates}
use Rattle.wit_component.specs.Table.{imported_by, import_entry}
use Rattle.wit_component.specs.View as view
use Rattle.plain_worlds.specs.World.{FunctionItem, function_item}
use Rattle.wit_component.proofs.PlacesLists.{item_at, the_one, the_one_there}
use Rattle.wit_component.proofs.PlacesNames.{no_name, no_memory, legacy_meaning, import_stands}
use Rattle.wit_component.proofs.table.import_place.Goals as goal

pub returns-in_default-clause-cause : goal.returns-in_default-clause-cause
returns-in_default-clause-cause c =
    let l = view.linking c.args.linking.now in
    let i = core_import (module_value c.args.linking.now.main) (import_value c.args.import.now) in
    (ap (map (import_entry i)) (no_name l i (subst (λ o. Stands (λ (f : FunctionItem). bytes_eq f.name i.name) l.world.imports o) c.in_default.is c.requires.stands)), no_memory l i c.requires.known)

pub returns-then-is_rejected-clause-cause : goal.returns-then-is_rejected-clause-cause
returns-then-is_rejected-clause-cause c =
    let l = view.linking c.args.linking.now in
    let i = core_import (module_value c.args.linking.now.main) (import_value c.args.import.now) in
    legacy_meaning l i (sym c.is_rejected.ensures ∙ c.if-is_rejected.true) c.in-Some.found (subst (λ o. Stands (λ (f : FunctionItem). bytes_eq f.name i.name) l.world.imports o) c.in-Some.is c.requires.stands)

pub returns-then-not-is_of_type-clause-cause : goal.returns-then-not-is_of_type-clause-cause
returns-then-not-is_of_type-clause-cause c =
    let l = view.linking c.args.linking.now in
    let i = core_import (module_value c.args.linking.now.main) (import_value c.args.import.now) in
    let test = λ (f : FunctionItem). is_import_name l.rejects_legacy i.place i.name f.name in
    let stands = import_stands l i c.requires.known (sym c.is_rejected.ensures ∙ c.if-is_rejected.false) c.args.found c.requires.stands in
    let f = function_item c.in-Some-get.function.now in
    let read = c.in-Some-get.ensures.lookup in
    let items = c.args.linking.now.world.now.imports.items in
    let at : slice_get l.world.imports c.in-One.place ≡ Some f =
    slice_get-map function_item items c.in-One.place ∙ ap (option_map function_item) (item_at c.deref.result.now items c.in-One.place c.in-Some-get.function.now c.deref.ensures.value read.3.0 read.1) in
    let only = the_one test l.world.imports c.args.found c.in-Some.found c.in-One.place c.in-Some.is c.in-One.is stands f at in
    (import_entry i f, ap (map (import_entry i)) only, λ h. c.is_of_type.ensures.is_not c.if-not-is_of_type.true (c.import_type.ensures ∙ h))

pub returns-clause-place : goal.returns-clause-place
returns-clause-place c =
    let l = view.linking c.args.linking.now in
    let i = core_import (module_value c.args.linking.now.main) (import_value c.args.import.now) in
    let test = λ (f : FunctionItem). is_import_name l.rejects_legacy i.place i.name f.name in
    let stands = import_stands l i c.requires.known (sym c.is_rejected.ensures ∙ c.if-is_rejected.false) c.args.found c.requires.stands in
    let f = function_item c.in-Some-get.function.now in
    let read = c.in-Some-get.ensures.lookup in
    let items = c.args.linking.now.world.now.imports.items in
    let at : slice_get l.world.imports c.in-One.place ≡ Some f =
    slice_get-map function_item items c.in-One.place ∙ ap (option_map function_item) (item_at c.deref.result.now items c.in-One.place c.in-Some-get.function.now c.deref.ensures.value read.3.0 read.1) in
    let only = the_one test l.world.imports c.args.found c.in-Some.found c.in-One.place c.in-Some.is c.in-One.is stands f at in
    (f, at, record { only = only; matches = sym c.import_type.ensures ∙ c.is_of_type.ensures.is c.if-not-is_of_type.false })

pub returns-in_default-get-clause-cause : goal.returns-in_default-get-clause-cause
returns-in_default-get-clause-cause c =
    let l = view.linking c.args.linking.now in
    let i = core_import (module_value c.args.linking.now.main) (import_value c.args.import.now) in
    let test = λ (f : FunctionItem). is_import_name l.rejects_legacy i.place i.name f.name in
    let stands = import_stands l i c.requires.known (sym c.is_rejected.ensures ∙ c.if-is_rejected.false) c.args.found c.requires.stands in
    let items = c.args.linking.now.world.now.imports.items in
    let none : slice_get l.world.imports c.in-One.place ≡ None =
    slice_get-map function_item items c.in-One.place
    ∙ ap (λ xs. option_map function_item (slice_get xs c.in-One.place)) (sym c.deref.ensures.value)
    ∙ ap (option_map function_item) (slice_get_past c.deref.result.now c.in-One.place c.in_default-get.ensures.lookup.3) in
    absurd (the_one_there test l.world.imports c.args.found c.in-Some.found c.in-One.place c.in-Some.is c.in-One.is stands none)

pub returns-in_default-found-clause-cause : goal.returns-in_default-found-clause-cause
returns-in_default-found-clause-cause c =
    let l = view.linking c.args.linking.now in
    let i = core_import (module_value c.args.linking.now.main) (import_value c.args.import.now) in
    let test = λ (f : FunctionItem). is_import_name l.rejects_legacy i.place i.name f.name in
    let stands = import_stands l i c.requires.known (sym c.is_rejected.ensures ∙ c.if-is_rejected.false) c.args.found c.requires.stands in
    let several : 1 < length (filter test l.world.imports) = subst (λ o. Stands test l.world.imports o) (c.in-Some.is ∙ ap (λ (x : Candidates). Some x) c.in_default-found.is) stands in
    omega (arith, several, length-map (imported_by l i) (import_entry i))
