use Rattle.std.proofs.Common.{◌≡◌, Some, map, sym, ap, ◌∙◌, inr}
use Rattle.std.specs.Prelude.{slice_get, true}
use Rattle.wasm_types.specs.Entries.{export_value}
use Rattle.wasm_format.specs.Module.{module_value}
use Rattle.wit_component.specs.CoreNames.{is_export_name}
use Rattle.wit_component.specs.Linking.{CoreExport, core_export}
use Rattle.wit_component.specs.Table.{Entry, export_entry, entries_of_export, is_of_memory}
use Rattle.wit_component.specs.View as view
use Rattle.plain_worlds.specs.World.{function_item}
use Rattle.wit_component.proofs.PlacesLists.{view_at, item_at, the_one, any_only}
use Rattle.wit_component.proofs.table.export_place.Goals as goal

pub returns-then-is_memory_name-clause-cause : goal.returns-then-is_memory_name-clause-cause
returns-then-is_memory_name-clause-cause c =
    let l = view.linking c.args.linking.now in
    let test = λ (e : CoreExport). is_export_name l.rejects_legacy (function_item c.args.function.now).name e.name in
    let view = core_export (module_value c.args.linking.now.main) in
    let e = view (export_value c.in-Some-get.export.now) in
    let read = c.in-Some-get.ensures.lookup in
    let at : slice_get l.main.exports c.in-One.place ≡ Some e =
    view_at export_value view c.args.linking.now.main.exports.items c.in-One.place c.in-Some-get.export.now
    (item_at c.deref.result.now c.args.linking.now.main.exports.items c.in-One.place c.in-Some-get.export.now c.deref.ensures.value read.3.0 read.1) in
    let only = the_one test l.main.exports c.args.found c.in-Some.found c.in-One.place c.in-Some.is c.in-One.is c.requires e at in
    inr (any_only (λ (x : Entry). is_of_memory l.rejects_legacy x.line.item ≡ true) (entries_of_export l (function_item c.args.function.now)) (export_entry (function_item c.args.function.now) e) (ap (map (export_entry (function_item c.args.function.now))) only) (sym c.is_memory_name.ensures ∙ c.if-is_memory_name.true))

pub returns-then-not-is_of_type-clause-cause : goal.returns-then-not-is_of_type-clause-cause
returns-then-not-is_of_type-clause-cause c =
    let l = view.linking c.args.linking.now in
    let test = λ (e : CoreExport). is_export_name l.rejects_legacy (function_item c.args.function.now).name e.name in
    let view = core_export (module_value c.args.linking.now.main) in
    let e = view (export_value c.in-Some-get.export.now) in
    let read = c.in-Some-get.ensures.lookup in
    let at : slice_get l.main.exports c.in-One.place ≡ Some e =
    view_at export_value view c.args.linking.now.main.exports.items c.in-One.place c.in-Some-get.export.now
    (item_at c.deref.result.now c.args.linking.now.main.exports.items c.in-One.place c.in-Some-get.export.now c.deref.ensures.value read.3.0 read.1) in
    let only = the_one test l.main.exports c.args.found c.in-Some.found c.in-One.place c.in-Some.is c.in-One.is c.requires e at in
    (export_entry (function_item c.args.function.now) e, ap (map (export_entry (function_item c.args.function.now))) only, λ h. c.is_of_type.ensures.is_not c.if-not-is_of_type.true (c.export_type.ensures ∙ h))

pub returns-clause-place : goal.returns-clause-place
returns-clause-place c =
    let l = view.linking c.args.linking.now in
    let test = λ (e : CoreExport). is_export_name l.rejects_legacy (function_item c.args.function.now).name e.name in
    let view = core_export (module_value c.args.linking.now.main) in
    let e = view (export_value c.in-Some-get.export.now) in
    let read = c.in-Some-get.ensures.lookup in
    let at : slice_get l.main.exports c.in-One.place ≡ Some e =
    view_at export_value view c.args.linking.now.main.exports.items c.in-One.place c.in-Some-get.export.now
    (item_at c.deref.result.now c.args.linking.now.main.exports.items c.in-One.place c.in-Some-get.export.now c.deref.ensures.value read.3.0 read.1) in
    let only = the_one test l.main.exports c.args.found c.in-Some.found c.in-One.place c.in-Some.is c.in-One.is c.requires e at in
    (e, at, record { only = only; one_meaning = sym c.is_memory_name.ensures ∙ c.if-is_memory_name.false; matches = sym c.export_type.ensures ∙ c.is_of_type.ensures.is c.if-not-is_of_type.false })
