use Rattle.std.proofs.Common.{◌≡◌, ◌<◌, arith, length, map, sym, ap, subst, refl, ◌∙◌}
use Rattle.std.specs.Prelude.{slice_get}
use Rattle.std.proofs.lemmas.List.{length-map}
use Rattle.std.proofs.lemmas.Option.{same_Some, slice_get_within, slice_get_read}
use Rattle.wasm_types.specs.Entries.{export_value}
use Rattle.wasm_format.specs.Module.{module_value}
use Rattle.name_places.specs.FirstPlaces.{place_of}
use Rattle.wit_component.specs.Linking.{core_export}
use Rattle.wit_component.specs.Places.{ExportLink}
use Rattle.wit_component.specs.View as view
use Rattle.plain_worlds.specs.World.{function_item}
use Rattle.wit_component.proofs.WrittenNames.{names_of}
use Rattle.wit_component.proofs.PlacesLists.{view_at}
use Rattle.component_audit.proofs.Judged.{named_nowhere, places_named}
use Rattle.component_audit.proofs.JudgedLinks.{own_place}
use Rattle.component_audit.proofs.auditor.own_export.Goals as goal

pub index-requires : goal.index-requires
index-requires c =
    let l = view.linking c.args.linking.now in
    let t = view.places c.args.table.now in
    let e = c.in-Some.ensures ∙ places_named c.args.exports.now.functions.now c.args.name.now c.args.exports.now.places c.args.exports.now.named ∙ ap (λ fs. place_of c.args.name.now (names_of (map function_item fs))) c.requires.listed in
    let own = own_place l t c.args.name.now c.in-Some.place c.requires.places e in
    omega (arith, slice_get_within t.exports c.in-Some.place own.place own.placed, c.args.table.now.exports.ok)

pub index-requires-in-Some : goal.index-requires-in-Some
index-requires-in-Some c =
    let l = view.linking c.args.linking.now in
    let t = view.places c.args.table.now in
    let e = c.in-Some.ensures ∙ places_named c.args.exports.now.functions.now c.args.name.now c.args.exports.now.places c.args.exports.now.named ∙ ap (λ fs. place_of c.args.name.now (names_of (map function_item fs))) c.requires.listed in
    let own = own_place l t c.args.name.now c.in-Some.place c.requires.places e in
    let lt = slice_get_within t.exports c.in-Some.place own.place own.placed in
    let read = slice_get_read t.exports (length t.exports) c.in-Some.place c.index.result.now refl lt c.index.ensures in
    let is : own.place ≡ c.index.result.now = same_Some own.place c.index.result.now (sym own.placed ∙ read) in
    let es = c.args.linking.now.main.exports.items in
    let m = module_value c.args.linking.now.main in
    let within = slice_get_within l.main.exports own.place own.export own.there in
    omega (arith, within, is, length-map (map export_value es) (core_export m), length-map es export_value, c.args.linking.now.main.exports.ok)

pub returns-in-Some : goal.returns-in-Some
returns-in-Some c =
    let l = view.linking c.args.linking.now in
    let t = view.places c.args.table.now in
    let e = c.in-Some.ensures ∙ places_named c.args.exports.now.functions.now c.args.name.now c.args.exports.now.places c.args.exports.now.named ∙ ap (λ fs. place_of c.args.name.now (names_of (map function_item fs))) c.requires.listed in
    let own = own_place l t c.args.name.now c.in-Some.place c.requires.places e in
    let lt = slice_get_within t.exports c.in-Some.place own.place own.placed in
    let read = slice_get_read t.exports (length t.exports) c.in-Some.place c.index.result.now refl lt c.index.ensures in
    let is : own.place ≡ c.index.result.now = same_Some own.place c.index.result.now (sym own.placed ∙ read) in
    let es = c.args.linking.now.main.exports.items in
    let m = module_value c.args.linking.now.main in
    let within = slice_get_within l.main.exports own.place own.export own.there in
    let below : c.index.result.now < length es = omega (arith, within, is, length-map (map export_value es) (core_export m), length-map es export_value) in
    let seen = view_at export_value (core_export m) es c.index.result.now c.index-in-Some.result.now (slice_get_read es (length es) c.index.result.now c.index-in-Some.result.now refl below c.index-in-Some.ensures) in
    let export : own.export ≡ core_export m (export_value c.index-in-Some.result.now) = same_Some own.export (core_export m (export_value c.index-in-Some.result.now)) (sym own.there ∙ (ap (slice_get l.main.exports) is ∙ seen)) in
    (own.function, own.named, subst (ExportLink l own.function) export own.link)

pub returns-in-None : goal.returns-in-None
returns-in-None c =
    sym (named_nowhere c.args.name.now (map function_item c.args.linking.now.world.now.exports.items)
    (c.in-None.ensures ∙ places_named c.args.exports.now.functions.now c.args.name.now c.args.exports.now.places c.args.exports.now.named ∙ ap (λ fs. place_of c.args.name.now (names_of (map function_item fs))) c.requires.listed))
