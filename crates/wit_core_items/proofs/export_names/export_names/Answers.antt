use Rattle.std.proofs.Common.{◌≤◌, Some, sym, ap, ◌∙◌, arith, length}
use Rattle.std.proofs.lemmas.Option.{slice_get-get_or}
use Rattle.std.specs.Cow.{cow_str_bytes}
use Rattle.wit_core_names.specs.Items.{CoreExport}
use Rattle.wit_core_names.specs.Texts.{known}
use Rattle.wit_core_items.specs.Growing.{Name, name_eq}
use Rattle.wit_core_items.specs.ExportPlaces.{export_at}
use Rattle.wit_core_items.specs.World.{IsExportedAs, core_exports}
use Rattle.wit_core_items.proofs.Growing.{reads_first, reads_next, reads_all}
use Rattle.wit_core_items.proofs.Placing.{are_there, as_many}
use Rattle.wit_core_items.proofs.export_names.export_names.Goals as goal

pub add_at-requires-clause-there : goal.add_at-requires-clause-there
add_at-requires-clause-there c =
    let k = known c.args.tables.now in
    let w = c.args.world.now in
    let at = slice_get-get_or c.args.places.now c.loop-place.place c.index-places-place.result c.loop-place-test.true ∙ ap Some (sym c.index-places-place.is) in
    let (x, is, there) = are_there (export_at k w) c.args.places.now (core_exports k w) c.requires.places c.loop-place.place c.index-places-place.result at in
    (x, is)

pub loop-place-init : goal.loop-place-init
loop-place-init c =
    let k = known c.args.tables.now in
    reads_first name_eq (core_exports k c.args.world.now) (λ (x : CoreExport) (q : Name). IsExportedAs k c.args.legacy x (cow_str_bytes q)) c.new-names.result c.new-names.ensures

pub loop-place-preserved : goal.loop-place-preserved
loop-place-preserved c =
    let k = known c.args.tables.now in
    let w = c.args.world.now in
    let at = slice_get-get_or c.args.places.now c.loop-place.place c.index-places-place.result c.loop-place-test.true ∙ ap Some (sym c.index-places-place.is) in
    let (x, is, there) = are_there (export_at k w) c.args.places.now (core_exports k w) c.requires.places c.loop-place.place c.index-places-place.result at in
    reads_next name_eq (core_exports k w) (λ (x : CoreExport) (q : Name). IsExportedAs k c.args.legacy x (cow_str_bytes q)) c.loop-place.place x c.loop-place.names c.add_at.new.names there c.loop-place.invariant
    (c.in_ok-add_at.ensures x is)

pub returns : goal.returns
returns c =
    let k = known c.args.tables.now in
    let w = c.args.world.now in
    let size = as_many (export_at k w) c.args.places.now (core_exports k w) c.requires.places in
    let past : length (core_exports k w) ≤ c.loop-place.place = omega (arith, size, c.loop-place-test.false) in
    reads_all name_eq (core_exports k w) (λ (x : CoreExport) (q : Name). IsExportedAs k c.args.legacy x (cow_str_bytes q)) c.loop-place.place c.loop-place.names past c.loop-place.invariant
