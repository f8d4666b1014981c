use Rattle.std.proofs.Common.{◌≡◌, ◌+◌, List, map, take, drop, sym, ap, subst, ◌∙◌}
use Rattle.std.proofs.lemmas.Result.{err_from_is_err_and}
use Rattle.wasm_types.specs.Entries.{import_value}
use Rattle.wasm_format.specs.Module.{module_value}
use Rattle.wit_component.specs.Candidates.{candidates, names_in}
use Rattle.wit_component.specs.Cause.{RepeatsPair, IsImportCause}
use Rattle.wit_component.specs.CoreNames.{root, standard}
use Rattle.wit_component.specs.Linking.{CoreImport, core_import}
use Rattle.wit_component.specs.Places.{Placed, ImportPlace}
use Rattle.wit_component.specs.View as view
use Rattle.plain_worlds.specs.World.{FunctionItem}
use Rattle.wit_component.proofs.PlacesCauses.{import_cause, name_cause}
use Rattle.wit_component.proofs.PlacesLists.{looked_up, any_seen, seen_more, seen_parts, placed_push}
use Rattle.wit_component.proofs.PlacesRepeats.{legacy_more, standard_more, distinct_more}
use Rattle.wit_component.proofs.table.add_places.Goals as goal

pub import_place-requires-clause-stands : goal.import_place-requires-clause-stands
import_place-requires-clause-stands c =
    looked_up (λ (f : FunctionItem). f.name) (view.linking c.args.linking.now).world.imports (candidates c.args.places.now) _ c.copied.result c.requires.places (c.copied.ensures ∙ c.get.ensures.value)

pub returns-in_err-place-clause-cause : goal.returns-in_err-place-clause-cause
returns-in_err-place-clause-cause c =
    let l = view.linking c.args.linking.now in
    let p = err_from_is_err_and c.from_residual-in_err-place.result c.from_residual-in_err-place.ensures.1 in
    rw (p.1, p.2) (import_cause l c.in_err-place.field-0.0
    (any_seen import_value (core_import (module_value c.args.linking.now.main)) c.deref-import-items.result.now c.args.linking.now.main.imports.items c.loop-import.import-index _
    c.deref-import-items.ensures.value c.loop-import-test.true (IsImportCause l c.in_err-place.field-0.0) c.in_err-place.ensures.cause))

pub returns-in_err-add_name-clause-cause : goal.returns-in_err-add_name-clause-cause
returns-in_err-add_name-clause-cause c =
    let l = view.linking c.args.linking.now in
    let g = core_import (module_value c.args.linking.now.main) in
    let items = c.args.linking.now.main.imports.items in
    let k = c.loop-import.import-index in
    let p = err_from_is_err_and c.from_residual.result c.from_residual.ensures.1 in
    rw (p.1, p.2) (name_cause l c.in_err-add_name.field-0.0 (map g (map import_value (take k items))) (map g (map import_value (drop (k + 1) items))) _ c.loop-import.table
    c.loop-import.invariant.legacy c.loop-import.invariant.standard
    (seen_parts import_value g c.deref-import-items.result.now items k _ c.deref-import-items.ensures.value c.loop-import-test.true)
    (λ P p. any_seen import_value g c.deref-import-items.result.now items k _ c.deref-import-items.ensures.value c.loop-import-test.true P p)
    c.requires.plain c.in_err-add_name.ensures.cause)

pub loop-import-preserved : goal.loop-import-preserved
loop-import-preserved c =
    let l = view.linking c.args.linking.now in
    let g = core_import (module_value c.args.linking.now.main) in
    let items = c.args.linking.now.main.imports.items in
    let k = c.loop-import.import-index in
    let done : List CoreImport = map g (map import_value (take k items)) in
    let inv = c.loop-import.invariant in
    let added = c.in_ok-add_name.ensures.added in
    let more = seen_more import_value g c.deref-import-items.result.now items k _ c.deref-import-items.ensures.value c.loop-import-test.true in
    record {
      legacy = subst (λ (is : List CoreImport). c.add_name.new.table.legacy ≡ names_in is root) (sym more) (legacy_more done _ c.loop-import.table c.add_name.new.table inv.legacy inv.standard added);
      standard = subst (λ (is : List CoreImport). c.add_name.new.table.standard ≡ names_in is standard) (sym more) (standard_more done _ c.loop-import.table c.add_name.new.table inv.legacy inv.standard added);
      imports = subst (λ (is : List CoreImport). Placed (ImportPlace l) is c.push.new.self.items) (sym more)
          (placed_push (ImportPlace l) done c.loop-import.table.imports.items c.add_name.new.table.imports.items c.push.new.self.items _ c.in_ok-place.place c.in_ok-push.ensures.items (ap (λ v. v.items) added.imports) inv.imports c.in_ok-place.ensures.place);
      distinct = subst (λ (is : List CoreImport). RepeatsPair is → ⊥) (sym more) (distinct_more done _ c.loop-import.table c.add_name.new.table inv.legacy inv.standard inv.distinct added);
      exports = added.exports ∙ inv.exports;
    }
