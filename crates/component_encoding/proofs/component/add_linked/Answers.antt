use Rattle.std.proofs.Common.{◌<◌, ◌++◌, length, map, sym, ap, subst, ◌∙◌}
use Rattle.std.specs.Prelude.{slice_get}
use Rattle.component_entries.specs.Entries.{entry_value}
use Rattle.linked_imports.specs.Passed.component_meaning-Spaces.{meaning}
use Rattle.wasm_types.specs.Entries.{export_value}
use Rattle.linked_imports.specs.Passed.link_table-Linking.{linking_value}
use Rattle.linked_imports.specs.Passed.link_table-View.{AreLinksOfEntries}
use Rattle.linked_imports.specs.Passed.right_components-Main.{main_of}
use Rattle.component_encoding.specs.Instances.{AreLowerable, IsInstantiated}
use Rattle.component_encoding.specs.Exports.{AreTypes}
use Rattle.linked_imports.specs.Passed.type_sinks-Placing.{as_definitions}
use Rattle.component_encoding.proofs.Whole.{whole, places_there, exported_of}
use Rattle.component_encoding.proofs.component.add_linked.Goals as goal

pub add_exports-requires-clause-places : goal.add_exports-requires-clause-places
add_exports-requires-clause-places c = λ k x at.
    subst (λ es. x.«export» < length es) (sym c.as_slice-2.ensures.value)
    (places_there c.args.linking.now.main.now.exports.items c.requires.table.table.exports c.args.table.now.exports.items c.requires.table.exports k x (ap (λ xs. slice_get xs k) (sym c.exports.ensures) ∙ at))

pub returns : goal.returns
returns c = record {
  right = λ names is named written.
      let l = linking_value c.args.linking.now in
      let main = main_of c.args.bytes.now l.main in
      let first = c.add_entries.new.builder in
      let second = c.add_main_module.new.builder in
      let last = c.add_exports.new.builder in
      let lowers = c.args.imports.lowered.items in
      let lifts = c.args.imports.lifted.items in
      whole c.law_unfolded_functions_are_flat.ensures c.law_written_trees_keep_core_types.ensures l names c.args.bytes.now is.table (map entry_value c.args.imports.entries.items) first second last lowers lifts c.in_ok-instance.instance is.is
      c.requires.backward named written
      (c.in_ok-add_entries.ensures ∙ ap (λ ds. ds ++ as_definitions (map entry_value c.args.imports.entries.items)) c.requires.empty)
      c.in_ok-add_exports.ensures.begins
      (λ low. subst (λ fs. IsInstantiated main (meaning main first) (meaning main second) fs c.in_ok-instance.instance) c.as_slice.ensures.value
      (c.in_ok-instance.ensures.instance (subst (AreLowerable main (meaning main first)) (sym c.as_slice.ensures.value) low)))
      (λ offered of types. exported_of l main second last is.table.exports (map (λ f. f.now) c.args.exported.now) c.as_slice-3.result.now lifts c.as_slice-3.ensures.value c.requires.exported
      (c.in_ok-add_exports.ensures.exported l main is.table.exports (ap (map export_value) c.as_slice-2.ensures.value) (subst (AreLinksOfEntries l.main.exports is.table.exports) (sym c.exports.ensures) is.exports)
      (is.is.exports ∙ sym c.requires.exported) offered of (subst (AreTypes (meaning main second)) (sym c.as_slice-3.ensures.value) types)))
      (λ low. c.in_ok-instance.ensures.placed (subst (AreLowerable main (meaning main first)) (sym c.as_slice.ensures.value) low));
}
