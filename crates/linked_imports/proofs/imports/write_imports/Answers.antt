use Rattle.std.proofs.Common.{ℕ, refl, sym, subst, ap, ◌∙◌}
use Rattle.std.proofs.lemmas.Result.{err_from_is_err_and}
use Rattle.std.specs.Prelude.{◌++◌, List, Option, map, string_bytes}
use Rattle.type_writing.specs.Passed.type_meaning-Scope.{meaning, Scope}
use Rattle.type_writing.proofs.Refusals.{cause_weaker}
use Rattle.type_writing.specs.Writing.{IsRemembered}
use Rattle.component_imports.specs.Passed.type_sinks-Kept.{index_of}
use Rattle.wit_order.specs.Order.{Has}
use Rattle.wit_reach.specs.Types.{AreTypesThere}
use Rattle.component_imports.specs.Passed.type_sinks-Placing.{ArePlaced}
use Rattle.component_imports.specs.Functions.{functions_of, HaveParametersApart}
use Rattle.component_imports.specs.Interfaces.{ids_of, linked_of, asked}
use Rattle.component_imports.specs.World.{HasUnwrittenType}
use Rattle.right_components.specs.Passed.link_table-Linking.{linking_value, types_of, exported_functions}
use Rattle.linked_imports.specs.Imports.{AreImportsWritten, AreImportsListed}
use Rattle.linked_imports.proofs.Importable.{needed_of, can_import, exported_ready}
use Rattle.linked_imports.proofs.Listed.{imports_listed}
use Rattle.linked_imports.proofs.Needed.{types_there, owners_there, all_may_be_taken}
use Rattle.linked_imports.proofs.Taken.{keeps_on}
use Rattle.linked_imports.proofs.Written.{typed_keeps, all_written}
use Rattle.linked_imports.proofs.imports.write_imports.Goals as goal

pub import_needed-requires-clause-there : goal.import_needed-requires-clause-there
import_needed-requires-clause-there c =
    let l = linking_value c.args.linking.now in
    let own = functions_of c.in_ok-needed.needed.own.items in
    let linked = linked_of c.in_ok-needed.needed.linked.items in
    let needed = needed_of l c.as_slice-imports.result.now c.args.linking.now.main.now.imports.items own linked c.as_slice-imports.ensures.value refl c.in_ok-needed.ensures.own c.in_ok-needed.ensures.linked in
    let are = c.as_slice.ensures.value ∙ c.in_ok-ids.ensures ∙ ap ids_of c.requires.exported in
    subst (λ ids. AreTypesThere (types_of l) (asked (ids_of own ++ ids) linked)) (sym are) (types_there l own linked c.requires.there needed)

pub import_needed-requires-clause-owners : goal.import_needed-requires-clause-owners
import_needed-requires-clause-owners c =
    let l = linking_value c.args.linking.now in
    let needed = needed_of l c.as_slice-imports.result.now c.args.linking.now.main.now.imports.items _ _ c.as_slice-imports.ensures.value refl c.in_ok-needed.ensures.own c.in_ok-needed.ensures.linked in
    owners_there l c.in_ok-needed.needed.linked.items needed.linked_are c.requires.owners

pub returns-in_err-imported-clause-importable : goal.returns-in_err-imported-clause-importable
returns-in_err-imported-clause-importable c can =
    let l = linking_value c.args.linking.now in
    let own = functions_of c.in_ok-needed.needed.own.items in
    let linked = linked_of c.in_ok-needed.needed.linked.items in
    let needed = needed_of l c.as_slice-imports.result.now c.args.linking.now.main.now.imports.items own linked c.as_slice-imports.ensures.value refl c.in_ok-needed.ensures.own c.in_ok-needed.ensures.linked in
    let are = c.as_slice.ensures.value ∙ c.in_ok-ids.ensures ∙ ap ids_of c.requires.exported in
    let moved = err_from_is_err_and c.from_residual-in_err-imported.result c.from_residual-in_err-imported.ensures.1 in
    rw (moved.1, moved.2)
    (c.in_err-imported.ensures.cause (can_import l c.args.world (map string_bytes c.args.names.now) c.as_slice.result.now own linked are can needed))

pub indices-requires-clause-there : goal.indices-requires-clause-there
indices-requires-clause-there c =
    let l = linking_value c.args.linking.now in
    let own = functions_of c.in_ok-needed.needed.own.items in
    let linked = linked_of c.in_ok-needed.needed.linked.items in
    let needed = needed_of l c.as_slice-imports.result.now c.args.linking.now.main.now.imports.items own linked c.as_slice-imports.ensures.value refl c.in_ok-needed.ensures.own c.in_ok-needed.ensures.linked in
    all_may_be_taken l c.in_ok-imported.imported (map string_bytes c.args.names.now) c.args.world c.as_slice.result.now own linked needed c.in_ok-imported.ensures.ok

pub returns-in_err-lowered-clause-importable : goal.returns-in_err-lowered-clause-importable
returns-in_err-lowered-clause-importable c can =
    let moved = err_from_is_err_and c.from_residual-in_err-lowered.result c.from_residual-in_err-lowered.ensures.1 in
    rw (moved.1, moved.2) c.in_err-lowered.ensures.cause

pub returns-in_err-written-clause-importable : goal.returns-in_err-written-clause-importable
returns-in_err-written-clause-importable c can =
    let l = linking_value c.args.linking.now in
    let table = c.requires.table in
    let root = c.indices.new.self.root in
    let known = c.in_ok-lowered.ensures.beside.known in
    let are = c.as_slice.ensures.value ∙ c.in_ok-ids.ensures ∙ ap ids_of c.requires.exported in
    let remembered : (id : ℕ) → Has (ids_of (exported_functions l.names.world)) id → IsRemembered (index_of root.known) id = λ id h.
    subst (λ (t : ℕ → Option ℕ). IsRemembered t id) (sym known) (c.in_ok-imported.ensures.ok.remembered id (subst (λ (ids : List ℕ). Has ids id) (sym are) h)) in
    let moved = err_from_is_err_and c.from_residual-in_err-written.result c.from_residual-in_err-written.ensures.1 in
    rw (moved.1, moved.2)
    (cause_weaker (λ h. exported_ready (types_of l) (exported_functions l.names.world) (index_of root.known) table.is.linked_exports remembered (subst (HasUnwrittenType (IsRemembered (index_of root.known))) c.requires.exported h)) (λ h. h)
    c.in_err-written.field-0.0 c.in_err-written.ensures.cause)

pub returns-clause-written : goal.returns-clause-written
returns-clause-written c is =
    let l = linking_value c.args.linking.now in
    let names = map string_bytes c.args.names.now in
    let old = c.indices.new.self.root in
    let written = c.in_ok-written.written in
    let lowered = c.in_ok-lowered.lowered.items in
    let keeps = c.in_ok-lowered.ensures.keeps in
    let all = all_written l is.table names old written.root (functions_of c.args.exported.now) lowered written.indices.items is.is c.requires.names (keeps.interfaces ∙ c.in_ok-imported.ensures.ok.interfaces) c.requires.exported
    (c.in_ok-lowered.ensures.ok is.table is.is) c.in_ok-written.ensures.ok in
    subst (λ (s : Scope). AreImportsWritten l is.table names s lowered written.indices.items) (sym (ap meaning c.into_entries.ensures)) all

pub returns-clause-listed : goal.returns-clause-listed
returns-clause-listed c called all =
    let l = linking_value c.args.linking.now in
    let names = map string_bytes c.args.names.now in
    let own = functions_of c.in_ok-needed.needed.own.items in
    let linked = linked_of c.in_ok-needed.needed.linked.items in
    let needed = needed_of l c.as_slice-imports.result.now c.args.linking.now.main.now.imports.items own linked c.as_slice-imports.ensures.value refl c.in_ok-needed.ensures.own c.in_ok-needed.ensures.linked in
    let are = c.as_slice.ensures.value ∙ c.in_ok-ids.ensures ∙ ap ids_of c.requires.exported in
    let imported = c.in_ok-imported.imported in
    let written = c.in_ok-written.written in
    let keeps = keeps_on imported.root c.indices.new.self.root written.root (types_of l) c.in_ok-lowered.ensures.keeps
    (typed_keeps c.indices.new.self.root written.root (types_of l) (functions_of c.args.exported.now) written.indices.items c.in_ok-written.ensures.ok) in
    subst (AreImportsListed l names) (sym (ap meaning c.into_entries.ensures))
    (imports_listed l c.args.world names imported written.root c.as_slice.result.now own linked c.in_ok-imported.ensures.ok are keeps needed (all own linked needed) called c.requires.names.keys c.requires.owners)

pub returns-clause-placed : goal.returns-clause-placed
returns-clause-placed c apart =
    let l = linking_value c.args.linking.now in
    let own = functions_of c.in_ok-needed.needed.own.items in
    let linked = linked_of c.in_ok-needed.needed.linked.items in
    let needed = needed_of l c.as_slice-imports.result.now c.args.linking.now.main.now.imports.items own linked c.as_slice-imports.ensures.value refl c.in_ok-needed.ensures.own c.in_ok-needed.ensures.linked in
    let parameters = apart.needed own linked needed in
    let first = c.in_ok-imported.ensures.placed apart.types parameters.0 parameters.1 in
    subst ArePlaced (sym c.into_entries.ensures) (c.in_ok-written.ensures.placed (subst HaveParametersApart (sym c.requires.exported) apart.exported) (c.in_ok-lowered.ensures.placed first))
