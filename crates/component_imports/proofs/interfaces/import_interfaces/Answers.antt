use Rattle.std.proofs.Common.{◌≡◌, ◌+◌, ◌++◌, ◌∷◌, [], sym, ap, refl, ◌∙◌, subst, Some, length, arith}
use Rattle.std.specs.Prelude.{slice_get}
use Rattle.wit_reach.specs.Types.{AreTypesThere}
use Rattle.component_imports.specs.Functions.{functions_of, HaveParametersApart}
use Rattle.component_imports.specs.Interfaces.{ids_of, linked_of}
use Rattle.std.proofs.lemmas.Result.{err_from_is_err_and}
use Rattle.type_sinks.proofs.Passed.type_writing-Refusals.{cause_weaker}
use Rattle.component_imports.proofs.Exported.{each_get}
use Rattle.component_imports.proofs.Readied.{ready_imported}
use Rattle.component_imports.proofs.Turns.{ready_now}
use Rattle.component_imports.proofs.Needing.{AreImportedTo, all_needed, needed_there, functions_there, linked_at, linked_count, imported_next, all_imported, taken_apart}
use Rattle.component_imports.proofs.interfaces.import_interfaces.Goals as goal

pub import_needed-requires-clause-there : goal.import_needed-requires-clause-there
import_needed-requires-clause-there c = needed_there _ c.args.types.now _ c.in_ok-found.found c.from_index-interface.result c.of_interface-of_interface.result.now c.in_ok-found.ensures c.of_interface-of_interface.ensures

pub import_needed-requires-clause-functions_there : goal.import_needed-requires-clause-functions_there
import_needed-requires-clause-functions_there c =
    let vs = c.args.linked.now in
    let types = c.args.types.now in
    let v = c.index-linked-index.result in
    subst (λ fs. AreTypesThere types (ids_of (functions_of fs))) (sym c.as_slice-functions.ensures.value)
    (functions_there types c.args.others.now (linked_of vs) c.loop-index.index (functions_of v.items) c.requires.there (linked_at vs c.loop-index.index v c.loop-index-test.true c.index-linked-index.is))

pub import_needed-requires-clause-apart : goal.import_needed-requires-clause-apart
import_needed-requires-clause-apart c = taken_apart c.args.root c.loop-index.root c.args.types.now c.loop-index.instances.items c.in_ok-found.found (linked_of c.args.linked.now) c.loop-index.index c.from_index-interface.result c.from_index-interface.ensures c.requires.apart c.loop-index.invariant.imported

pub loop-index-preserved : goal.loop-index-preserved
loop-index-preserved c =
    let vs = c.args.linked.now in
    let types = c.args.types.now in
    let others = c.args.others.now in
    let n = c.loop-index.index in
    let own = c.from_index-interface.result in
    let v = c.index-linked-index.result in
    let all = all_needed _ types vs others c.in_ok-ids.ids.items c.as_slice.result.now c.in_ok-found.found refl c.as_slice.ensures.value c.in_ok-ids.ensures c.in_ok-found.ensures in
    let here : slice_get c.in_ok-found.found n ≡ Some c.of_interface-of_interface.result.now = ap (slice_get c.in_ok-found.found) (sym c.from_index-interface.ensures) ∙ c.of_interface-of_interface.ensures in
    let at = linked_at vs n v c.loop-index-test.true c.index-linked-index.is ∙ ap (λ fs. Some (functions_of fs)) (sym c.as_slice-functions.ensures.value) in
    let ids = c.of_interface-of_interface.result.now in
    let fs = functions_of c.as_slice-functions.result.now in
    record {
      imported = subst (λ is. AreImportedTo c.args.root c.in_ok-root.root types is c.in_ok-found.found (linked_of vs) (n + 1))
          (sym (c.in_ok-push.ensures.items ∙ ap (λ o. c.loop-index.instances.items ++ o ∷ []) c.next_instance-instance.ensures))
          (imported_next c.args.root c.loop-index.root c.in_ok-root.root types c.loop-index.instances.items others c.in_ok-found.found (linked_of vs) n own ids fs c.from_index-interface.ensures all here at c.loop-index.invariant.imported c.in_ok-root.ensures.ok);
      placed = λ labels parameters p. c.in_ok-root.ensures.placed labels (each_get HaveParametersApart (linked_of vs) n fs parameters at) (c.loop-index.invariant.placed labels parameters p);
    }

pub returns : goal.returns
returns c =
    let vs = c.args.linked.now in
    let types = c.args.types.now in
    let others = c.args.others.now in
    let found = c.in_ok-found.found in
    let all = all_needed _ types vs others c.in_ok-ids.ids.items c.as_slice.result.now found refl c.as_slice.ensures.value c.in_ok-ids.ensures c.in_ok-found.ensures in
    let low = c.loop-index-test.false in
    let high = c.loop-index.auto.index-end in
    let count : length (linked_of vs) ≡ c.loop-index.index = (let k = linked_count vs in omega (arith, k, low, high)) in
    record {
      ok = record {
        needed = found;
        are = all;
        imported = all_imported c.args.root c.loop-index.root types c.loop-index.instances.items found (linked_of vs) c.loop-index.index count (all.size ∙ count) c.loop-index.invariant.imported;
      };
      placed = c.loop-index.invariant.placed;
      written = λ can. tt;
    }

pub returns-in_err-root-clause-written : goal.returns-in_err-root-clause-written
returns-in_err-root-clause-written c = λ can.
    let vs = c.args.linked.now in
    let types = c.args.types.now in
    let others = c.args.others.now in
    let n = c.loop-index.index in
    let own = c.from_index-interface.result in
    let v = c.index-linked-index.result in
    let fs = functions_of c.as_slice-functions.result.now in
    let ids = c.of_interface-of_interface.result.now in
    let found = c.in_ok-found.found in
    let all = all_needed _ types vs others c.in_ok-ids.ids.items c.as_slice.result.now found refl c.as_slice.ensures.value c.in_ok-ids.ensures c.in_ok-found.ensures in
    let at = linked_at vs n v c.loop-index-test.true c.index-linked-index.is ∙ ap (λ l. Some (functions_of l)) (sym c.as_slice-functions.ensures.value) in
    let here : slice_get (linked_of vs) own ≡ Some fs = ap (slice_get (linked_of vs)) c.from_index-interface.ensures ∙ at in
    let before = subst (AreImportedTo c.args.root c.loop-index.root types c.loop-index.instances.items found (linked_of vs)) (sym c.from_index-interface.ensures) c.loop-index.invariant.imported in
    let moved = err_from_is_err_and c.from_residual-in_err-root.result c.from_residual-in_err-root.ensures.1 in
    rw (moved.1, moved.2)
    (cause_weaker (λ h.
    ready_imported c.loop-index.root types own h.1.0 fs (ready_now c.args.root c.loop-index.root types c.loop-index.instances.items others (linked_of vs) found c.requires.backward all can own before ids fs c.of_interface-of_interface.ensures here h.1.0 h.1.1 h.0) h.1.2)
    (λ h. h) c.in_err-root.field-0.0 c.in_err-root.ensures.cause)

pub returns-in_err-push-clause-written : goal.returns-in_err-push-clause-written
returns-in_err-push-clause-written c = λ can.
    let moved = err_from_is_err_and c.from_residual-in_err-push.result c.from_residual-in_err-push.ensures.1 in
    rw (moved.1, moved.2) tt
