use Rattle.std.proofs.Common.{◌++◌, sym, subst, ap, ◌∙◌}
use Rattle.std.proofs.lemmas.Result.{err_from_is_err_and}
use Rattle.wit_reach.specs.Types.{AreTypesThere}
use Rattle.type_writing.proofs.Refusals.{cause_weaker}
use Rattle.std.specs.List.{AllByRecursion as Each}
use Rattle.component_imports.specs.Functions.{functions_of, function_names, HaveParametersApart}
use Rattle.component_imports.specs.Interfaces.{ids_of, linked_of, AreNeededImported}
use Rattle.component_imports.specs.Ready.{AreWritable}
use Rattle.component_imports.specs.World.{AreWorldItemsImported, IsWorldUnready}
use Rattle.linked_imports.proofs.Needed.{front_there, others_there, bare_names, all_imported, others_remembered}
use Rattle.linked_imports.proofs.imports.import_needed.Goals as goal

pub import_interfaces-requires-clause-good : goal.import_interfaces-requires-clause-good
import_interfaces-requires-clause-good c = c.new-start.ensures.good c.args.types.now

pub returns-in_err-found-clause-cause : goal.returns-in_err-found-clause-cause
returns-in_err-found-clause-cause c can =
    let start = c.new-start.result in
    let types = c.args.types.now in
    let are = c.as_slice.ensures.value ∙ c.in_ok-extend_from_slice.ensures.items ∙ ap (λ l. l ++ c.args.exported.now) (c.in_ok-asked.ensures ∙ ap (λ fs. ids_of (functions_of fs)) c.as_slice-own.ensures.value) in
    let writable = can.interfaces start c.new-start.ensures.names (bare_names start c.new-start.ensures.entries) in
    let moved = err_from_is_err_and c.from_residual-in_err-found.result c.from_residual-in_err-found.ensures.1 in
    rw (moved.1, moved.2)
    (c.in_err-found.ensures.written (subst (λ ids. AreWritable start types ids (linked_of c.as_slice-2.result.now)) (sym are)
    (subst (λ vs. AreWritable start types (ids_of (functions_of c.args.needed.now.own.items) ++ c.args.exported.now) (linked_of vs)) (sym c.as_slice-2.ensures.value) writable)))

pub import_functions-requires-clause-others_there : goal.import_functions-requires-clause-others_there
import_functions-requires-clause-others_there c = others_there c.args.types.now (ids_of (functions_of c.args.needed.now.own.items)) c.args.exported.now (linked_of c.args.needed.now.linked.items) c.requires.there

pub import_functions-requires-clause-there : goal.import_functions-requires-clause-there
import_functions-requires-clause-there c =
    subst (λ fs. AreTypesThere c.args.types.now (ids_of (functions_of fs))) (sym c.as_slice-own.ensures.value)
    (front_there c.args.types.now (ids_of (functions_of c.args.needed.now.own.items)) c.args.exported.now (linked_of c.args.needed.now.linked.items) c.requires.there)

pub returns-in_err-root-clause-cause : goal.returns-in_err-root-clause-cause
returns-in_err-root-clause-cause c can =
    let start = c.new-start.result in
    let types = c.args.types.now in
    let found = c.in_ok-found.found in
    let own = c.args.needed.now.own.items in
    let are = c.as_slice.ensures.value ∙ c.in_ok-extend_from_slice.ensures.items ∙ ap (λ l. l ++ c.args.exported.now) (c.in_ok-asked.ensures ∙ ap (λ fs. ids_of (functions_of fs)) c.as_slice-own.ensures.value) in
    let first = subst (λ ids. AreNeededImported start found.root types found.instances.items ids (linked_of c.args.needed.now.linked.items)) are
    (subst (λ vs. AreNeededImported start found.root types found.instances.items c.as_slice.result.now (linked_of vs)) c.as_slice-2.ensures.value c.in_ok-found.ensures.ok) in
    let moved = err_from_is_err_and c.from_residual-in_err-root.result c.from_residual-in_err-root.ensures.1 in
    rw (moved.1, moved.2)
    (cause_weaker (λ h. can.functions start found.root found.instances.items c.new-start.ensures.names (bare_names start c.new-start.ensures.entries) first
    (subst (λ fs. IsWorldUnready found.root types c.args.world c.args.exported.now (functions_of fs)) c.as_slice-own.ensures.value h)) (λ h. h) c.in_err-root.field-0.0 c.in_err-root.ensures.cause)

pub returns-in_err-names_of_functions-clause-cause : goal.returns-in_err-names_of_functions-clause-cause
returns-in_err-names_of_functions-clause-cause c can =
    let moved = err_from_is_err_and c.from_residual-in_err-names_of_functions.result c.from_residual-in_err-names_of_functions.ensures.1 in
    rw (moved.1, moved.2) tt

pub returns-clause-ok : goal.returns-clause-ok
returns-clause-ok c =
    let start = c.new-start.result in
    let types = c.args.types.now in
    let found = c.in_ok-found.found in
    let last = c.in_ok-root.root in
    let others = c.args.exported.now in
    let own = functions_of c.args.needed.now.own.items in
    let linked = linked_of c.args.needed.now.linked.items in
    let ids = c.as_slice.result.now in
    let are = c.as_slice.ensures.value ∙ c.in_ok-extend_from_slice.ensures.items ∙ ap (λ l. l ++ others) (c.in_ok-asked.ensures ∙ ap (λ fs. ids_of (functions_of fs)) c.as_slice-own.ensures.value) in
    let first = subst (λ vs. AreNeededImported start found.root types found.instances.items ids (linked_of vs)) c.as_slice-2.ensures.value c.in_ok-found.ensures.ok in
    let second = subst (λ fs. AreWorldItemsImported found.root last types c.args.world others (functions_of fs)) c.as_slice-own.ensures.value c.in_ok-root.ensures.ok in
    let bare = bare_names start c.new-start.ensures.entries in
    record {
      interfaces = second.interfaces ∙ first.imported.stays.interfaces ∙ c.new-start.ensures.names;
      own_names = c.in_ok-names_of_functions.ensures ∙ ap (λ fs. function_names (functions_of fs)) c.as_slice-own.ensures.value;
      has = all_imported start found.root last types c.args.world found.instances.items others ids own linked bare are first second c.function_count-first.result c.function_count-first.ensures;
      remembered = others_remembered start found.root last types c.args.world found.instances.items others ids own linked bare are first second;
    }

pub returns-clause-placed : goal.returns-clause-placed
returns-clause-placed c = λ labels own linked.
    c.in_ok-root.ensures.placed labels (subst (λ fs. HaveParametersApart (functions_of fs)) (sym c.as_slice-own.ensures.value) own)
    (c.in_ok-found.ensures.placed labels (subst (λ vs. Each HaveParametersApart (linked_of vs)) (sym c.as_slice-2.ensures.value) linked) c.new-start.ensures.placed)
