use Rattle.std.proofs.Common.{List, map, take, drop, length, Bor, sym, subst, ap, ◌∙◌, arith}
use Rattle.std.proofs.lemmas.Result.{err_from_is_err_and}
use Rattle.wit_types.specs.declared.function.Function.{Function}
use Rattle.wit_reach.specs.Types.{AreTypesThere}
use Rattle.linked_types.specs.Reached.{ids_of, MayBeLinked, IsCause}
use Rattle.link_table.specs.Linking.{linking_value, types_of, AreImported}
use Rattle.core_links.specs.Imports.{IsImportsCause, RepeatsPair}
use Rattle.core_links.specs.View.{AreLinksOf}
use Rattle.wasm_types.specs.declared.entries.Import.{Import}
use Rattle.wasm_types.specs.Entries.{import_value}
use Rattle.link_table.specs.Types.{HaveTrees}
use Rattle.link_table.proofs.Causes.{links_cause, functions_cause, types_cause}
use Rattle.link_table.proofs.Parts.{count, linked_long, joined_parts, first_part, second_part, have_trees, whole_table}
use Rattle.link_table.proofs.There.{types_are_there}
use Rattle.link_table.proofs.table.table_of.Goals as goal

pub returns-in_err-imports-clause-cause : goal.returns-in_err-imports-clause-cause
returns-in_err-imports-clause-cause c =
    let l = linking_value c.args.linking.now in
    let moved = err_from_is_err_and c.from_residual.result c.from_residual.ensures.1 in
    rw (moved.1, moved.2)
    (links_cause l c.in_err-imports.field-0.0 (subst (λ (xs : List Import). IsImportsCause l.names (map import_value xs) c.in_err-imports.field-0.0) c.as_slice.ensures.value c.in_err-imports.ensures.cause))

pub returns-in_err-functions-clause-cause : goal.returns-in_err-functions-clause-cause
returns-in_err-functions-clause-cause c =
    let l = linking_value c.args.linking.now in
    let moved = err_from_is_err_and c.from_residual-in_err-functions.result c.from_residual-in_err-functions.ensures.1 in
    rw (moved.1, moved.2)
    (functions_cause l c.in_err-functions.field-0.0 c.in_err-functions.ensures.cause)

pub check_functions-requires-clause-there : goal.check_functions-requires-clause-there
check_functions-requires-clause-there c =
    let l = linking_value c.args.linking.now in
    subst (λ (fs : List (Bor Function)). AreTypesThere (types_of l) (ids_of (map (λ f. f.now) fs))) (sym c.as_slice-2.ensures.value) (types_are_there l (map (λ f. f.now) c.in_ok-functions.functions.items) c.requires.there c.in_ok-functions.ensures.linked)

pub returns-in_err-check_functions-clause-cause : goal.returns-in_err-check_functions-clause-cause
returns-in_err-check_functions-clause-cause c =
    let l = linking_value c.args.linking.now in
    let moved = err_from_is_err_and c.from_residual-in_err-check_functions.result c.from_residual-in_err-check_functions.ensures.1 in
    rw (moved.1, moved.2)
    (types_cause l (map (λ f. f.now) c.in_ok-functions.functions.items) c.in_err-check_functions.field-0.0 c.in_ok-functions.ensures.linked
    (subst (λ (fs : List (Bor Function)). IsCause (types_of l) (map (λ f. f.now) fs) c.in_err-check_functions.field-0.0) c.as_slice-2.ensures.value c.in_err-check_functions.ensures.cause))

pub split_at-requires : goal.split_at-requires
split_at-requires c =
    let l = linking_value c.args.linking.now in
    let long = linked_long l c.in_ok-functions.functions.items c.in_ok-functions.ensures.linked in
    let back = ap length c.deref.ensures.value in
    let size = c.len.ensures in
    let ok = count c.args.linking.now.main.now.imports in
    omega (arith, long, back, size, ok)

pub checked_links-requires-clause-imported : goal.checked_links-requires-clause-imported
checked_links-requires-clause-imported c =
    let l = linking_value c.args.linking.now in
    let all = c.in_ok-functions.ensures.linked in
    subst (AreImported l.names l.main.imports) (sym (ap (map (λ f. f.now)) (c.split_at.ensures.front ∙ ap (take c.len.result) c.deref.ensures.value) ∙ first_part l c.in_ok-functions.functions.items c.len.result all (c.len.ensures ∙ count c.args.linking.now.main.now.imports))) all.imported_are

pub checked_links-requires-clause-exported : goal.checked_links-requires-clause-exported
checked_links-requires-clause-exported c =
    let l = linking_value c.args.linking.now in
    ap (map (λ f. f.now)) (c.split_at.ensures.back ∙ ap (drop c.len.result) c.deref.ensures.value) ∙ second_part l c.in_ok-functions.functions.items c.len.result c.in_ok-functions.ensures.linked (c.len.ensures ∙ count c.args.linking.now.main.now.imports)

pub checked_links-requires-clause-trees : goal.checked_links-requires-clause-trees
checked_links-requires-clause-trees c =
    let l = linking_value c.args.linking.now in
    let fs = c.in_ok-functions.functions.items in
    let all = c.in_ok-functions.ensures.linked in
    let may = subst (λ (gs : List (Bor Function)). MayBeLinked (types_of l) (map (λ f. f.now) gs)) c.as_slice-2.ensures.value c.in_ok-check_functions.ensures.linked in
    subst (HaveTrees (types_of l)) (joined_parts fs c.len.result _ _ (c.split_at.ensures.front ∙ ap (take c.len.result) c.deref.ensures.value) (c.split_at.ensures.back ∙ ap (drop c.len.result) c.deref.ensures.value))
    (have_trees c.law_linked_functions_unfold.ensures (types_of l) (map (λ f. f.now) fs) c.requires.backward (types_are_there l (map (λ f. f.now) fs) c.requires.there all) may)

pub returns-clause-table : goal.returns-clause-table
returns-clause-table c =
    let l = linking_value c.args.linking.now in
    let fs = c.in_ok-functions.functions.items in
    let all = c.in_ok-functions.ensures.linked in
    let may = subst (λ (gs : List (Bor Function)). MayBeLinked (types_of l) (map (λ f. f.now) gs)) c.as_slice-2.ensures.value c.in_ok-check_functions.ensures.linked in
    let first = ap (map (λ f. f.now)) (c.split_at.ensures.front ∙ ap (take c.len.result) c.deref.ensures.value) ∙ first_part l fs c.len.result all (c.len.ensures ∙ count c.args.linking.now.main.now.imports) in
    whole_table l (record { imports = c.in_ok-imports.imports; exports = c.in_ok-exports.exports }) (map (λ f. f.now) c.split_at.result.0.now) (map (λ f. f.now) c.split_at.result.1.now)
    (subst (λ (xs : List Import). AreLinksOf l.names (map import_value xs) c.in_ok-imports.imports) c.as_slice.ensures.value c.in_ok-imports.ensures.links) (subst (λ (xs : List Import). RepeatsPair (map import_value xs) → ⊥) c.as_slice.ensures.value c.in_ok-imports.ensures.distinct) (subst (AreImported l.names l.main.imports) (sym first) all.imported_are) c.in_ok-functions.ensures.only
    (ap (map (λ f. f.now)) (c.split_at.ensures.back ∙ ap (drop c.len.result) c.deref.ensures.value) ∙ second_part l fs c.len.result all (c.len.ensures ∙ count c.args.linking.now.main.now.imports))
    (subst (MayBeLinked (types_of l)) (joined_parts fs c.len.result _ _ (c.split_at.ensures.front ∙ ap (take c.len.result) c.deref.ensures.value) (c.split_at.ensures.back ∙ ap (drop c.len.result) c.deref.ensures.value)) may) c.in_ok-exports.ensures.links
