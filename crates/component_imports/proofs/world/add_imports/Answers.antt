use Rattle.std.proofs.Common.{take, ◌⊎◌, false, Option, subst, ◌∙◌, arith, ◌≡◌, ◌+◌, length}
use Rattle.std.specs.Prelude.{List, ℕ}
use Rattle.wit_types.specs.declared.function.Param.{Param}
use Rattle.type_sinks.specs.Passed.type_meaning-Scope.{import_label}
use Rattle.type_sinks.proofs.Passed.type_writing-Standing.{begins_on}
use Rattle.type_sinks.specs.Views.{root_scope, root_names, IsFunctionAt}
use Rattle.component_imports.specs.Functions.{functions_of}
use Rattle.std.proofs.lemmas.Result.{err_from_is_err_and}
use Rattle.distinct_names.specs.Names.{is_new}
use Rattle.type_sinks.specs.Passed.type_writing-Functions.{function_form}
use Rattle.type_sinks.specs.Passed.type_writing-Refusals.{AreUnready}
use Rattle.type_sinks.specs.Passed.type_writing-Writing.{IsRemembered}
use Rattle.type_sinks.proofs.Passed.type_writing-Refusals.{cause_weaker}
use Rattle.type_sinks.specs.Kept.{index_of}
use Rattle.component_imports.proofs.Exported.{names_next, parameters_at, functions_cause}
use Rattle.component_imports.proofs.Worldly.{functions_at_stay, at_next}
use Rattle.component_imports.proofs.world.add_imports.Goals as goal

pub loop-function-preserved : goal.loop-function-preserved
loop-function-preserved c =
    let start = c.args.root.now in
    let old = c.loop-function.root in
    let new = c.import_function.new.self in
    let before = c.loop-function.invariant in
    let a = c.in_ok-import_function.ensures in
    let i = c.in_ok-import_function.field-0 in
    let fs = c.args.functions.now in
    let n = c.loop-function.function-index in
    let f = c.function-item.result in
    let lt = c.loop-function-test.true in
    let at = c.function-item.is in
    let name = c.as_str.ensures.value in
    let params = c.deref.ensures.value in
    let first = length (root_scope start).functions in
    let index = a.index.0 in
    let count = a.index.1 in
    let so_far = before.count in
    let here : i ≡ first + n = omega (arith, index, so_far) in
    record {
      interfaces = a.interfaces ∙ before.interfaces;
      table = a.table ∙ before.table;
      homes = a.homes ∙ before.homes;
      types = begins_on (root_scope start).types (root_scope old).types (root_scope new).types before.types a.types;
      functions = begins_on (root_scope start).functions (root_scope old).functions (root_scope new).functions before.functions a.functions;
      instances = a.instances ∙ before.instances;
      good = λ types g. a.good types (before.good types g);
      placed = λ types g apart p. a.placed types (before.good types g) (parameters_at fs n f c.deref.result.now lt at params apart) (before.placed types g apart p);
      names = names_next fs n f c.as_str.result.now (root_names start) (root_names old) (root_names new) lt at name before.names a.names;
      count = omega (arith, count, here);
      are = λ types g.
          at_next new first i n types fs f lt at here (functions_at_stay old new first types (functions_of (take n fs)) a.interfaces a.functions (before.are types g))
          (subst (λ m. IsFunctionAt new i (import_label m) types f.now.params.items f.now.result) name (subst (λ (ps : List Param). IsFunctionAt new i (import_label c.as_str.result.now) types ps f.now.result) params (a.is types (before.good types g))));
    }

pub returns-in_err-import_function-clause-good : goal.returns-in_err-import_function-clause-good
returns-in_err-import_function-clause-good c = λ types g. c.in_err-import_function.ensures.good types (c.loop-function.invariant.good types g)

pub returns-in_err-import_function-clause-placed : goal.returns-in_err-import_function-clause-placed
returns-in_err-import_function-clause-placed c = λ types g apart p.
    let before = c.loop-function.invariant in
    c.in_err-import_function.ensures.placed types (before.good types g) (parameters_at c.args.functions.now c.loop-function.function-index c.function-item.result c.deref.result.now c.loop-function-test.true c.function-item.is c.deref.ensures.value apart) (before.placed types g apart p)

pub returns-in_err-import_function-clause-cause : goal.returns-in_err-import_function-clause-cause
returns-in_err-import_function-clause-cause c =
    let start = c.args.root.now in
    let old = c.loop-function.root in
    let before = c.loop-function.invariant in
    let fs = c.args.functions.now in
    let i = c.loop-function.function-index in
    let f = c.function-item.result in
    let moved = err_from_is_err_and c.from_residual.result c.from_residual.ensures.1 in
    let P : List Param → List ℕ → List (List ℕ) → (ℕ → Option ℕ) → Type 0 = λ ps n names table. AreUnready (IsRemembered table) (function_form ps f.now.result).parts ⊎ (is_new names n ≡ false) in
    rw (moved.1, moved.2)
    (cause_weaker (λ h.
    functions_cause (IsRemembered (index_of start.known)) (root_names start) (root_names old) fs i f c.loop-function-test.true c.function-item.is before.names
    (subst (P f.now.params.items _ (root_names old)) before.table (subst (λ n. P f.now.params.items n (root_names old) (index_of old.known)) c.as_str.ensures.value (subst (λ ps. P ps c.as_str.result.now (root_names old) (index_of old.known)) c.deref.ensures.value h))))
    (λ h. tt)
    c.in_err-import_function.field-0.0
    c.in_err-import_function.ensures.cause)
