use Rattle.std.proofs.Common.{◌∙◌, ap, subst, ◌⊎◌, ◌≡◌, false}
use Rattle.std.specs.Prelude.{List, ℕ}
use Rattle.std.specs.List.{AllByRecursion as Each}
use Rattle.std.proofs.lemmas.List.{take_all}
use Rattle.std.proofs.lemmas.Result.{err_from_is_err_and}
use Rattle.distinct_names.specs.Names.{is_new}
use Rattle.wit_types.specs.declared.function.Param.{Param}
use Rattle.type_sinks.specs.Passed.type_writing-Functions.{function_form}
use Rattle.type_sinks.specs.Passed.type_writing-Refusals.{AreUnready}
use Rattle.type_sinks.specs.Passed.type_writing-Writing.{IsRemembered}
use Rattle.type_sinks.proofs.Passed.type_writing-Refusals.{cause_weaker}
use Rattle.type_sinks.specs.Kept.{index_of}
use Rattle.type_sinks.specs.Views.{inside_names, HasFunction}
use Rattle.component_imports.specs.Functions.{functions_of, HasFunctionOf}
use Rattle.component_imports.proofs.Exported.{names_next, has_next, parameters_at, functions_cause}
use Rattle.component_imports.proofs.functions.export_functions.Goals as goal

pub loop-function-preserved : goal.loop-function-preserved
loop-function-preserved c =
    let start = c.args.to.now in
    let old = c.loop-function.to in
    let new = c.export_function.new.self in
    let before = c.loop-function.invariant in
    let a = c.in_ok-export_function.ensures in
    let fs = c.args.functions.now in
    let i = c.loop-function.function-index in
    let f = c.function-item.result in
    let lt = c.loop-function-test.true in
    let at = c.function-item.is in
    let name = c.as_str.ensures.value in
    let params = c.deref.ensures.value in
    record {
      setting = a.setting ∙ before.setting;
      root = a.root ∙ before.root;
      table = a.table ∙ before.table;
      exports = a.exports ∙ before.exports;
      names = names_next fs i f c.as_str.result.now (inside_names start) (inside_names old) (inside_names new) lt at name before.names a.names;
      good = λ types g. a.good types (before.good types g);
      placed = λ types g apart p. a.placed types (before.good types g) (parameters_at fs i f c.deref.result.now lt at params apart) (before.placed types g apart p);
      has = λ types g. has_next (HasFunctionOf old types) (HasFunctionOf new types) fs i f lt at (λ h. a.keeps types _ _ _) (before.has types g)
          (subst (λ n. HasFunction new types n f.now.params.items f.now.result) name (subst (λ (ps : List Param). HasFunction new types c.as_str.result.now ps f.now.result) params (a.has types (before.good types g))));
    }

pub returns-in_err-export_function-clause-good : goal.returns-in_err-export_function-clause-good
returns-in_err-export_function-clause-good c = λ types g. c.in_err-export_function.ensures.good types (c.loop-function.invariant.good types g)

pub returns-in_err-export_function-clause-placed : goal.returns-in_err-export_function-clause-placed
returns-in_err-export_function-clause-placed c = λ types g apart p.
    let before = c.loop-function.invariant in
    c.in_err-export_function.ensures.placed types (before.good types g) (parameters_at c.args.functions.now c.loop-function.function-index c.function-item.result c.deref.result.now c.loop-function-test.true c.function-item.is c.deref.ensures.value apart) (before.placed types g apart p)

pub returns-clause-has : goal.returns-clause-has
returns-clause-has c = λ types g.
    let fs = c.args.functions.now in
    subst (Each (HasFunctionOf c.loop-function.to types)) (ap functions_of (take_all c.loop-function.function-index fs c.loop-function-test.false)) (c.loop-function.invariant.has types g)

pub returns-in_err-export_function-clause-cause : goal.returns-in_err-export_function-clause-cause
returns-in_err-export_function-clause-cause c =
    let start = c.args.to.now in
    let old = c.loop-function.to in
    let before = c.loop-function.invariant in
    let fs = c.args.functions.now in
    let i = c.loop-function.function-index in
    let f = c.function-item.result in
    let moved = err_from_is_err_and c.from_residual.result c.from_residual.ensures.1 in
    let P : List Param → List ℕ → List (List ℕ) → List (ℕ × ℕ) → Type 0 = λ ps n names table. AreUnready (IsRemembered (index_of table)) (function_form ps f.now.result).parts ⊎ (is_new names n ≡ false) in
    rw (moved.1, moved.2)
    (cause_weaker (λ h.
    functions_cause (IsRemembered (index_of start.known)) (inside_names start) (inside_names old) fs i f c.loop-function-test.true c.function-item.is before.names
    (subst (P f.now.params.items _ (inside_names old)) before.table (subst (λ n. P f.now.params.items n (inside_names old) old.known) c.as_str.ensures.value (subst (λ ps. P ps c.as_str.result.now (inside_names old) old.known) c.deref.ensures.value h))))
    (λ h. h)
    c.in_err-export_function.field-0.0
    c.in_err-export_function.ensures.cause)
