use Rattle.std.proofs.Common.{subst, ap, ◌∙◌, refl, arith}
use Rattle.std.proofs.lemmas.List.{take_all}
use Rattle.std.proofs.lemmas.Result.{err_from_is_err_and}
use Rattle.std.specs.Prelude.{List, ℕ, Option}
use Rattle.wit_types.specs.declared.function.Param.{Param}
use Rattle.type_sinks.specs.Passed.type_writing-Functions.{function_form, FunctionStands}
use Rattle.type_sinks.specs.Passed.type_writing-Refusals.{AreUnready}
use Rattle.type_sinks.specs.Passed.type_writing-Writing.{IsRemembered}
use Rattle.type_sinks.proofs.Passed.type_writing-Refusals.{cause_weaker}
use Rattle.type_sinks.specs.Kept.{index_of}
use Rattle.type_sinks.specs.Root.{root_label}
use Rattle.type_sinks.specs.Views.{root_scope, interface_names}
use Rattle.component_imports.specs.Functions.{functions_of}
use Rattle.component_imports.specs.World.{AreTypesWritten}
use Rattle.component_imports.proofs.Exported.{parameters_at}
use Rattle.component_imports.proofs.Typed.{none_written, written_next, function_among}
use Rattle.component_imports.proofs.world.write_functions.Goals as goal

pub loop-function-init : goal.loop-function-init
loop-function-init c = (none_written c.args.root c.args.types.now c.new-indices.result.items c.new-indices.ensures.items c.requires, refl, λ apart p. p)

pub loop-function-preserved : goal.loop-function-preserved
loop-function-preserved c =
    let start = c.args.root in
    let types = c.args.types.now in
    let old = c.loop-function.root in
    let new = c.write_function.new.sink in
    let before = c.loop-function.invariant in
    let a = c.in_ok-index.ensures in
    let f = c.function-item.result in
    let i = c.in_ok-index.index in
    let good = before.0.good in
    let stands = subst (λ (ps : List Param). FunctionStands (root_label (interface_names new)) types (root_scope new).types ps f.now.result i) c.deref.ensures.value (a.stands types good) in (
      written_next start old new types a.setting a.begins a.names (a.good types good) c.args.functions.now c.loop-function.function-index f c.loop-function.indices.items c.push.new.self.items i
          c.loop-function-test.true c.function-item.is c.in_ok-push.ensures.items stands before.0,
      ap (λ t. t) a.table ∙ before.1,
      λ apart p. a.placed types good (parameters_at c.args.functions.now c.loop-function.function-index f c.deref.result.now c.loop-function-test.true c.function-item.is c.deref.ensures.value apart) (before.2 apart p),
    )

pub returns-clause-ok : goal.returns-clause-ok
returns-clause-ok c =
    let fs = c.args.functions.now in
    let past = c.loop-function-test.false in
    subst (λ l. AreTypesWritten c.args.root c.loop-function.root c.args.types.now (functions_of l) c.loop-function.indices.items) (take_all c.loop-function.function-index fs (omega (arith, past))) c.loop-function.invariant.0

pub returns-in_err-index-clause-cause : goal.returns-in_err-index-clause-cause
returns-in_err-index-clause-cause c =
    let fs = c.args.functions.now in
    let n = c.loop-function.function-index in
    let f = c.function-item.result in
    let P : List Param → (ℕ → Option ℕ) → Type 0 = λ ps table. AreUnready (IsRemembered table) (function_form ps f.now.result).parts in
    let moved = err_from_is_err_and c.from_residual.result c.from_residual.ensures.1 in
    rw (moved.1, moved.2)
    (cause_weaker (λ h. (f.now, function_among fs n f c.loop-function-test.true c.function-item.is, subst (P f.now.params.items) c.loop-function.invariant.1 (subst (λ ps. P ps (index_of c.loop-function.root.known)) c.deref.ensures.value h))) (λ h. tt)
    c.in_err-index.field-0.0 c.in_err-index.ensures.cause)
