use Rattle.std.proofs.Common.{ap, ◌∙◌, inr}
use Rattle.std.specs.Prelude.{nat_eq, List}
use Rattle.std.specs.List.{list_any, AllByRecursion as Each}
use Rattle.std.proofs.lemmas.Result.{IfErr-weaker, on_ok_weaker}
use Rattle.type_sinks.specs.Passed.type_writing-Writing.{IsRemembered}
use Rattle.type_sinks.proofs.Passed.type_writing-Standing.{on_ok_always}
use Rattle.type_sinks.proofs.Passed.type_writing-Refusals.{cause_weaker}
use Rattle.type_sinks.specs.Kept.{index_of}
use Rattle.type_sinks.specs.Views.{inside_setting, InsideIsGood, IsGiven}
use Rattle.wit_types.specs.declared.interface.TypeDef.{TypeDef}
use Rattle.component_imports.specs.Functions.{functions_of, HasFunctionOf}
use Rattle.component_imports.proofs.Exported.{items_cause}
use Rattle.component_imports.proofs.Imported.{named_more}
use Rattle.component_imports.proofs.interface.write_items.Goals as goal

pub returns-clause-named : goal.returns-clause-named
returns-clause-named c =
    let old = c.args.instance.now in
    let mid = c.write_types.new.sink in
    let new = c.export_functions.new.to in
    on_ok_always c.export_functions.result (named_more (inside_setting old) c.args.types.now (IsGiven mid) (IsGiven new) c.args.ids.now (λ k h. ap (list_any (nat_eq k)) c.export_functions.ensures.exports ∙ h) c.in_ok-write_types.ensures.named)

pub returns-clause-good : goal.returns-clause-good
returns-clause-good c = c.export_functions.ensures.good c.args.types.now c.in_ok-write_types.ensures.good

pub returns-clause-placed : goal.returns-clause-placed
returns-clause-placed c = λ labels parameters p. c.export_functions.ensures.placed c.args.types.now c.in_ok-write_types.ensures.good parameters (c.in_ok-write_types.ensures.placed labels p)

pub returns-in_err-write_types-clause-placed : goal.returns-in_err-write_types-clause-placed
returns-in_err-write_types-clause-placed c = λ labels parameters p. c.in_err-write_types.ensures.placed labels p

pub returns-clause-has : goal.returns-clause-has
returns-clause-has c =
    let types = c.args.types.now in
    let mid = c.write_types.new.sink in
    let new = c.export_functions.new.to in
    on_ok_weaker c.export_functions.result (λ (h : (ts : List TypeDef) → InsideIsGood mid ts → Each (HasFunctionOf new ts) (functions_of c.args.functions.now)). h types c.in_ok-write_types.ensures.good) c.export_functions.ensures.has

pub returns-clause-cause : goal.returns-clause-cause
returns-clause-cause c =
    let old = c.args.instance.now in
    let mid = c.write_types.new.sink in
    let w = c.in_ok-write_types.ensures in
    IfErr-weaker c.export_functions.result _ _ (cause_weaker (λ h. inr (items_cause (IsRemembered (index_of old.known)) (IsRemembered (index_of mid.known)) _ _ c.args.ids.now (functions_of c.args.functions.now) w.remembered w.names h)) (λ h. h)) c.export_functions.ensures.cause
