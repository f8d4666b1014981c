use Rattle.std.proofs.Common.{◌<◌, sym, subst, ◌∙◌}
use Rattle.std.specs.Prelude.{length}
use Rattle.std.specs.List.{All}
use Rattle.std.proofs.lemmas.Result.{IfOk-weaker, IfErr-weaker}
use Rattle.component_imports.specs.Functions.{functions_of}
use Rattle.type_sinks.proofs.Passed.type_writing-Refusals.{cause_weaker}
use Rattle.component_imports.specs.Interface.{IsUnready}
use Rattle.component_imports.specs.Interfaces.{ids_of}
use Rattle.component_imports.proofs.Walked.{all_has, walked_there}
use Rattle.component_imports.proofs.Staying.{not_imported, one_imported}
use Rattle.component_imports.proofs.interfaces.import_needed.Goals as goal

pub returns-then-not-is_needed-clause-ok : goal.returns-then-not-is_needed-clause-ok
returns-then-not-is_needed-clause-ok c = not_imported c.args.root c.args.types.now c.args.interface c.args.needed.now (functions_of c.args.functions.now) c.requires.good (sym c.is_needed.ensures ∙ c.if-not-is_needed.true)

pub import_interface-requires-clause-there : goal.import_interface-requires-clause-there
import_interface-requires-clause-there c =
    let types = c.args.types.now in
    let ids = c.in_ok-ids.ids.items in
    subst (All (λ id. id < length types)) (sym c.as_slice.ensures.value) (all_has (λ id. id < length types) ids (walked_there types c.args.interface c.args.needed.now (ids_of (functions_of c.args.functions.now)) ids c.requires.backward c.requires.there c.requires.functions_there c.in_ok-ids.ensures))

pub returns-clause-ok : goal.returns-clause-ok
returns-clause-ok c =
    IfOk-weaker c.import_interface.result _ _ (λ r h.
    one_imported c.args.root r c.args.types.now c.args.interface c.args.needed.now (functions_of c.args.functions.now) c.in_ok-ids.ids.items c.as_slice.result.now c.as_slice.ensures.value c.in_ok-ids.ensures h (sym c.is_needed.ensures ∙ c.if-not-is_needed.false)) c.import_interface.ensures.ok

pub returns-clause-cause : goal.returns-clause-cause
returns-clause-cause c =
    let types = c.args.types.now in
    let fs = functions_of c.args.functions.now in
    IfErr-weaker c.import_interface.result _ _ (cause_weaker (λ h. (sym c.is_needed.ensures ∙ c.if-not-is_needed.false, (c.in_ok-ids.ids.items, c.in_ok-ids.ensures, subst (λ l. IsUnready c.args.root types c.args.interface l fs) c.as_slice.ensures.value h))) (λ h. h)) c.import_interface.ensures.cause
