use Rattle.std.proofs.Common.{Some, string_bytes, ap, subst, ◌∙◌}
use Rattle.wit_selection.specs.Selection.{IsSelectCause}
use Rattle.component_linker.specs.Program.{text_or}
use Rattle.component_linker.specs.Stops.{IsNameError, IsResolveStop}
use Rattle.component_linker.proofs.Handing.{unnamed, unnamed_input}
use Rattle.component_linker.proofs.program.hand_in_one.Goals as goal

pub returns-in-Err-clause-err : goal.returns-in-Err-clause-err
returns-in-Err-clause-err c =
    let r = c.args.session.now.resolved in
    let (fault, cause, of) = c.in-Err.ensures.cause in
    let name = c.text_or-name.result.now in
    let named = c.text_or-name.ensures ∙ ap (λ w. text_or w c.as_str-2.result.now) c.as_str.ensures.value ∙ ap (text_or (string_bytes c.in-Main.world)) c.as_str-2.ensures.value in
    unnamed_input c.args.files.now r c.args.«package» (string_bytes c.args.line.now.world) c.args.input.now c.in-Main.world c.in-Main.path c.unresolved.result c.in-Main.is
    (subst (λ t. IsResolveStop (IsNameError r c.args.«package» t) c.unresolved.result) named
    (unnamed r c.args.«package» name r.texts c.in-Err.error fault c.unresolved.result
    (subst (λ main. IsSelectCause r.graph.tables.packages main (Some name) fault) c.as_slice.ensures cause) of c.unresolved.ensures))
