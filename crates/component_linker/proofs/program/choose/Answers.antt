use Rattle.std.proofs.Common.{Some, subst}
use Rattle.wit_selection.specs.Selection.{IsSelectCause}
use Rattle.component_linker.proofs.Handing.{unnamed}
use Rattle.component_linker.proofs.program.choose.Goals as goal

pub returns-in-Err-clause-err : goal.returns-in-Err-clause-err
returns-in-Err-clause-err c =
    let r = c.args.session.now.resolved in
    let (fault, cause, of) = c.in-Err.ensures.cause in
    unnamed r c.args.«package» c.args.world.now c.select_world.new.self.resolved.texts c.in-Err.error fault c.unresolved.result
    (subst (λ main. IsSelectCause r.graph.tables.packages main (Some c.args.world.now) fault) c.as_slice.ensures cause) of c.unresolved.ensures
