use Rattle.std.proofs.Common.{sym, subst}
use Rattle.std.specs.Prelude.{IfOk, IfErr}
use Rattle.wit_elaborated.specs.Worlds.{IsElaboratedWorld, IsElaboratedCause}
use Rattle.wit_elaborated.proofs.Outcomes.{and_ok, and_err}
use Rattle.wit_elaborated.proofs.worlds.elaborated_world.Goals as goal

pub returns-clause-ok : goal.returns-clause-ok
returns-clause-ok c =
    let Is = IsElaboratedWorld c.args.types.now c.args.interfaces.now c.args.uses.now c.args.world in
    subst (λ r. IfOk r Is) (sym c.and.ensures) (and_ok c.put_elaborated.result c.put_elaborated.new.world Is (λ is. is) c.put_elaborated.ensures.ok)

pub returns-clause-cause : goal.returns-clause-cause
returns-clause-cause c =
    let Is = IsElaboratedCause c.args.types.now c.args.uses.now c.args.world in
    subst (λ r. IfErr r Is) (sym c.and.ensures) (and_err c.put_elaborated.result c.put_elaborated.new.world Is c.put_elaborated.ensures.cause)
