use Rattle.std.proofs.Common.{ap, sym, subst}
use Rattle.wit_graph_worlds.specs.Worlds.{Worlds}
use Rattle.wit_graph_worlds.specs.Added.{IsPutCause}
use Rattle.wit_graph_worlds.proofs.Adding.{elaborated_cause}
use Rattle.wit_graph_worlds.proofs.worlds.add_joined.Goals as goal

pub returns-in_ok-push-in-Ok-clause-ok : goal.returns-in_ok-push-in-Ok-clause-ok
returns-in_ok-push-in-Ok-clause-ok c = record {
  listed = c.in_ok-listed.listed;
  elaborated = c.in-Ok.elaborated;
  is_listed = c.in_ok-listed.ensures;
  is_elaborated = c.in-Ok.ensures.ok;
  listed_are = ap (λ (w : Worlds). w.listed) c.in_ok-push-in-Ok.ensures.ok;
  elaborated_are = ap (λ (w : Worlds). w.elaborated) c.in_ok-push-in-Ok.ensures.ok;
}

pub returns-in-Err-clause-cause : goal.returns-in-Err-clause-cause
returns-in-Err-clause-cause c =
    let uses = c.args.interfaces.now.uses.now in
    subst (IsPutCause uses c.args.types.now c.args.joined) (sym c.fault_at.ensures) (elaborated_cause uses c.args.types.now c.args.joined c.in-Err.fault c.in-Err.ensures.cause)
