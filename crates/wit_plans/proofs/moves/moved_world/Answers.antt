use Rattle.std.proofs.Common.{ap, sym, subst, ◌∙◌}
use Rattle.std.specs.Prelude.{IfOk}
use Rattle.wit_plans.specs.declared.moves.MovedWorld.{MovedWorld}
use Rattle.wit_plans.specs.Moves.{IsMovedWorld}
use Rattle.wit_plans.proofs.Adding.{and_ok}
use Rattle.wit_plans.proofs.moves.moved_world.Goals as goal

pub returns : goal.returns
returns c =
    let parts = c.parted-moved.ensures in
    let new = c.put_lists.new.moved in
    subst (λ r. IfOk r (IsMovedWorld c.args.features.now c.args.standing.now c.args.world)) (sym c.and.ensures)
    (and_ok c.put_lists.result new (IsMovedWorld c.args.features.now c.args.standing.now c.args.world)
    (λ m. record {
      name = ap (λ (m : MovedWorld). m.name) m.3 ∙ parts.0;
      imports = rw (sym parts.4) m.0;
      exports = rw (sym parts.5) m.1;
      docs = ap (λ (m : MovedWorld). m.docs) m.3 ∙ parts.1;
      stability = ap (λ (m : MovedWorld). m.stability) m.3 ∙ parts.2;
      includes = rw (sym parts.6) m.2;
      span = ap (λ (m : MovedWorld). m.span) m.3 ∙ parts.3;
    }) c.put_lists.ensures)
