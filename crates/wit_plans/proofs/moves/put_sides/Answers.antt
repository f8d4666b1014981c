use Rattle.std.proofs.Common.{refl, subst}
use Rattle.wit_finding.specs.Passed.wit_moves-Worlds.{IsMovedSide}
use Rattle.wit_plans.specs.Checks.{Standing}
use Rattle.wit_plans.proofs.moves.put_sides.Goals as goal

pub returns : goal.returns
returns c = (
  subst (λ (s : Standing). IsMovedSide c.args.features.now s.types s.interfaces c.args.imports.entries c.in_ok-moved.field-0.items) c.standing.view_is c.in_ok-moved.ensures,
  subst (λ (s : Standing). IsMovedSide c.args.features.now s.types s.interfaces c.args.exports.entries c.in_ok-moved-2.field-0.items) c.standing.view_is c.in_ok-moved-2.ensures,
  refl,
)
