use Rattle.std.proofs.Common.{rules, List, map, subst}
use Rattle.wit_scopes.specs.declared.worlds.WorldMember.{WorldMember}
use Rattle.wit_scopes.specs.View as scope_view
use Rattle.wit_rules.specs.Breaks.{IsFaultOf, GatesBreak, IsKept}
use Rattle.wit_rules.specs.Facts.{WorldBreaks}
use Rattle.wit_scopes.proofs.Outcomes.{on_ok, if_err}
use Rattle.wit_rules.specs.Facts as fact
use Rattle.wit_rules.specs.Facts.{WorldItemBreaks}
use Rattle.wit_rules.proofs.Breaking.{widened}
use Rattle.wit_checked_files.proofs.Kept.{world_item_kept}
use Rattle.wit_checked_files.proofs.files.check_world_item.Goals as goal

pub returns-clause-ok : goal.returns-clause-ok
returns-clause-ok c =
    on_ok c.check_world.result
    (λ kept. world_item_kept (scope_view.world_scope c.args.world.now) c.in_ok-check_front.ensures.ok (subst (λ (ms : List WorldMember). IsKept (WorldBreaks (map scope_view.world_member ms))) c.as_slice.ensures.value kept))
    c.check_world.ensures.ok

pub returns-in_err-check_front-clause-cause : goal.returns-in_err-check_front-clause-cause
returns-in_err-check_front-clause-cause c =
    if_err c.from_residual.result (IsFaultOf (GatesBreak (scope_view.world_scope c.args.world.now).attributes)) (IsFaultOf (WorldItemBreaks (scope_view.world_scope c.args.world.now))) (widened (GatesBreak (scope_view.world_scope c.args.world.now).attributes) (WorldItemBreaks (scope_view.world_scope c.args.world.now)) (λ rule at b. fact.WorldItemBreaks.by_gates b)) (search rules)
