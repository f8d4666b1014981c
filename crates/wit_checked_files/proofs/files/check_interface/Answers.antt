use Rattle.std.proofs.Common.{rules, List, subst}
use Rattle.wit_scopes.specs.declared.members.Member.{Member}
use Rattle.wit_scopes.specs.View as scope_view
use Rattle.wit_rules.specs.Breaks.{IsFaultOf, GatesBreak, IsKept}
use Rattle.wit_rules.specs.Facts.{MembersBreak}
use Rattle.wit_scopes.proofs.Outcomes.{on_ok, if_err}
use Rattle.wit_rules.specs.Facts as fact
use Rattle.wit_rules.specs.Facts.{InterfaceBreaks}
use Rattle.wit_rules.proofs.Breaking.{widened}
use Rattle.wit_checked_files.proofs.Kept.{interface_kept}
use Rattle.wit_checked_files.proofs.files.check_interface.Goals as goal

pub returns-clause-ok : goal.returns-clause-ok
returns-clause-ok c =
    on_ok c.check_members.result
    (λ kept. interface_kept (scope_view.interface_scope c.args.interface.now) c.in_ok-check_front.ensures.ok (subst (λ (ms : List Member). IsKept (MembersBreak (scope_view.members ms))) c.as_slice.ensures.value kept))
    c.check_members.ensures.ok

pub returns-in_err-check_front-clause-cause : goal.returns-in_err-check_front-clause-cause
returns-in_err-check_front-clause-cause c =
    if_err c.from_residual.result (IsFaultOf (GatesBreak (scope_view.interface_scope c.args.interface.now).attributes)) (IsFaultOf (InterfaceBreaks (scope_view.interface_scope c.args.interface.now))) (widened (GatesBreak (scope_view.interface_scope c.args.interface.now).attributes) (InterfaceBreaks (scope_view.interface_scope c.args.interface.now)) (λ rule at b. fact.InterfaceBreaks.by_gates b)) (search rules)
