use Rattle.std.proofs.Common.{List, map, subst}
use Rattle.wit_scopes.specs.declared.members.Member.{Member}
use Rattle.wit_scopes.specs.View as scope_view
use Rattle.wit_scopes.proofs.Outcomes.{on_ok}
use Rattle.wit_rules.specs.Breaks.{IsKept}
use Rattle.wit_lookups.specs.Lookups.{OwnMembersBreak}
use Rattle.wit_checked_lookups.proofs.files.check_item.Goals as goal

pub returns-in-Interface-clause-ok : goal.returns-in-Interface-clause-ok
returns-in-Interface-clause-ok c =
    rw c.in-Interface.is (on_ok c.check_members.result
    (subst (λ (ms : List Member). IsKept (OwnMembersBreak (map scope_view.item_scope c.args.scopes.now) c.args.known.now (scope_view.members ms))) c.as_slice.ensures.value)
    c.check_members.ensures.ok)

pub returns-in-World-clause-ok : goal.returns-in-World-clause-ok
returns-in-World-clause-ok c = rw c.in-World.is c.check_world.ensures.ok

pub returns-in-World-clause-cause : goal.returns-in-World-clause-cause
returns-in-World-clause-cause c = rw c.in-World.is c.check_world.ensures.cause
