use Rattle.std.proofs.Common.{map, subst}
use Rattle.std.specs.Prelude.{OnOk}
use Rattle.wit_syntax.specs.AstView as view
use Rattle.wit_scopes.specs.declared.members.Front.{Front}
use Rattle.wit_rules.specs.Breaks.{IsKept, GatesBreak}
use Rattle.wit_checked_files.proofs.worlds.WorldMemberChecked.check.Goals as goal

pub returns-in-Member-clause-ok : goal.returns-in-Member-clause-ok
returns-in-Member-clause-ok c = rw c.in-Member.is c.check.ensures.ok

pub returns-in-Listed-clause-ok : goal.returns-in-Listed-clause-ok
returns-in-Listed-clause-ok c = rw c.in-Listed.is c.check_listed.ensures.ok

pub returns-in-Included-clause-ok : goal.returns-in-Included-clause-ok
returns-in-Included-clause-ok c = rw c.in-Included.is (subst (λ (f : Front). OnOk c.check_front.result (IsKept (GatesBreak (map view.attribute f.attributes.items)))) c.deref.ensures c.check_front.ensures.ok)
