use Rattle.std.proofs.Common.{rules, map, subst}
use Rattle.wit_syntax.specs.AstView as view
use Rattle.wit_scopes.specs.declared.members.Front.{Front}
use Rattle.wit_scopes.specs.View as scope_view
use Rattle.wit_rules.specs.Breaks.{IsKept, IsFaultOf, GatesBreak}
use Rattle.wit_scopes.proofs.Outcomes.{on_ok, if_err}
use Rattle.wit_rules.specs.Facts as fact
use Rattle.wit_rules.specs.Facts.{ListedBreaks}
use Rattle.wit_rules.proofs.Breaking.{widened}
use Rattle.wit_checked_files.proofs.Kept.{listed_kept}
use Rattle.wit_checked_files.proofs.worlds.check_listed.Goals as goal

pub returns-clause-ok : goal.returns-clause-ok
returns-clause-ok c = on_ok c.check_extern.result (listed_kept (scope_view.listed c.args.listed.now) (subst (λ (f : Front). IsKept (GatesBreak (map view.attribute f.attributes.items))) c.deref.ensures c.in_ok-check_front.ensures.ok)) c.check_extern.ensures.ok

pub returns-in_err-check_front-clause-cause : goal.returns-in_err-check_front-clause-cause
returns-in_err-check_front-clause-cause c =
    if_err c.from_residual.result (IsFaultOf (GatesBreak (scope_view.listed c.args.listed.now).attributes)) (IsFaultOf (ListedBreaks (scope_view.listed c.args.listed.now))) (widened (GatesBreak (scope_view.listed c.args.listed.now).attributes) (ListedBreaks (scope_view.listed c.args.listed.now)) (λ rule at b. fact.ListedBreaks.by_gates b)) (search rules)
