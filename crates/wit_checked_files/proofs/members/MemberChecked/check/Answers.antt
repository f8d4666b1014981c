use Rattle.std.proofs.Common.{rules, List, map, ap, ◌∙◌, subst}
use Rattle.wit_words.specs.Slice.{Slice}
use Rattle.wit_syntax.specs.AstView as view
use Rattle.wit_scopes.specs.declared.members.Front.{Front}
use Rattle.wit_scopes.specs.View as scope_view
use Rattle.wit_rules.specs.Breaks.{IsFaultOf, GatesBreak, IsKept, NamesBreak}
use Rattle.wit_rules.specs.View as seen
use Rattle.wit_scopes.proofs.Outcomes.{on_ok, if_err}
use Rattle.wit_rules.specs.Facts as fact
use Rattle.wit_rules.specs.Facts.{MemberBreaks}
use Rattle.wit_rules.proofs.Breaking.{widened}
use Rattle.wit_checked_files.proofs.Kept.{member_kept}
use Rattle.wit_checked_files.proofs.members.MemberChecked.check.Goals as goal

pub returns-clause-ok : goal.returns-clause-ok
returns-clause-ok c =
    on_ok c.check_names.result
    (λ kept. member_kept (scope_view.member c.args.self.now) (subst (λ (f : Front). IsKept (GatesBreak (map view.attribute f.attributes.items))) c.deref.ensures c.in_ok-check_front.ensures.ok) c.in_ok-check_cases.ensures.ok (subst (λ (ns : List Slice). IsKept (NamesBreak ns)) (ap (map seen.label) c.as_slice.ensures ∙ c.in_ok-names.ensures) kept))
    c.check_names.ensures.ok

pub returns-in_err-check_front-clause-cause : goal.returns-in_err-check_front-clause-cause
returns-in_err-check_front-clause-cause c =
    if_err c.from_residual.result (IsFaultOf (GatesBreak (scope_view.member c.args.self.now).attributes)) (IsFaultOf (MemberBreaks (scope_view.member c.args.self.now))) (widened (GatesBreak (scope_view.member c.args.self.now).attributes) (MemberBreaks (scope_view.member c.args.self.now)) (λ rule at b. fact.MemberBreaks.by_gates b)) (search rules)
