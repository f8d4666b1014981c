use Rattle.std.proofs.Common.{Option, ap, sym, subst, ◌∙◌}
use Rattle.std.specs.Prelude.{OnOk, option_map}
use Rattle.wit_rules.specs.Passed.wit_items-declared-items-Func.{Func}
use Rattle.wit_rules.specs.Passed.wit_productions-declared-types-Type.{«Type» as Written}
use Rattle.wit_rules.specs.Passed.wit_productions-TypeView.{type_tree}
use Rattle.wit_rules.specs.Passed.wit_syntax-AstView as view
use Rattle.wit_rules.specs.Passed.wit_scopes-declared-members-MemberKind.{MemberKind}
use Rattle.wit_rules.specs.Passed.wit_scopes-View as scope_view
use Rattle.wit_rules.specs.Breaks.{IsKept}
use Rattle.wit_resources.specs.Rules.{PartBreaks, ConstructorBreaks, DeclaresOther}
use Rattle.wit_resources.proofs.constructors.check_constructor.Goals as goal

pub returns-in-Some-clause-ok : goal.returns-in-Some-clause-ok
returns-in-Some-clause-ok c =
    subst (λ (k : MemberKind). OnOk c.check_declared.result (IsKept (DeclaresOther (scope_view.members c.args.types.now) (scope_view.member_kind k)))) (sym c.in-Constructor.is)
    (subst (λ (t : Option Written). OnOk c.check_declared.result (IsKept (PartBreaks (ConstructorBreaks (scope_view.members c.args.types.now) (view.id c.in-Constructor.resource)) (option_map type_tree t)))) (sym (ap (λ (f : Func). f.result) (sym c.deref.ensures) ∙ c.in-Some.is))
    c.check_declared.ensures.ok)
