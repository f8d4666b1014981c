use Rattle.std.proofs.Common.{◌≡◌, List, sym, subst, ap, ◌∙◌}
use Rattle.std.specs.Prelude.{OnOk, IfErr}
use Rattle.wit_scopes.specs.Members.{MemberTree}
use Rattle.wit_scopes.specs.View as scope_view
use Rattle.wit_rules.specs.Breaks.{IsKept, IsFaultOf}
use Rattle.wit_resolved_scopes.specs.Faults.{ScopeBreaks, MayBeFilled}
use Rattle.wit_resolved_scopes.specs.Passed.wit_orders-Needs.{types_of}
use Rattle.wit_interfaces.proofs.Bringing.{may_fill}
use Rattle.wit_interfaces.proofs.members.bring_members.Goals as goal

pub returns-then-are_types-clause-kept : goal.returns-then-are_types-clause-kept
returns-then-are_types-clause-kept c = λ d o may.
    let ms : List MemberTree = scope_view.members c.args.members.now in
    let types_are : ms ≡ types_of ms = sym (c.are_types.ensures.yes c.if-are_types.true) in
    let fill = may_fill d o c.args.owner c.args.known.now c.args.types.now ms may in
    subst (λ (ts : List MemberTree). OnOk c.resolve_scope.result (IsKept (ScopeBreaks d.me d.scopes o ts ms))) types_are
    (c.resolve_scope.ensures.kept d.me d.scopes d.owners o (subst (λ (ts : List MemberTree). MayBeFilled d.me d.scopes d.owners o c.args.owner c.args.known.now ts c.args.types.now) (sym types_are) fill))

pub returns-then-are_types-clause-cause : goal.returns-then-are_types-clause-cause
returns-then-are_types-clause-cause c = λ d o may.
    let ms : List MemberTree = scope_view.members c.args.members.now in
    let types_are : ms ≡ types_of ms = sym (c.are_types.ensures.yes c.if-are_types.true) in
    let fill = may_fill d o c.args.owner c.args.known.now c.args.types.now ms may in
    subst (λ (ts : List MemberTree). IfErr c.resolve_scope.result (IsFaultOf (ScopeBreaks d.me d.scopes o ts ms))) types_are
    (c.resolve_scope.ensures.cause d.me d.scopes d.owners o (subst (λ (ts : List MemberTree). MayBeFilled d.me d.scopes d.owners o c.args.owner c.args.known.now ts c.args.types.now) (sym types_are) fill))

pub returns-clause-kept : goal.returns-clause-kept
returns-clause-kept c = λ d o may.
    let ms : List MemberTree = scope_view.members c.args.members.now in
    let types_are : scope_view.members c.as_slice.result.now ≡ types_of ms = ap scope_view.members c.as_slice.ensures.value ∙ c.in_ok-declared.ensures in
    let fill = may_fill d o c.args.owner c.args.known.now c.args.types.now ms may in
    subst (λ (ts : List MemberTree). OnOk c.resolve_scope-2.result (IsKept (ScopeBreaks d.me d.scopes o ts ms))) types_are
    (c.resolve_scope-2.ensures.kept d.me d.scopes d.owners o (subst (λ (ts : List MemberTree). MayBeFilled d.me d.scopes d.owners o c.args.owner c.args.known.now ts c.args.types.now) (sym types_are) fill))

pub returns-clause-cause : goal.returns-clause-cause
returns-clause-cause c = λ d o may.
    let ms : List MemberTree = scope_view.members c.args.members.now in
    let types_are : scope_view.members c.as_slice.result.now ≡ types_of ms = ap scope_view.members c.as_slice.ensures.value ∙ c.in_ok-declared.ensures in
    let fill = may_fill d o c.args.owner c.args.known.now c.args.types.now ms may in
    subst (λ (ts : List MemberTree). IfErr c.resolve_scope-2.result (IsFaultOf (ScopeBreaks d.me d.scopes o ts ms))) types_are
    (c.resolve_scope-2.ensures.cause d.me d.scopes d.owners o (subst (λ (ts : List MemberTree). MayBeFilled d.me d.scopes d.owners o c.args.owner c.args.known.now ts c.args.types.now) (sym types_are) fill))
