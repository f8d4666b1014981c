use Rattle.std.proofs.Common.{◌≡◌, ◌++◌, List, map, ap, subst, ◌∙◌}
use Rattle.std.specs.Prelude.{IfErr}
use Rattle.wit_words.specs.Slice.{Slice}
use Rattle.wit_syntax.specs.AstView as view
use Rattle.wit_type_names.specs.TypeNames.{names_in_member}
use Rattle.wit_scopes.specs.View.{item_scope, member_kind}
use Rattle.wit_scopes.proofs.Outcomes.{on_ok, if_err}
use Rattle.wit_rules.specs.Breaks.{IsKept, IsFaultOf}
use Rattle.wit_lookups.specs.Lookups.{TypesBreak, MemberKindBreaks}
use Rattle.wit_lookups.specs.Names.{Name}
use Rattle.wit_checked_lookups.specs.View.{texts}
use Rattle.wit_checked_lookups.proofs.OwnKinds.{own_kept, own_refused}
use Rattle.wit_checked_lookups.proofs.members.check_member.Goals as goal

pub returns-in-Used-clause-ok : goal.returns-in-Used-clause-ok
returns-in-Used-clause-ok c = rw c.in-Used.is c.check_use.ensures.ok

pub returns : goal.returns
returns c =
    let scopes = map item_scope c.args.scopes.now in
    let types = c.args.types.now in
    let others : List Name = texts c.args.others.now ++ c.args.known.now ++ c.args.index.now.items in
    let kind = c.args.member.now.kind in
    let names : map view.id c.as_slice.result.now ≡ names_in_member (member_kind kind) = ap (map view.id) c.as_slice.ensures.value ∙ c.in_ok-found.ensures in
    record {
      ok = on_ok c.check_types.result (λ kept. own_kept scopes types others kind c.in_default.not-Used (subst (λ (ns : List Slice). IsKept (TypesBreak types others ns)) names kept)) c.check_types.ensures.ok;
      cause = if_err c.check_types.result (IsFaultOf (TypesBreak types others (names_in_member (member_kind kind)))) (IsFaultOf (MemberKindBreaks scopes types others (member_kind kind))) (own_refused scopes types others kind c.in_default.not-Used)
          (subst (λ (ns : List Slice). IfErr c.check_types.result (IsFaultOf (TypesBreak types others ns))) names c.check_types.ensures.cause);
    }
