use Rattle.std.proofs.Common.{◌++◌, List, map, ap, subst, ◌∙◌}
use Rattle.wit_words.specs.Slice.{Slice}
use Rattle.wit_items.specs.declared.items.Func.{Func}
use Rattle.wit_syntax.specs.AstView as view
use Rattle.wit_type_names.specs.TypeNames.{names_in_func}
use Rattle.wit_scopes.specs.declared.members.Member.{Member}
use Rattle.wit_scopes.specs.View as scope_view
use Rattle.wit_scopes.proofs.Outcomes.{on_ok}
use Rattle.wit_rules.specs.Breaks.{IsKept}
use Rattle.wit_lookups.specs.Lookups.{TypesBreak, OwnMembersBreak}
use Rattle.wit_checked_lookups.specs.View.{texts}
use Rattle.wit_checked_lookups.proofs.worlds.check_extern.Goals as goal

pub returns-in_ok-found-in-Function-clause-ok : goal.returns-in_ok-found-in-Function-clause-ok
returns-in_ok-found-in-Function-clause-ok c =
    rw c.in-Function.is (on_ok c.check_types.result
    (subst (λ (ns : List Slice). IsKept (TypesBreak c.args.types.now (texts c.args.others.now ++ c.args.known.now ++ c.args.index.now.items) ns)) (ap (map view.id) c.as_slice.ensures.value ∙ c.in_ok-found-in-Function.ensures ∙ ap (λ (f : Func). names_in_func (view.func f)) c.deref.ensures))
    c.check_types.ensures.ok)

pub returns-in-Interface-clause-ok : goal.returns-in-Interface-clause-ok
returns-in-Interface-clause-ok c =
    rw c.in-Interface.is (on_ok c.check_inline.result
    (subst (λ (ms : List Member). IsKept (OwnMembersBreak (map scope_view.item_scope c.args.scopes.now) c.args.known.now (scope_view.members ms))) c.as_slice-in-Interface.ensures.value)
    c.check_inline.ensures.ok)

pub returns-in-Item-clause-ok : goal.returns-in-Item-clause-ok
returns-in-Item-clause-ok c = rw c.in-Item.is c.check_interface_path.ensures.ok
