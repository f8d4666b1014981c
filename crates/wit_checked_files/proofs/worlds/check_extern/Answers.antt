use Rattle.std.proofs.Common.{List, map, ap, ◌∙◌, subst}
use Rattle.wit_words.specs.Slice.{Slice}
use Rattle.wit_items.specs.declared.items.Func.{Func}
use Rattle.wit_items.specs.declared.items.Param.{Param}
use Rattle.wit_syntax.specs.AstView as view
use Rattle.wit_scopes.specs.declared.members.Member.{Member}
use Rattle.wit_rules.specs.Labels.{param_names}
use Rattle.wit_scopes.specs.View as scope_view
use Rattle.wit_rules.specs.Breaks.{IsKept, NamesBreak}
use Rattle.wit_rules.specs.Facts.{MembersBreak}
use Rattle.wit_rules.specs.View as seen
use Rattle.wit_scopes.proofs.Outcomes.{on_ok}
use Rattle.wit_checked_files.proofs.worlds.check_extern.Goals as goal

pub returns-in_ok-params-in-Function-clause-ok : goal.returns-in_ok-params-in-Function-clause-ok
returns-in_ok-params-in-Function-clause-ok c =
    rw c.in-Function.is (on_ok c.check_names.result (subst (λ (ns : List Slice). IsKept (NamesBreak ns)) (ap (map seen.label) c.as_slice-in-Function.ensures ∙ c.in_ok-params-in-Function.ensures ∙ ap (λ (ps : List Param). param_names (map view.param ps)) c.as_slice.ensures.value ∙ ap (λ (f : Func). param_names (map view.param f.params.items)) c.deref.ensures)) c.check_names.ensures.ok)

pub returns-in-Interface-clause-ok : goal.returns-in-Interface-clause-ok
returns-in-Interface-clause-ok c = rw c.in-Interface.is (on_ok c.check_members.result (subst (λ (ms : List Member). IsKept (MembersBreak (scope_view.members ms))) c.as_slice-in-Interface.ensures.value) c.check_members.ensures.ok)
