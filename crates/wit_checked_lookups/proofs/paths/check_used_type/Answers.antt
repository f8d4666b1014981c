use Rattle.std.proofs.Common.{Option, sym, subst, ◌∙◌}
use Rattle.std.specs.Prelude.{OnOk}
use Rattle.wit_syntax.specs.AstView as view
use Rattle.wit_scopes.specs.Scopes.{ItemScope}
use Rattle.wit_rules.specs.Breaks.{IsKept}
use Rattle.wit_lookups.specs.Lookups.{TypeOfItemBreaks}
use Rattle.wit_checked_lookups.proofs.Items.{item_of_place}
use Rattle.wit_checked_lookups.proofs.paths.check_used_type.Goals as goal

pub returns-in-Some-clause-ok : goal.returns-in-Some-clause-ok
returns-in-Some-clause-ok c =
    let y = view.id c.args.name.now in
    let found = item_of_place c.args.scopes.now c.args.index.now c.requires c.in-Own.item.name.now c.in-Some.place (sym c.first.ensures ∙ c.in-Some.is) in
    rw c.in-Own.is (subst (λ (o : Option ItemScope). OnOk c.check_type_at.result (IsKept (TypeOfItemBreaks o y))) (sym found) c.check_type_at.ensures.ok)
