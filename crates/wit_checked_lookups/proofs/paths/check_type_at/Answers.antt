use Rattle.std.proofs.Common.{◌≡◌, ◌<◌, Option, Some, None, map, length, sym, ap, subst, ◌∙◌}
use Rattle.std.proofs.lemmas.Option.{same_Some, slice_get-map, slice_get_past}
use Rattle.std.specs.Prelude.{OnOk, IfErr, slice_get, option_map}
use Rattle.wit_syntax.specs.AstView as view
use Rattle.wit_scopes.specs.Scopes.{ItemScope}
use Rattle.wit_scopes.specs.View.{item_scope}
use Rattle.wit_rules.specs.Breaks.{IsKept, IsFaultOf}
use Rattle.wit_rules.proofs.Places.{read_at}
use Rattle.wit_lookups.specs.Lookups.{TypeOfItemBreaks}
use Rattle.wit_lookups.specs.Names.{item_type_names}
use Rattle.wit_checked_lookups.proofs.Items.{types_within, types_at}
use Rattle.wit_checked_lookups.proofs.paths.check_type_at.Goals as goal

pub check_type_of_item-requires : goal.check_type_of_item-requires
check_type_of_item-requires c =
    let within : c.args.place < length c.args.scopes.now = c.in-Some.ensures.lookup.3.0 in
    let there = read_at c.args.scopes.now c.args.place c.in-Some.item.now within c.in-Some.ensures.lookup.1 in
    same_Some c.index.result.now (item_type_names (item_scope c.in-Some.item.now))
    (sym (read_at c.args.index.now.types.items c.args.place c.index.result.now (types_within c.args.scopes.now c.args.index.now c.requires c.args.place within) c.index.ensures)
    ∙ types_at c.args.scopes.now c.args.index.now c.requires c.args.place c.in-Some.item.now there)

pub returns-in-Some-clause-ok : goal.returns-in-Some-clause-ok
returns-in-Some-clause-ok c =
    let there : slice_get (map item_scope c.args.scopes.now) c.args.place ≡ Some (item_scope c.in-Some.item.now) =
    slice_get-map item_scope c.args.scopes.now c.args.place ∙ ap (option_map item_scope) (read_at c.args.scopes.now c.args.place c.in-Some.item.now c.in-Some.ensures.lookup.3.0 c.in-Some.ensures.lookup.1) in
    subst (λ (o : Option ItemScope). OnOk c.check_type_of_item.result (IsKept (TypeOfItemBreaks o (view.id c.args.name.now)))) (sym there) c.check_type_of_item.ensures.ok

pub returns-in-Some-clause-cause : goal.returns-in-Some-clause-cause
returns-in-Some-clause-cause c =
    let there : slice_get (map item_scope c.args.scopes.now) c.args.place ≡ Some (item_scope c.in-Some.item.now) =
    slice_get-map item_scope c.args.scopes.now c.args.place ∙ ap (option_map item_scope) (read_at c.args.scopes.now c.args.place c.in-Some.item.now c.in-Some.ensures.lookup.3.0 c.in-Some.ensures.lookup.1) in
    subst (λ (o : Option ItemScope). IfErr c.check_type_of_item.result (IsFaultOf (TypeOfItemBreaks o (view.id c.args.name.now)))) (sym there) c.check_type_of_item.ensures.cause

pub returns-in-None-clause-ok : goal.returns-in-None-clause-ok
returns-in-None-clause-ok c =
    let none : slice_get (map item_scope c.args.scopes.now) c.args.place ≡ None = slice_get-map item_scope c.args.scopes.now c.args.place ∙ ap (option_map item_scope) (slice_get_past c.args.scopes.now c.args.place c.in-None.ensures.lookup.3) in
    λ rule at b. subst (λ (o : Option ItemScope). TypeOfItemBreaks o (view.id c.args.name.now) rule at) none b
