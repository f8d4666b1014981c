use Rattle.std.proofs.Common.{◌≡◌, ◌∙◌, List, Some, sym, subst}
use Rattle.std.specs.Prelude.{slice_get}
use Rattle.name_places.proofs.Places.{place_names}
use Rattle.wit_lookups.proofs.Passed.wit_scopes-Outcomes.{on_ok}
use Rattle.wit_package_types.specs.Passed.wit_arena-Tree.{Name}
use Rattle.wit_package_types.specs.Passed.wit_arena-Meaning.{Has}
use Rattle.wit_foreign.specs.Groups.{item_key}
use Rattle.wit_foreign.proofs.Grouping.{name_new, within_rows, joins_row, begins_row}
use Rattle.wit_foreign.proofs.Outcomes.{on_both}
use Rattle.wit_foreign.proofs.groups.add_by_item.Goals as goal

pub join-requires : goal.join-requires
join-requires c =
    within_rows item_key c.args.need c.args.firsts.now.items c.args.rows.now.items c.requires.rows c.in-Some.place
    (subst (λ (ns : List Name). slice_get ns c.in-Some.place ≡ Some c.args.need.item.name.now) c.requires.names (place_names c.args.need.item.name.now c.args.names.now c.in-Some.place (sym c.first.ensures ∙ c.in-Some.is)))

pub returns-in-Some-clause-groups : goal.returns-in-Some-clause-groups
returns-in-Some-clause-groups c =
    on_ok c.join.result
    (joins_row item_key c.args.need c.args.firsts.now.items c.args.rows.now.items c.requires.rows c.in-Some.place
    (subst (λ (ns : List Name). slice_get ns c.in-Some.place ≡ Some c.args.need.item.name.now) c.requires.names (place_names c.args.need.item.name.now c.args.names.now c.in-Some.place (sym c.first.ensures ∙ c.in-Some.is)))
    c.join.new.rows.items)
    c.join.ensures

pub returns-in_ok-push-in-None-clause-groups : goal.returns-in_ok-push-in-None-clause-groups
returns-in_ok-push-in-None-clause-groups c =
    on_both c.begin.result
    (begins_row item_key c.args.need c.args.firsts.now.items c.args.rows.now.items c.requires.rows
    (subst (λ (ns : List Name). Has ns c.args.need.item.name.now → ⊥) c.requires.names (name_new c.args.need.item.name.now c.args.names.now (sym c.first.ensures ∙ c.in-None.is)))
    c.begin.new.firsts.items c.begin.new.rows.items)
    c.begin.ensures.firsts c.begin.ensures.rows
