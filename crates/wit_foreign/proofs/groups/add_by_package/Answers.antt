use Rattle.std.proofs.Common.{◌≡◌, List, Some, map, subst}
use Rattle.std.specs.Prelude.{slice_get}
use Rattle.wit_lookups.proofs.Passed.wit_scopes-Outcomes.{on_ok}
use Rattle.wit_package_types.specs.Passed.wit_arena-Tree.{PackageText}
use Rattle.wit_package_types.specs.Passed.wit_arena-Meaning.{Has}
use Rattle.wit_foreign.specs.View as seen
use Rattle.wit_foreign.specs.GroupView.{path_text}
use Rattle.wit_foreign.specs.Groups.{package_key}
use Rattle.wit_foreign.proofs.Grouping.{within_rows, joins_row, begins_row}
use Rattle.wit_foreign.proofs.Outcomes.{on_both}
use Rattle.wit_foreign.proofs.groups.add_by_package.Goals as goal

pub join-requires : goal.join-requires
join-requires c =
    within_rows package_key c.args.need c.args.firsts.now.items c.args.rows.now.items c.requires.rows c.in-Some.place
    (subst (λ (t : PackageText). slice_get (map package_key (seen.needs c.args.firsts.now.items)) c.in-Some.place ≡ Some t) c.package_path-path.ensures
    (subst (λ (ts : List PackageText). slice_get ts c.in-Some.place ≡ Some (path_text c.package_path-path.result)) c.requires.packages c.in-Some.ensures.some))

pub returns-in-Some-clause-groups : goal.returns-in-Some-clause-groups
returns-in-Some-clause-groups c =
    on_ok c.join.result
    (joins_row package_key c.args.need c.args.firsts.now.items c.args.rows.now.items c.requires.rows c.in-Some.place
    (subst (λ (t : PackageText). slice_get (map package_key (seen.needs c.args.firsts.now.items)) c.in-Some.place ≡ Some t) c.package_path-path.ensures
    (subst (λ (ts : List PackageText). slice_get ts c.in-Some.place ≡ Some (path_text c.package_path-path.result)) c.requires.packages c.in-Some.ensures.some))
    c.join.new.rows.items)
    c.join.ensures

pub returns-in_ok-add_package-in-None-clause-groups : goal.returns-in_ok-add_package-in-None-clause-groups
returns-in_ok-add_package-in-None-clause-groups c =
    on_both c.begin.result
    (begins_row package_key c.args.need c.args.firsts.now.items c.args.rows.now.items c.requires.rows
    (subst (λ (t : PackageText). Has (map package_key (seen.needs c.args.firsts.now.items)) t → ⊥) c.package_path-path.ensures
    (subst (λ (ts : List PackageText). Has ts (path_text c.package_path-path.result) → ⊥) c.requires.packages c.in-None.ensures.none))
    c.begin.new.firsts.items c.begin.new.rows.items)
    c.begin.ensures.firsts c.begin.ensures.rows
