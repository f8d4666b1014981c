use Rattle.std.proofs.Common.{◌∙◌, [], List, map, ap, sym, subst}
use Rattle.std.specs.Prelude.{Vec}
use Rattle.std.specs.declared.alloc.Global.{Global}
use Rattle.wit_foreign.specs.declared.needs.Need.{Need}
use Rattle.wit_foreign.specs.Needs.{NeedTree}
use Rattle.wit_foreign.specs.View as seen
use Rattle.wit_foreign.specs.GroupView.{rows, path_text}
use Rattle.wit_foreign.specs.Groups.{AreGroups, AddsNeed, no_groups, package_key}
use Rattle.wit_foreign.proofs.Grouping.{rows_of, next_group}
use Rattle.wit_foreign.proofs.groups.by_package.Goals as goal

pub loop-need-init : goal.loop-need-init
loop-need-init c = (
  subst (λ (fs : List Need). AreGroups package_key [] (seen.needs fs) (rows c.new-rows.result.items)) (sym c.new-firsts.ensures.items)
      (subst (λ (rs : List (Vec Need Global)). AreGroups package_key [] [] (rows rs)) (sym c.new-rows.ensures.items) no_groups),
  ap (map path_text) c.new-packages.ensures.empty ∙ ap (λ (z : List Need). map package_key (seen.needs z)) (sym c.new-firsts.ensures.items),
)

pub add_by_package-requires-clause-rows : goal.add_by_package-requires-clause-rows
add_by_package-requires-clause-rows c = rows_of package_key _ c.loop-need.firsts.items c.loop-need.rows.items c.loop-need.invariant.0

pub loop-need-preserved : goal.loop-need-preserved
loop-need-preserved c = (
  next_group package_key c.args.needs.now c.loop-need.need-index c.need-item.result c.loop-need-test.true c.need-item.is (seen.needs c.loop-need.firsts.items) (rows c.loop-need.rows.items) (seen.needs c.add_by_package.new.firsts.items) (rows c.add_by_package.new.rows.items) c.loop-need.invariant.0
      (subst (λ (m : NeedTree). AddsNeed package_key m (seen.needs c.loop-need.firsts.items) (rows c.loop-need.rows.items) (seen.needs c.add_by_package.new.firsts.items) (rows c.add_by_package.new.rows.items)) c.in_ok-copy.ensures.cases c.in_ok-add_by_package.ensures.groups),
  c.in_ok-add_by_package.ensures.packages,
)
