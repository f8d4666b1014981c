use Rattle.wit_foreign.specs.View as seen
use Rattle.wit_foreign.specs.GroupView.{rows}
use Rattle.wit_foreign.specs.Groups.{package_key}
use Rattle.wit_foreign.proofs.Grouping.{rows_of, groups_apart, first_needed, row_needed}
use Rattle.wit_foreign.proofs.Parting.{are_parts}
use Rattle.wit_foreign.proofs.Depending.{groups_read}
use Rattle.wit_foreign.proofs.deps.foreign_deps.Goals as goal

pub packages_in-requires-clause-apart : goal.packages_in-requires-clause-apart
packages_in-requires-clause-apart c = groups_apart package_key (seen.needs c.args.needs.now) (seen.needs c.as_slice-firsts.result.now) (rows c.as_slice.result.now) (groups_read package_key (seen.needs c.args.needs.now) c.in_ok-groups.groups.firsts.items c.as_slice-firsts.result.now c.in_ok-groups.groups.rows.items c.as_slice.result.now c.as_slice-firsts.ensures.value c.as_slice.ensures.value c.in_ok-groups.ensures)

pub packages_in-requires-clause-rows : goal.packages_in-requires-clause-rows
packages_in-requires-clause-rows c = rows_of package_key (seen.needs c.args.needs.now) c.as_slice-firsts.result.now c.as_slice.result.now (groups_read package_key (seen.needs c.args.needs.now) c.in_ok-groups.groups.firsts.items c.as_slice-firsts.result.now c.in_ok-groups.groups.rows.items c.as_slice.result.now c.as_slice-firsts.ensures.value c.as_slice.ensures.value c.in_ok-groups.ensures)

pub packages_in-requires-clause-versions : goal.packages_in-requires-clause-versions
packages_in-requires-clause-versions c = λ n has. c.requires.versions n (first_needed package_key (seen.needs c.args.needs.now) (seen.needs c.as_slice-firsts.result.now) (rows c.as_slice.result.now) (groups_read package_key (seen.needs c.args.needs.now) c.in_ok-groups.groups.firsts.items c.as_slice-firsts.result.now c.in_ok-groups.groups.rows.items c.as_slice.result.now c.as_slice-firsts.ensures.value c.as_slice.ensures.value c.in_ok-groups.ensures) n has)

pub packages_in-requires-clause-there : goal.packages_in-requires-clause-there
packages_in-requires-clause-there c = λ r has n in_r. c.requires.there n (row_needed package_key (seen.needs c.args.needs.now) (seen.needs c.as_slice-firsts.result.now) (rows c.as_slice.result.now) (groups_read package_key (seen.needs c.args.needs.now) c.in_ok-groups.groups.firsts.items c.as_slice-firsts.result.now c.in_ok-groups.groups.rows.items c.as_slice.result.now c.as_slice-firsts.ensures.value c.as_slice.ensures.value c.in_ok-groups.ensures) r has n in_r)

pub packages_in-requires-clause-gates : goal.packages_in-requires-clause-gates
packages_in-requires-clause-gates c = λ r has n in_r. c.requires.gates n (row_needed package_key (seen.needs c.args.needs.now) (seen.needs c.as_slice-firsts.result.now) (rows c.as_slice.result.now) (groups_read package_key (seen.needs c.args.needs.now) c.in_ok-groups.groups.firsts.items c.as_slice-firsts.result.now c.in_ok-groups.groups.rows.items c.as_slice.result.now c.as_slice-firsts.ensures.value c.as_slice.ensures.value c.in_ok-groups.ensures) r has n in_r)

pub returns : goal.returns
returns c = record { firsts = seen.needs c.as_slice-firsts.result.now; rows = rows c.as_slice.result.now; parts = are_parts package_key (seen.needs c.args.needs.now) (seen.needs c.as_slice-firsts.result.now) (rows c.as_slice.result.now) (groups_read package_key (seen.needs c.args.needs.now) c.in_ok-groups.groups.firsts.items c.as_slice-firsts.result.now c.in_ok-groups.groups.rows.items c.as_slice.result.now c.as_slice-firsts.ensures.value c.as_slice.ensures.value c.in_ok-groups.ensures); entries = c.in_ok-deps.ensures; spans_are = c.in_ok-spans.ensures }
