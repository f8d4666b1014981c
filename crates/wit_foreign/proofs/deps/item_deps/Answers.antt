use Rattle.wit_foreign.specs.View as seen
use Rattle.wit_foreign.specs.GroupView.{rows}
use Rattle.wit_foreign.specs.Groups.{item_key}
use Rattle.wit_foreign.proofs.Outcomes.{if_ok}
use Rattle.wit_foreign.proofs.Grouping.{rows_of, groups_apart, first_needed, row_needed}
use Rattle.wit_foreign.proofs.Parting.{are_parts}
use Rattle.wit_foreign.proofs.Depending.{groups_read}
use Rattle.wit_foreign.proofs.deps.item_deps.Goals as goal

pub items_in-requires-clause-apart : goal.items_in-requires-clause-apart
items_in-requires-clause-apart c = groups_apart item_key (seen.needs c.args.needs.now) (seen.needs c.as_slice.result.now) (rows c.as_slice-2.result.now) (groups_read item_key (seen.needs c.args.needs.now) c.in_ok-groups.groups.firsts.items c.as_slice.result.now c.in_ok-groups.groups.rows.items c.as_slice-2.result.now c.as_slice.ensures.value c.as_slice-2.ensures.value c.in_ok-groups.ensures)

pub items_in-requires-clause-rows : goal.items_in-requires-clause-rows
items_in-requires-clause-rows c = rows_of item_key (seen.needs c.args.needs.now) c.as_slice.result.now c.as_slice-2.result.now (groups_read item_key (seen.needs c.args.needs.now) c.in_ok-groups.groups.firsts.items c.as_slice.result.now c.in_ok-groups.groups.rows.items c.as_slice-2.result.now c.as_slice.ensures.value c.as_slice-2.ensures.value c.in_ok-groups.ensures)

pub items_in-requires-clause-there : goal.items_in-requires-clause-there
items_in-requires-clause-there c = λ n has. c.requires.there n (first_needed item_key (seen.needs c.args.needs.now) (seen.needs c.as_slice.result.now) (rows c.as_slice-2.result.now) (groups_read item_key (seen.needs c.args.needs.now) c.in_ok-groups.groups.firsts.items c.as_slice.result.now c.in_ok-groups.groups.rows.items c.as_slice-2.result.now c.as_slice.ensures.value c.as_slice-2.ensures.value c.in_ok-groups.ensures) n has)

pub items_in-requires-clause-gates : goal.items_in-requires-clause-gates
items_in-requires-clause-gates c = λ r has n in_r. c.requires.gates n (row_needed item_key (seen.needs c.args.needs.now) (seen.needs c.as_slice.result.now) (rows c.as_slice-2.result.now) (groups_read item_key (seen.needs c.args.needs.now) c.in_ok-groups.groups.firsts.items c.as_slice.result.now c.in_ok-groups.groups.rows.items c.as_slice-2.result.now c.as_slice.ensures.value c.as_slice-2.ensures.value c.in_ok-groups.ensures) r has n in_r)

pub returns : goal.returns
returns c = if_ok c.items_in.result (λ d is. record { firsts = seen.needs c.as_slice.result.now; rows = rows c.as_slice-2.result.now; parts = are_parts item_key (seen.needs c.args.needs.now) (seen.needs c.as_slice.result.now) (rows c.as_slice-2.result.now) (groups_read item_key (seen.needs c.args.needs.now) c.in_ok-groups.groups.firsts.items c.as_slice.result.now c.in_ok-groups.groups.rows.items c.as_slice-2.result.now c.as_slice.ensures.value c.as_slice-2.ensures.value c.in_ok-groups.ensures); entries = is }) c.items_in.ensures
