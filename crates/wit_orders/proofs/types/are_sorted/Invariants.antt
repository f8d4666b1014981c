use Rattle.std.proofs.Common.{◌≡◌, ◌<◌, ℕ, map, take, Some, true}
use Rattle.std.specs.Prelude.{slice_get}
use Rattle.wit_orders.specs.Needs.{Entry, labels, type_entry}
use Rattle.wit_orders.specs.Rows.{are_among}
use Rattle.wit_type_names.specs.Passed.wit_scopes-View as scope_view
use Rattle.wit_orders.proofs.types.are_sorted.Given as goal

abbrev pub invariant-loop-member : goal.invariant-loop-member
invariant-loop-member l =
    (l.before ≡ take l.member-index (labels (map type_entry (scope_view.members l.types))))
    × ((i : ℕ) (one : Entry) → i < l.member-index → slice_get (map type_entry (scope_view.members l.types)) i ≡ Some one → are_among (take i (labels (map type_entry (scope_view.members l.types)))) one.needs ≡ true)
