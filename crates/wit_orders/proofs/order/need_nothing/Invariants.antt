use Rattle.std.proofs.Common.{◌≡◌, ◌<◌, ℕ, [], map, Some}
use Rattle.std.specs.Prelude.{slice_get}
use Rattle.wit_orders.specs.Needs.{Entry}
use Rattle.wit_orders.specs.View as seen
use Rattle.wit_orders.proofs.order.need_nothing.Given as goal

abbrev pub invariant-loop-entry : goal.invariant-loop-entry
invariant-loop-entry l = (i : ℕ) (one : Entry) → i < l.entry-index → slice_get (map seen.entry l.entries) i ≡ Some one → one.needs ≡ []
