use Rattle.std.proofs.Common.{◌≡◌, map, take}
use Rattle.wit_lookups.specs.Passed.wit_scopes-View as scope_view
use Rattle.wit_foreign.specs.View as seen
use Rattle.wit_foreign.specs.Needs as spec
use Rattle.wit_foreign.proofs.needs.foreign_needs.Given as goal

abbrev pub invariant-loop-scope : goal.invariant-loop-scope
invariant-loop-scope l = seen.needs l.found.items ≡ spec.needs_in (map scope_view.item_scope (take l.scope-index l.scopes))
