use Rattle.std.proofs.Common.{◌≡◌, map, take}
use Rattle.wit_scopes.specs.View as scope_view
use Rattle.wit_checked_lookups.specs.AskView as seen
use Rattle.wit_lookups.specs.Lookups as spec
use Rattle.wit_checked_lookups.proofs.asks.foreign_asks.Given as goal

abbrev pub invariant-loop-scope : goal.invariant-loop-scope
invariant-loop-scope l = map seen.ask l.found.items ≡ spec.asks_in (map scope_view.item_scope (take l.scope-index l.scopes))
