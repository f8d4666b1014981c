use Rattle.std.proofs.Common.{map, take}
use Rattle.wit_scopes.specs.View as scope_view
use Rattle.wit_checked_lookups.proofs.Listed.{NamesSoFar}
use Rattle.wit_checked_lookups.proofs.names.package_names.Given as goal

abbrev pub invariant-loop-scope : goal.invariant-loop-scope
invariant-loop-scope l = NamesSoFar (map scope_view.item_scope (take l.scope-index l.scopes)) l.items l.types.items
