use Rattle.std.proofs.Common.{map, take, sym, subst}
use Rattle.wit_lookups.specs.Passed.wit_scopes-View as scope_view
use Rattle.wit_foreign.specs.Needs.{AreUses}
use Rattle.wit_foreign.proofs.Uses.{uses_in}
use Rattle.wit_foreign.proofs.needs.foreign_needs.Goals as goal

pub returns-clause-uses : goal.returns-clause-uses
returns-clause-uses c = subst AreUses (sym c.loop-scope.invariant) (uses_in (map scope_view.item_scope (take c.loop-scope.scope-index c.args.scopes.now)))
