use Rattle.std.proofs.Common.{◌≡◌, map, take}
use Rattle.wit_scopes.specs.View as scope_view
use Rattle.wit_rules.specs.Facts.{ScopeBreaks}
use Rattle.wit_rules.specs.Labels.{scope_name}
use Rattle.wit_rules.specs.View as seen
use Rattle.wit_rules.proofs.Breaking.{AreKept}
use Rattle.wit_checked_files.proofs.files.check_scopes.Given as goal

abbrev pub invariant-loop-scope : goal.invariant-loop-scope
invariant-loop-scope l = record {
  kept : AreKept (λ s. ScopeBreaks (scope_view.item_scope s)) l.declared.scopes.items l.scope-index;
  names : map seen.label l.names.items ≡ map scope_name (map scope_view.item_scope (take l.scope-index l.declared.scopes.items));
}
