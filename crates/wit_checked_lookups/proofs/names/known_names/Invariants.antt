use Rattle.std.proofs.Common.{◌≡◌, map, take}
use Rattle.wit_scopes.specs.View as scope_view
use Rattle.wit_lookups.specs.Names.{known_names}
use Rattle.wit_checked_lookups.proofs.names.known_names.Given as goal

abbrev pub invariant-loop-uses : goal.invariant-loop-uses
invariant-loop-uses l = l.found.items ≡ map known_names (scope_view.uses (take l.uses-index l.files))
