use Rattle.std.proofs.Common.{◌≡◌, map, take}
use Rattle.wit_syntax.specs.AstView as view
use Rattle.wit_lookups.specs.Names.{known_names}
use Rattle.wit_checked_lookups.proofs.names.file_known_names.Given as goal

abbrev pub invariant-loop-item : goal.invariant-loop-item
invariant-loop-item l = l.found ≡ known_names (map view.toplevel_use (take l.item-index l.uses))
