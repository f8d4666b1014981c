use Rattle.std.proofs.Common.{map}
use Rattle.wit_syntax.specs.AstView as view
use Rattle.wit_scopes.specs.View.{item_scope}
use Rattle.wit_lookups.specs.Lookups.{TopUseBreaks}
use Rattle.wit_lookups.proofs.Loops.{AreKeptTo}
use Rattle.wit_checked_lookups.proofs.files.check_file.Given as goal

abbrev pub invariant-loop-item : goal.invariant-loop-item
invariant-loop-item l = AreKeptTo (TopUseBreaks (view.package_name l.me) (map item_scope l.scopes)) view.toplevel_use l.uses l.item-index
