use Rattle.std.proofs.Common.{map}
use Rattle.wit_syntax.specs.AstView as view
use Rattle.wit_scopes.specs.View as scope_view
use Rattle.wit_lookups.specs.Lookups.{FileBreaks}
use Rattle.wit_lookups.proofs.Loops.{AreKeptTo}
use Rattle.wit_checked_lookups.proofs.files.check_files.Given as goal

abbrev pub invariant-loop-uses : goal.invariant-loop-uses
invariant-loop-uses l = AreKeptTo (FileBreaks (view.package_name l.me) (map scope_view.item_scope l.scopes)) (λ us. map view.toplevel_use us.items) l.files l.uses-index
