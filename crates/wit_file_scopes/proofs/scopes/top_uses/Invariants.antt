use Rattle.std.proofs.Common.{◌≡◌, map, take}
use Rattle.wit_syntax.specs.AstView as view
use Rattle.wit_scopes.specs.Paths.{item_uses}
use Rattle.wit_file_scopes.proofs.scopes.top_uses.Given as goal

abbrev pub invariant-loop-gated : goal.invariant-loop-gated
invariant-loop-gated l = map view.toplevel_use l.found.items ≡ item_uses (map (view.gated view.file_item) (take l.gated-index l.items))
