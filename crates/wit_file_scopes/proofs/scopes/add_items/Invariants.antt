use Rattle.std.proofs.Common.{◌≡◌, ◌++◌, map, take, length}
use Rattle.std.specs.Prelude.{flat_map}
use Rattle.wit_syntax.specs.AstView as view
use Rattle.wit_scopes.specs.Paths.{item_uses}
use Rattle.wit_scopes.specs.Scopes as spec
use Rattle.wit_scopes.specs.View as seen
use Rattle.wit_file_scopes.proofs.scopes.add_items.Given as goal

abbrev pub invariant-loop-gated : goal.invariant-loop-gated
invariant-loop-gated l = map seen.item_scope l.found.items ≡ map seen.item_scope l.initial.found.items ++ flat_map (λ g. spec.file_item_scopes (view.package_name l.me) (item_uses (map (view.gated view.file_item) l.fn.items.items)) l.number g g.item) (map (view.gated view.file_item) (take (length l.yielded) l.fn.items.items))
