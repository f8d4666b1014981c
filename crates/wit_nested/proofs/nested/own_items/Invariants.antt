use Rattle.std.proofs.Common.{◌≡◌, ◌++◌, map, take, length}
use Rattle.std.specs.Prelude.{flat_map}
use Rattle.wit_scopes.specs.Passed.wit_syntax-AstView as view
use Rattle.wit_nested.specs.Nested as spec
use Rattle.wit_nested.proofs.nested.own_items.Given as goal

abbrev pub invariant-loop-gated : goal.invariant-loop-gated
invariant-loop-gated l =
    (map (view.gated view.file_item) l.own.items ≡ flat_map spec.own_item (map (view.gated view.file_item) (take (length l.yielded) l.fn.items.items)))
    × (map view.file l.nested.items ≡ map view.file l.initial.nested.items ++ flat_map spec.nested_item (map (view.gated view.file_item) (take (length l.yielded) l.fn.items.items)))
