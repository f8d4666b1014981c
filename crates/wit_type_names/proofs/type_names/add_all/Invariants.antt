use Rattle.std.proofs.Common.{◌≡◌, ◌++◌, map, take}
use Rattle.wit_scopes.specs.Passed.wit_syntax-AstView as view
use Rattle.wit_type_names.specs.TypeNames.{names_in_parts, handles_in_parts}
use Rattle.wit_type_names.proofs.type_names.add_all.Given as goal

abbrev pub invariant-loop-item : goal.invariant-loop-item
invariant-loop-item g l =
    (map view.id l.found.names.items ≡ map view.id l.initial.found.names.items ++ names_in_parts (map g.T.Typed.part (take l.item-index l.items)))
    × (map view.id l.found.handles.items ≡ map view.id l.initial.found.handles.items ++ handles_in_parts (map g.T.Typed.part (take l.item-index l.items)))
