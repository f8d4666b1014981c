use Rattle.std.proofs.Common.{◌≡◌, ◌++◌, map, take}
use Rattle.wit_scopes.specs.Passed.wit_syntax-AstView as view
use Rattle.wit_scopes.specs.Passed.wit_productions-TypeTree.{row}
use Rattle.wit_scopes.specs.Passed.wit_productions-TypeView.{type_tree}
use Rattle.wit_type_names.specs.TypeNames.{names_in_row, handles_in_row}
use Rattle.wit_type_names.proofs.type_names.+type_names.Given as goal

abbrev pub invariant-add_row_names-loop-part : goal.invariant-add_row_names-loop-part
invariant-add_row_names-loop-part l =
    (map view.id l.found.names.items ≡ map view.id l.initial.found.names.items ++ names_in_row (row (map type_tree (take l.part-index l.parts))))
    × (map view.id l.found.handles.items ≡ map view.id l.initial.found.handles.items ++ handles_in_row (row (map type_tree (take l.part-index l.parts))))
