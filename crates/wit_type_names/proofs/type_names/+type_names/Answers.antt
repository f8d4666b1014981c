use Rattle.std.proofs.Common.{◌<◌, ◌++◌, List, map, take, length, append_assoc, sym, ap, ◌∙◌}
use Rattle.wit_scopes.specs.Passed.wit_words-Slice.{Slice}
use Rattle.wit_scopes.specs.Passed.wit_syntax-AstView as view
use Rattle.wit_scopes.specs.Passed.wit_productions-TypeTree.{row}
use Rattle.wit_scopes.specs.Passed.wit_productions-TypeView.{type_tree}
use Rattle.wit_type_names.specs.TypeNames.{names_in, names_in_row, handles_in, handles_in_row}
use Rattle.wit_type_names.proofs.Rows.{row_more, row_handles_more}
use Rattle.wit_type_names.proofs.type_names.+type_names.Goals as goal

pub add_row_names-loop-part-preserved : goal.add_row_names-loop-part-preserved
add_row_names-loop-part-preserved t c =
    let names : List Slice = map view.id c.args.found.now.names.items in
    let first : List Slice = names_in_row (row (map type_tree (take c.loop-part.part-index c.args.parts.now))) in
    let added : List Slice = names_in (type_tree c.part-item.result) in
    let handles : List Slice = map view.id c.args.found.now.handles.items in
    let first_handles : List Slice = handles_in_row (row (map type_tree (take c.loop-part.part-index c.args.parts.now))) in
    let added_handles : List Slice = handles_in (type_tree c.part-item.result) in
    let there : c.loop-part.part-index < length c.args.parts.now = c.loop-part-test.true in (
      c.in_ok-add_type_names.ensures.names ∙ ap (λ (ns : List Slice). ns ++ added) c.loop-part.invariant.0 ∙ append_assoc names first added
          ∙ ap (λ (ns : List Slice). names ++ ns) (sym (row_more type_tree c.args.parts.now c.loop-part.part-index c.part-item.result there c.part-item.is)),
      c.in_ok-add_type_names.ensures.handles ∙ ap (λ (ns : List Slice). ns ++ added_handles) c.loop-part.invariant.1 ∙ append_assoc handles first_handles added_handles
          ∙ ap (λ (ns : List Slice). handles ++ ns) (sym (row_handles_more type_tree c.args.parts.now c.loop-part.part-index c.part-item.result there c.part-item.is)),
    )
