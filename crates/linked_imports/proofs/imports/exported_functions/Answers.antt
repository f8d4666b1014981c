use Rattle.std.proofs.Common.{[], ◌∷◌, sym, ap, ◌∙◌, arith}
use Rattle.std.proofs.lemmas.List.{map-append}
use Rattle.component_imports.specs.Functions.{functions_of}
use Rattle.right_components.proofs.Passed.link_table-Walks.{exported_next}
use Rattle.linked_imports.proofs.Found.{none_next}
use Rattle.linked_imports.proofs.imports.exported_functions.Goals as goal
use Rattle.linked_imports.proofs.imports.exported_functions.Goals.{in-Some+in_ok-push, in_default}

pub loop-entry-preserved : goal.loop-entry-preserved
loop-entry-preserved c =
    let es = c.args.world.now.exports.entries in
    let k = c.loop-entry.entry in
    let size = c.len-entry-end.ensures.len in
    let lt = c.loop-entry-test.true in
    elim c.match-exported_function.branch [
      | in-Some+in_ok-push w ↦
          exported_next es k w.in-Some.function.now [] (functions_of c.loop-entry.functions.items) (functions_of c.match-exported_function.functions.items) w.in-Some.ensures c.loop-entry.invariant
          (ap (λ v. functions_of v.items) w.functions-is ∙ ap functions_of w.in_ok-push.ensures.items ∙ map-append (λ g. g.now) c.loop-entry.functions.items (w.in-Some.function ∷ []))
      | in_default w ↦ ap (λ v. functions_of v.items) w.functions-is ∙ c.loop-entry.invariant ∙ sym (none_next es k (omega (arith, size, lt)) w.in_default.ensures)
    ]
