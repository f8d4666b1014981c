use Rattle.std.proofs.Common.{◌≡◌, ◌+◌, ◌++◌, ◌∷◌, [], map, length, subst, sym, ap, ◌∙◌, arith, take}
use Rattle.std.proofs.lemmas.List.{map-append}
use Rattle.std.proofs.lemmas.Option.{slice_get-get_or}
use Rattle.std.specs.Prelude.{slice_get, Some}
use Rattle.core_links.specs.Marks.{is_marked, picked, ArePicked}
use Rattle.core_links.specs.Needed.{functions_of}
use Rattle.core_links.specs.View.{linked_of}
use Rattle.core_links.proofs.Picking.{interfaces_next}
use Rattle.core_links.proofs.needed.all_marked.Goals as goal

pub loop-index-preserved : goal.loop-index-preserved
loop-index-preserved c =
    let k = c.loop-index.index in
    let ds = c.args.interfaces.now in
    let marks = c.args.marks.now in
    let v = c.in_ok-linked_marked.field-0 in
    let d = c.get-interface.result.now in
    let m = c.index-marks-index.result in
    let lt = c.loop-index-test.true in
    let at = subst (λ i. slice_get ds i ≡ Some d) c.from_index.ensures c.get-interface.ensures in
    let at_m : slice_get marks k ≡ Some m = slice_get-get_or marks k m (omega arith) ∙ ap (λ x. Some x) (sym c.index-marks-index.is) in
    let are = c.in_ok-linked_marked.ensures ∙ ap (λ bs. picked (is_marked bs) (functions_of d)) c.as_slice.ensures.value in
    subst (ArePicked (take (k + 1) ds) marks) (sym (ap linked_of c.in_ok-push.ensures.items ∙ map-append _ c.loop-index.found.items (v ∷ [])))
    (interfaces_next ds marks k d m (linked_of c.loop-index.found.items) (map (λ f. f.now) v.items) at at_m are c.loop-index.invariant)
