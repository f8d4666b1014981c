use Rattle.std.proofs.Common.{sym, ap, ◌∙◌, ◌++◌, arith}
use Rattle.std.specs.Prelude.{slice_get, option_map}
use Rattle.core_links.specs.Marks.{is_marked, picked_one}
use Rattle.core_links.proofs.Picking.{linked_next}
use Rattle.core_links.proofs.needed.linked_marked.Goals as goal

pub loop-place-preserved : goal.loop-place-preserved
loop-place-preserved c =
    let d = c.args.interface.now in
    let k = c.loop-place.place in
    let size = c.len-place-end.ensures.len in
    let lt = c.loop-place-test.true in
    c.in_ok-add_linked.ensures ∙ ap (λ fs. fs ++ picked_one (is_marked c.args.marks.now k) (option_map (λ e. e.1) (slice_get d.functions.entries k))) c.loop-place.invariant ∙ linked_next (is_marked c.args.marks.now) d k (omega (arith, size, lt))
