use Rattle.std.proofs.Common.{sym, ap, ◌∙◌, ◌++◌, arith}
use Rattle.core_links.specs.Marks.{is_marked, picked_one}
use Rattle.core_links.specs.Needed.{own_functions}
use Rattle.std.specs.Prelude.{slice_get}
use Rattle.core_links.proofs.Picking.{own_next}
use Rattle.core_links.proofs.needed.own_marked.Goals as goal

pub loop-entry-preserved : goal.loop-entry-preserved
loop-entry-preserved c =
    let es = c.args.world.now.imports.entries in
    let k = c.loop-entry.entry in
    let size = c.len-entry-end.ensures.len in
    let lt = c.loop-entry-test.true in
    c.in_ok-add_own.ensures ∙ ap (λ fs. fs ++ own_functions (picked_one (is_marked c.args.marks.now k) (slice_get es k))) c.loop-entry.invariant ∙ own_next (is_marked c.args.marks.now) es k (omega (arith, size, lt))
