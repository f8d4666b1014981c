use Rattle.std.proofs.Common.{◌≤◌, ◌+◌, ◌∷◌, List, length, drop, arith, sym, ap, ◌∙◌}
use Rattle.std.proofs.lemmas.List.{drop_more, drop_all}
use Rattle.std.proofs.lemmas.Result.{err_from_is_err_and}
use Rattle.wit_types.specs.declared.world.WorldItem.{WorldItem}
use Rattle.wit_types.specs.declared.world_key.WorldKey.{WorldKey}
use Rattle.wit_shapes.specs.Shapes as spec
use Rattle.wit_moves.proofs.Leading.{leads_at, leads_done, breaks_here}
use Rattle.wit_shapes.proofs.shapes.check_side.Goals as goal

pub returns-in_err-check_item-clause-cause : goal.returns-in_err-check_item-clause-cause
returns-in_err-check_item-clause-cause c =
    let all : List (WorldKey × WorldItem) = c.args.side.now in
    let p = err_from_is_err_and c.from_residual.result c.from_residual.ensures.1 in
    let e = drop_more all c.loop-entry.entry-index c.entry-item.result c.loop-entry-test.true ∙ ap (λ (x : WorldKey × WorldItem). x ∷ drop (c.loop-entry.entry-index + 1) all) (sym c.entry-item.is) in
    rw (p.1, p.2) (breaks_here (λ (x : WorldKey × WorldItem). spec.ItemBreaks c.args.natures.now x.1) all c.entry-item.result (drop (c.loop-entry.entry-index + 1) all) (drop c.loop-entry.entry-index all) _ e c.in_err-check_item.ensures.cause c.loop-entry.invariant)

pub loop-entry-preserved : goal.loop-entry-preserved
loop-entry-preserved c =
    leads_at (λ (e : WorldKey × WorldItem). spec.ItemBreaks c.args.natures.now e.1) c.args.side.now c.loop-entry.entry-index c.entry-item.result c.loop-entry-test.true c.entry-item.is c.in_ok-check_item.ensures.ok c.loop-entry.invariant

pub returns-clause-ok : goal.returns-clause-ok
returns-clause-ok c =
    let past = c.loop-entry-test.false in
    let over : length c.args.side.now ≤ c.loop-entry.entry-index = omega (arith, past) in
    leads_done (λ (e : WorldKey × WorldItem). spec.ItemBreaks c.args.natures.now e.1) c.args.side.now (drop c.loop-entry.entry-index c.args.side.now) (drop_all c.loop-entry.entry-index c.args.side.now over) c.loop-entry.invariant
