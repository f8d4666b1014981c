use Rattle.std.proofs.Common.{◌+◌, ◌∷◌, List, drop, sym, ap, ◌∙◌}
use Rattle.std.proofs.lemmas.List.{drop_more}
use Rattle.std.proofs.lemmas.Result.{err_from_is_err_and}
use Rattle.wit_graph_worlds.specs.Passed.wit_plans-declared-moves-MovedWorld.{MovedWorld}
use Rattle.wit_moves.proofs.Leading.{leads_at, breaks_here}
use Rattle.wit_graph_parts.specs.Parts as spec
use Rattle.wit_graph_parts.proofs.worlds.check_worlds.Goals as goal

pub returns-in_err-check_world-clause-cause : goal.returns-in_err-check_world-clause-cause
returns-in_err-check_world-clause-cause c =
    let all : List MovedWorld = c.args.worlds.now in
    let p = err_from_is_err_and c.from_residual.result c.from_residual.ensures.1 in
    let e = drop_more all c.loop-world.world-index c.world-item.result c.loop-world-test.true ∙ ap (λ (x : MovedWorld). x ∷ drop (c.loop-world.world-index + 1) all) (sym c.world-item.is) in
    rw (p.1, p.2) (breaks_here (spec.WorldBreaks c.args.natures.now) all c.world-item.result (drop (c.loop-world.world-index + 1) all) (drop c.loop-world.world-index all) _ e c.in_err-check_world.ensures.cause c.loop-world.invariant)

pub loop-world-preserved : goal.loop-world-preserved
loop-world-preserved c = leads_at (spec.WorldBreaks c.args.natures.now) c.args.worlds.now c.loop-world.world-index c.world-item.result c.loop-world-test.true c.world-item.is c.in_ok-check_world.ensures.ok c.loop-world.invariant
