use Rattle.std.proofs.Common.{◌+◌, ◌∷◌, List, drop, sym, ap, ◌∙◌}
use Rattle.std.proofs.lemmas.List.{drop_more}
use Rattle.std.proofs.lemmas.Result.{err_from_is_err_and}
use Rattle.wit_types.specs.declared.interface.Interface.{Interface}
use Rattle.wit_moves.proofs.Leading.{leads_at, breaks_here}
use Rattle.wit_graph_parts.specs.Parts as spec
use Rattle.wit_graph_parts.proofs.worlds.check_interfaces.Goals as goal

pub returns-in_err-check_functions-clause-cause : goal.returns-in_err-check_functions-clause-cause
returns-in_err-check_functions-clause-cause c =
    let all : List Interface = c.args.interfaces.now in
    let p = err_from_is_err_and c.from_residual.result c.from_residual.ensures.1 in
    let e = drop_more all c.loop-interface.interface-index c.interface-item.result c.loop-interface-test.true ∙ ap (λ (x : Interface). x ∷ drop (c.loop-interface.interface-index + 1) all) (sym c.interface-item.is) in
    rw (p.1, p.2) (breaks_here (spec.InterfaceBreaks c.args.natures.now) all c.interface-item.result (drop (c.loop-interface.interface-index + 1) all) (drop c.loop-interface.interface-index all) _ e c.in_err-check_functions.ensures.cause c.loop-interface.invariant)

pub loop-interface-preserved : goal.loop-interface-preserved
loop-interface-preserved c = leads_at (spec.InterfaceBreaks c.args.natures.now) c.args.interfaces.now c.loop-interface.interface-index c.interface-item.result c.loop-interface-test.true c.interface-item.is c.in_ok-check_functions.ensures.ok c.loop-interface.invariant
