use Rattle.std.proofs.Common.{ap, get_or}
use Rattle.wit_features.specs.Passed.wit_types-declared-function-Param.{Param}
use Rattle.wit_moves.specs.Moved.{moved_param}
use Rattle.wit_moves.proofs.Mapped.{mapped_more, mapped_all}
use Rattle.wit_moves.proofs.functions.move_params.Goals as goal

pub loop-param-preserved : goal.loop-param-preserved
loop-param-preserved g c =
    let x : Param = get_or c.loop-param.params c.loop-param.param-index c.param-item.result in
    mapped_more (moved_param (g.M.TypeMap.goes c.args.ids.now)) c.loop-param.param-index c.args.params.now c.loop-param.params c.param-item.result _ c.loop-param.invariant c.loop-param-test.true (ap (λ t. record x { ty = t }) c.moved_type-param.ensures)

pub returns : goal.returns
returns g c = mapped_all (moved_param (g.M.TypeMap.goes c.args.ids.now)) c.loop-param.param-index c.args.params.now c.loop-param.params c.loop-param.invariant c.loop-param-test.false
