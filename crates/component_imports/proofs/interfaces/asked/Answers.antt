use Rattle.component_imports.proofs.Asked.{asked_next}
use Rattle.component_imports.proofs.interfaces.asked.Goals as goal

pub loop-functions-preserved : goal.loop-functions-preserved
loop-functions-preserved c = asked_next c.args.others.now c.loop-functions.ids.items _ c.args.linked.now c.loop-functions.functions-index c.functions-item.result c.loop-functions-test.true c.functions-item.is c.as_slice.result.now c.as_slice.ensures.value c.loop-functions.invariant c.in_ok-add_functions.ensures
