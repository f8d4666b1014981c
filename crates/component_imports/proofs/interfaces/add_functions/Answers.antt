use Rattle.component_imports.proofs.Asked.{ids_next}
use Rattle.component_imports.proofs.interfaces.add_functions.Goals as goal

pub loop-function-preserved : goal.loop-function-preserved
loop-function-preserved c = ids_next c.args.ids.now.items c.loop-function.ids.items _ c.args.functions.now c.loop-function.function-index c.function-item.result c.loop-function-test.true c.function-item.is c.loop-function.invariant c.in_ok-add_function.ensures
