use Rattle.std.proofs.Common.{sym, ◌∙◌}
use Rattle.linked_types.proofs.Walks.{ids_next, linked_next, one_cause}
use Rattle.linked_types.proofs.functions.add_functions.Goals as goal

pub returns-in-Some-clause-cause : goal.returns-in-Some-clause-cause
returns-in-Some-clause-cause c =
    one_cause c.args.functions.now c.loop-function.function-index c.function-item.result c.loop-function-test.true c.function-item.is c.in-Some.fault (sym c.function_fault.ensures ∙ c.in-Some.is)

pub loop-function-preserved : goal.loop-function-preserved
loop-function-preserved c =
    let fs = c.args.functions.now in
    let k = c.loop-function.function-index in
    let f = c.function-item.result in
    let before = c.loop-function.invariant in
    record {
      ids = ids_next fs k f c.loop-function-test.true c.function-item.is c.args.ids.now.items c.loop-function.ids.items c.add_function.new.ids.items before.ids c.in_ok-add_function.ensures;
      linked = linked_next fs k f c.loop-function-test.true c.function-item.is before.linked (sym c.function_fault.ensures ∙ c.in_default.is);
    }
