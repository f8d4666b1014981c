use Rattle.std.proofs.Common.{sym, ◌∙◌}
use Rattle.linked_types.proofs.Walks.{type_there, types_next, type_cause}
use Rattle.linked_types.proofs.functions.check_types.Goals as goal

pub get-requires : goal.get-requires
get-requires c = type_there c.args.types.now c.args.ids.now c.loop-id.id-index c.id-item.result c.loop-id-test.true c.id-item.is c.requires

pub returns-in-Some-clause-cause : goal.returns-in-Some-clause-cause
returns-in-Some-clause-cause c =
    type_cause c.args.types.now c.args.ids.now c.loop-id.id-index c.id-item.result c.loop-id-test.true c.id-item.is c.get.result.now c.in-Some.fault c.get.ensures (sym c.kind_fault.ensures ∙ c.in-Some.is)

pub loop-id-preserved : goal.loop-id-preserved
loop-id-preserved c =
    types_next c.args.types.now c.args.ids.now c.loop-id.id-index c.id-item.result c.loop-id-test.true c.id-item.is c.get.result.now c.get.ensures c.loop-id.invariant (sym c.kind_fault.ensures ∙ c.in_default.is)
