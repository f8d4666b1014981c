use Rattle.std.proofs.Common.{arith}
use Rattle.wit_component.proofs.PlacesFlat.{not_flat_at}
use Rattle.wit_component.proofs.linking.are_flat_values.Goals as goal

pub returns-then-not-is_flat_value-clause-is_not : goal.returns-then-not-is_flat_value-clause-is_not
returns-then-not-is_flat_value-clause-is_not c = λ _. not_flat_at c.args.values.now c.args.params.now c.loop-place.place _ c.index-params-place.result (omega arith) (c.is_flat_value.ensures.is_not c.if-not-is_flat_value.true)
