use Rattle.std.proofs.Common.{◌≡◌, ◌++◌, drop}
use Rattle.wit_component.specs.Component.{types_of}
use Rattle.wit_component.specs.Written.{written, among}
use Rattle.wit_component.proofs.Written.{items_of}
use Rattle.wit_component.proofs.encoder.put_types.Given as goal

abbrev pub invariant-loop-function : goal.invariant-loop-function
invariant-loop-function l = written l.out.items ++ among (types_of (items_of (drop l.function-index l.functions))) ≡ written l.initial.out.items ++ among (types_of (items_of l.functions))
