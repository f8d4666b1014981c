use Rattle.std.proofs.Common.{◌≡◌, ◌++◌, drop}
use Rattle.known_definitions.specs.Definition.{lower_of}
use Rattle.wit_component.specs.Component.{numbered}
use Rattle.wit_component.specs.Written.{written, among}
use Rattle.wit_component.proofs.Written.{items_of}
use Rattle.wit_component.proofs.encoder.put_lowers.Given as goal

abbrev pub invariant-loop-place : goal.invariant-loop-place
invariant-loop-place l = written l.out.items ++ among (numbered (λ n f. lower_of n) l.place (items_of (drop l.place l.functions))) ≡ written l.initial.out.items ++ among (numbered (λ n f. lower_of n) 0 (items_of l.functions))
