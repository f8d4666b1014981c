use Rattle.std.proofs.Common.{◌≡◌, ◌++◌, ◌+◌, None, drop}
use Rattle.known_definitions.specs.Definition.{export_of}
use Rattle.wit_component.specs.Component.{numbered}
use Rattle.wit_component.specs.Written.{written, among}
use Rattle.wit_component.proofs.Written.{items_of}
use Rattle.wit_component.proofs.encoder.put_exports.Given as goal

abbrev pub invariant-loop-place : goal.invariant-loop-place
invariant-loop-place l = written l.out.items ++ among (numbered (λ n f. export_of f.name n None) (l.from + l.place) (items_of (drop l.place l.functions))) ≡ written l.initial.out.items ++ among (numbered (λ n f. export_of f.name n None) l.from (items_of l.functions))
