use Rattle.std.proofs.Common.{◌≡◌, ◌++◌, map, drop}
use Rattle.known_definitions.specs.Definition.{alias_of}
use Rattle.wit_component.specs.Written.{written, among}
use Rattle.wit_component.proofs.encoder.put_aliases.Given as goal

abbrev pub invariant-loop-name : goal.invariant-loop-name
invariant-loop-name l = written l.out.items ++ among (map (λ t. alias_of l.instance t.now) (drop l.name-index l.names)) ≡ written l.initial.out.items ++ among (map (λ t. alias_of l.instance t.now) l.names)
