use Rattle.std.proofs.Common.{◌≡◌, map, take}
use Rattle.component_value_types.specs.Names.{named_value}
use Rattle.known_definitions.specs.Known.{named_parameter}
use Rattle.plain_worlds.specs.World.{param_item}
use Rattle.wit_component.proofs.encoder.parameters_of.Given as goal

abbrev pub invariant-loop-param : goal.invariant-loop-param
invariant-loop-param l = map (named_value (λ t. t)) l.found.items ≡ map named_parameter (map param_item (take l.param-index l.params))
