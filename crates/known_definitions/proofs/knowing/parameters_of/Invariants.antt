use Rattle.std.proofs.Common.{◌≡◌, Some, map, take}
use Rattle.plain_worlds.specs.World.{each_of}
use Rattle.component_value_types.specs.Names.{named_value}
use Rattle.known_definitions.specs.Definition.{parameter_value}
use Rattle.known_definitions.specs.Known.{known_parameter}
use Rattle.known_definitions.proofs.knowing.parameters_of.Given as goal

abbrev pub invariant-loop-param : goal.invariant-loop-param
invariant-loop-param l = each_of known_parameter (map (named_value (λ t. t)) (take l.param-index l.params)) ≡ Some (map parameter_value l.found.items)
