use Rattle.std.proofs.Common.{◌≡◌, map, take}
use Rattle.component_value_types.specs.Names.{named_value}
use Rattle.component_instances.specs.Instances.{core_argument_value}
use Rattle.known_definitions.specs.Definition.{argument_value}
use Rattle.known_definitions.specs.Known.{known_argument}
use Rattle.known_definitions.proofs.knowing.arguments_of.Given as goal

abbrev pub invariant-loop-arg : goal.invariant-loop-arg
invariant-loop-arg l = map argument_value l.found.items ≡ map known_argument (map (named_value core_argument_value) (take l.arg-index l.args))
