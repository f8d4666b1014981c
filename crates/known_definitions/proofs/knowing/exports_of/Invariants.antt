use Rattle.std.proofs.Common.{◌≡◌, Some, map, take}
use Rattle.plain_worlds.specs.World.{each_of}
use Rattle.component_value_types.specs.Names.{named_value}
use Rattle.known_definitions.specs.Definition.{inline_export_value}
use Rattle.known_definitions.specs.Known.{known_export}
use Rattle.known_definitions.proofs.knowing.exports_of.Given as goal

abbrev pub invariant-loop-export : goal.invariant-loop-export
invariant-loop-export l = each_of known_export (map (named_value (λ x. x)) (take l.export-index l.exports)) ≡ Some (map inline_export_value l.found.items)
