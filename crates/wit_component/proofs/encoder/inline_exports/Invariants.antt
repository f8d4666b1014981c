use Rattle.std.proofs.Common.{◌≡◌, ◌++◌, map, drop}
use Rattle.component_value_types.specs.Names.{named_value}
use Rattle.known_definitions.specs.Known.{named_function}
use Rattle.wit_component.proofs.Written.{items_of}
use Rattle.wit_component.proofs.WrittenLinks.{given_from}
use Rattle.wit_component.proofs.encoder.inline_exports.Given as goal

abbrev pub invariant-loop-place : goal.invariant-loop-place
invariant-loop-place l = map (named_value (λ x. x)) l.found.items ++ map named_function (given_from l.imported l.place (items_of (drop l.place l.functions))) ≡ map named_function (given_from l.imported 0 (items_of l.functions))
