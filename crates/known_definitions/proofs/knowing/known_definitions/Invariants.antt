use Rattle.std.proofs.Common.{◌≡◌, ℕ, List, length, Some, map, take}
use Rattle.std.specs.List.{All}
use Rattle.plain_worlds.specs.World.{each_of}
use Rattle.component_sections.specs.Component.{placed_value, StandsIn}
use Rattle.known_definitions.specs.Definition.{definition_values, AreWithin}
use Rattle.known_definitions.specs.Known.{known_of}
use Rattle.known_definitions.proofs.knowing.known_definitions.Given as goal

abbrev pub invariant-loop-placed : goal.invariant-loop-placed
invariant-loop-placed l = record {
  known : each_of known_of (map placed_value (take l.placed-index l.definitions)) ≡ Some (definition_values l.found.items);
  offsets : map (λ d. d.offset) l.found.items ≡ map (λ p. p.offset) (take l.placed-index l.definitions);
  within : (total : List ℕ) → All (StandsIn total) l.definitions → AreWithin (length total) l.found.items;
}
