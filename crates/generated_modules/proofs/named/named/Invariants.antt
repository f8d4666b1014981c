use Rattle.std.proofs.Common.{◌≡◌, ◌++◌, map, flat_map, take}
use Rattle.wasm_types.specs.Entries.{export_value}
use Rattle.wasm_bodies.specs.Segments.{element_value, functions_in}
use Rattle.generated_modules.specs.Shape.{exported_in}
use Rattle.generated_modules.proofs.named.named.Given as goal

abbrev pub invariant-loop-global : goal.invariant-loop-global
invariant-loop-global l = l.found.items ≡ flat_map exported_in (map export_value l.parts.exports.items) ++ flat_map functions_in (map element_value l.parts.elements.items) ++ map (λ g. g.stub) (take l.global-index l.parts.globals.items)
