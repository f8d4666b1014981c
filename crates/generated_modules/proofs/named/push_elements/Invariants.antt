use Rattle.std.proofs.Common.{◌≡◌, ◌++◌, map, flat_map, take}
use Rattle.wasm_bodies.specs.Segments.{element_value, functions_in}
use Rattle.generated_modules.proofs.named.push_elements.Given as goal

abbrev pub invariant-loop-element : goal.invariant-loop-element
invariant-loop-element l = l.out.items ≡ l.initial.out.items ++ flat_map functions_in (map element_value (take l.element-index l.elements))
