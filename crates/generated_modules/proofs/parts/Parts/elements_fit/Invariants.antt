use Rattle.std.proofs.Common.{◌≡◌, drop, map}
use Rattle.std.specs.List.{list_all}
use Rattle.wasm_bodies.specs.Segments.{element_value}
use Rattle.generated_modules.specs.Parts.{parts_value}
use Rattle.generated_modules.specs.Shape.{element_fits}
use Rattle.generated_modules.proofs.parts.Parts.elements_fit.Given as goal

abbrev pub invariant-loop-element : goal.invariant-loop-element
invariant-loop-element l = list_all (element_fits (parts_value l.self)) (map element_value l.self.elements.items) ≡ list_all (element_fits (parts_value l.self)) (map element_value (drop l.element-index l.self.elements.items))
