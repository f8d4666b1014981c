use Rattle.std.proofs.Common.{map}
use Rattle.wasm_bodies.specs.Generated.{body_shape}
use Rattle.generated_modules.specs.Parts.{parts_value}
use Rattle.generated_modules.proofs.Owning.{Completes, Begins}
use Rattle.generated_modules.proofs.parts.Parts.bodies.Given as goal

abbrev pub invariant-loop-place : goal.invariant-loop-place
invariant-loop-place l = record {
  found : Completes (parts_value l.self) l.place (map body_shape l.bodies.items);
  only : Begins (parts_value l.self) l.place (map body_shape l.bodies.items);
}
