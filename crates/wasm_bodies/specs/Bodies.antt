-- Functions with their code (WebAssembly Core, Binary Format, Modules, Code Section).
use Rattle.std.specs.Prelude.{List, map}
use Rattle.binary_grammar.specs.declared.fault.Rule.TheVariants as rules
use Rattle.binary_grammar.specs.Syntax.{Syntax, bounded, ◌◂◌, ◌>>=◌, byte_is, up_to, exactly}
use Rattle.wasm_types.specs.declared.spaces.Spaces.{Spaces}
use Rattle.wasm_bodies.specs.declared.instructions.BodyInstruction.{BodyInstruction}
use Rattle.wasm_bodies.specs.declared.bodies.Body.{Body}
use Rattle.wasm_bodies.specs.Instructions.{which, next}

abbrev pub body_value : Body → List BodyInstruction
body_value b = map (λ i. i) b.instructions.items

-- no locals, and instructions up to their end
unfoldable pub body : Syntax bounded Spaces (List BodyInstruction)
body = exactly (do
  locals ← (λ _. 0) ◂ byte_is rules.Unsupported 0
  up_to 0x0b which next)
