use Rattle.std.proofs.Common.{◌≡◌, ◌++◌, map, take}
use Rattle.wasm_bodies.specs.Segments.{function_value}
use Rattle.generated_modules.proofs.named.push_functions.Given as goal

abbrev pub invariant-loop-function : goal.invariant-loop-function
invariant-loop-function l = l.out.items ≡ l.initial.out.items ++ map function_value (take l.function-index l.functions)
