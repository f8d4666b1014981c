use Rattle.std.proofs.Common.{◌≡◌, ◌++◌, map, flat_map, take}
use Rattle.wasm_types.specs.Entries.{type_index_value}
use Rattle.generated_sections.specs.Types.{import_value}
use Rattle.generated_modules.specs.Parts.{function_in}
use Rattle.generated_modules.proofs.parts.function_space.Given as goal

abbrev pub invariant-loop-import : goal.invariant-loop-import
invariant-loop-import l = l.space.items ≡ flat_map (λ i. function_in i.ty) (map import_value (take l.import-index l.imports))

abbrev pub invariant-loop-function : goal.invariant-loop-function
invariant-loop-function l = l.space.items ≡ flat_map (λ i. function_in i.ty) (map import_value l.imports) ++ map type_index_value (take l.function-index l.functions)
