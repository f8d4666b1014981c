use Rattle.std.proofs.Common.{◌≡◌, map, flat_map, take}
use Rattle.wasm_types.specs.Entries.{import_value, type_index_value}
use Rattle.wasm_format.specs.Module.{function_in, function_space_of}
use Rattle.wasm_format.proofs.module_reader.function_space.Given as goal

abbrev pub invariant-loop-import : goal.invariant-loop-import
invariant-loop-import l = l.space.items ≡ flat_map (λ i. function_in i.ty) (map import_value (take l.import-index l.imports))

abbrev pub invariant-loop-function : goal.invariant-loop-function
invariant-loop-function l = l.space.items ≡ function_space_of (map import_value l.imports) (map type_index_value (take l.function-index l.functions))
