-- What a module has of each sort (WebAssembly Core, Structure, Modules, Indices).
use Rattle.std.specs.Prelude.{ℕ}
use Rattle.wasm_types.specs.declared.spaces.Spaces.{Spaces}
use Rattle.wasm_types.specs.declared.types.ExportKind.{ExportKind}
use Rattle.wasm_types.specs.declared.types.ExportKind.TheVariants as kinds

abbrev pub count : Spaces → ExportKind → ℕ
count there kinds.Func = there.functions
count there kinds.Table = there.tables
count there kinds.Memory = there.memories
count there kinds.Global = there.globals
