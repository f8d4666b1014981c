-- The module that is handed in, with its core types (WebAssembly Core, Modules).
use Rattle.std.specs.Prelude.{ℕ, List, map, Option, Some, None}
use Rattle.wasm_types.specs.Types.{FuncTypeValue}
use Rattle.wasm_types.specs.Entries.{ImportValue, ExportValue}
use Rattle.wasm_types.specs.declared.types.EntityType.{EntityType}
use Rattle.wasm_types.specs.declared.types.EntityType.TheVariants as entities
use Rattle.wasm_types.specs.declared.types.ExportKind.{ExportKind}
use Rattle.wasm_types.specs.declared.types.ExportKind.TheVariants as kinds
use Rattle.link_table.specs.Passed.wasm_format-Module.{ModuleValue, imported_type, exported_type}
use Rattle.component_meaning.specs.Core.{CoreType, of_function, of_kind, CoreImport, CoreExport, MainModule}

abbrev pub kind_of : EntityType → ExportKind
kind_of (entities.Function t) = kinds.Func
kind_of (entities.Table t) = kinds.Table
kind_of (entities.Memory m) = kinds.Memory
kind_of (entities.Global g) = kinds.Global

-- the type of a function, or what else it is
abbrev pub core_type : Option FuncTypeValue → ExportKind → CoreType
core_type (Some t) kind = of_function t
core_type None kind = of_kind kind

abbrev pub core_import : ModuleValue → ImportValue → CoreImport
core_import m i = record { place = i.place; name = i.name; ty = core_type (imported_type m i.ty) (kind_of i.ty) }

abbrev pub core_export : ModuleValue → ExportValue → CoreExport
core_export m e = record { name = e.name; ty = core_type (exported_type m e.kind e.index) e.kind }

-- the module that bytes are read as
abbrev pub main_of : List ℕ → ModuleValue → MainModule
main_of bytes m = record { bytes = bytes; imports = map (core_import m) m.imports; exports = map (core_export m) m.exports }
