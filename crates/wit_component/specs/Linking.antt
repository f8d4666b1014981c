-- What is linked: the chosen world (WIT, Worlds) and the main module with its core types (WebAssembly Core, Modules).
use Rattle.std.specs.Prelude.{ℕ, ◌^◌, nat_lt, List, length, map, Option, Some, None, Result, Ok, Err, Bool, if◌then◌else◌}
use Rattle.binary_grammar.specs.declared.fault.Fault.{Fault}
use Rattle.binary_grammar.specs.Syntax.{meaning}
use Rattle.wasm_sections.specs.Module.{SectionValue, file, nothing}
use Rattle.wasm_types.specs.Types.{FuncTypeValue}
use Rattle.wasm_types.specs.Entries.{ImportValue, ExportValue}
use Rattle.wasm_format.specs.Module.{ModuleValue, module_of, imported_type, exported_type}
use Rattle.plain_worlds.specs.World.{WorldMeaning}

-- a core import, with its core type where it's a function
pub record CoreImport : Type 0 where
  pub place : List ℕ
  pub name : List ℕ
  pub ty : Option FuncTypeValue

-- a core export, with its core type where it's a function
pub record CoreExport : Type 0 where
  pub name : List ℕ
  pub ty : Option FuncTypeValue

pub record MainModule : Type 0 where
  pub bytes : List ℕ
  pub imports : List CoreImport
  pub exports : List CoreExport

pub record Linking : Type 0 where
  pub world : WorldMeaning
  pub main : MainModule
  pub rejects_legacy : Bool

abbrev pub core_import : ModuleValue → ImportValue → CoreImport
core_import m i = record { place = i.place; name = i.name; ty = imported_type m i.ty }

abbrev pub core_export : ModuleValue → ExportValue → CoreExport
core_export m e = record { name = e.name; ty = exported_type m e.kind e.index }

abbrev pub main_of : List ℕ → ModuleValue → MainModule
main_of bytes m = record { bytes = bytes; imports = map (core_import m) m.imports; exports = map (core_export m) m.exports }

-- ---- what bytes are read as

abbrev pub module_in : Result (List SectionValue) Fault → Option ModuleValue
module_in (Ok sections) = Some (module_of sections)
module_in (Err fault) = None

-- the module that the bytes are, if they are one (WebAssembly Core, Binary Format, Modules)
abbrev pub reading : List ℕ → Option ModuleValue
reading bytes = if nat_lt (length bytes) (2 ^ 32) then module_in ((meaning file nothing).read bytes) else None
