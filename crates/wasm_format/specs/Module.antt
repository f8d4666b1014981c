-- Core modules (WebAssembly Core, Structure, Modules), without where they lie in memory.
use Rattle.std.specs.Prelude.{ℕ, List, [], ◌∷◌, ◌++◌, map, flat_map, slice_get, Option, None, option_and_then}
use Rattle.wasm_types.specs.declared.types.EntityType.{EntityType}
use Rattle.wasm_types.specs.declared.types.EntityType.TheVariants as entities
use Rattle.wasm_types.specs.declared.types.ExportKind.{ExportKind}
use Rattle.wasm_types.specs.declared.types.ExportKind.TheVariants as kinds
use Rattle.wasm_types.specs.declared.types.TableType.{TableType}
use Rattle.wasm_types.specs.declared.types.Limits.{Limits}
use Rattle.wasm_types.specs.Types.{FuncTypeValue, func_type_value}
use Rattle.wasm_types.specs.Entries.{ImportValue, ExportValue, GlobalValue, import_value, export_value, global_value, type_index_value}
use Rattle.wasm_sections.specs.declared.section.SectionId.{SectionId}
use Rattle.wasm_sections.specs.Module as whole
use Rattle.wasm_sections.specs.Module.{types_in, imports_in, functions_in, tables_in, memories_in, globals_in, exports_in}
use Rattle.wasm_format.specs.declared.core_module.Section.{Section}
use Rattle.wasm_format.specs.declared.core_module.CoreModule.{CoreModule}

pub record SectionValue : Type 0 where
  pub id : SectionId
  pub content : List ℕ

-- what the module has of its own, its imports and exports
pub record ModuleValue : Type 0 where
  pub types : List FuncTypeValue
  pub imports : List ImportValue
  -- the type of each own function
  pub functions : List ℕ
  pub tables : List TableType
  pub memories : List Limits
  pub globals : List GlobalValue
  pub exports : List ExportValue
  pub sections : List SectionValue
  -- the type of each function, imported ones first (Modules, Indices)
  pub function_space : List ℕ

-- ---- by sections

-- the type of an imported function
abbrev pub function_in : EntityType → List ℕ
function_in (entities.Function t) = t ∷ []
function_in _ = []

-- imported functions come first in the index space
abbrev pub function_space_of : List ImportValue → List ℕ → List ℕ
function_space_of imports functions = flat_map (λ i. function_in i.ty) imports ++ functions

-- what sections hold, of each sort; no sort but custom ones stands twice
abbrev pub module_of : List whole.SectionValue → ModuleValue
module_of ss = record {
  types = flat_map (λ s. types_in s.holds) ss;
  imports = flat_map (λ s. imports_in s.holds) ss;
  functions = flat_map (λ s. functions_in s.holds) ss;
  tables = flat_map (λ s. tables_in s.holds) ss;
  memories = flat_map (λ s. memories_in s.holds) ss;
  globals = flat_map (λ s. globals_in s.holds) ss;
  exports = flat_map (λ s. exports_in s.holds) ss;
  sections = map (λ s. record { id = s.id; content = s.content }) ss;
  function_space = function_space_of (flat_map (λ s. imports_in s.holds) ss) (flat_map (λ s. functions_in s.holds) ss);
}

-- one section more, before the functions' types are gathered
abbrev pub with_section : ModuleValue → whole.SectionValue → ModuleValue
with_section m s = record {
  types = m.types ++ types_in s.holds;
  imports = m.imports ++ imports_in s.holds;
  functions = m.functions ++ functions_in s.holds;
  tables = m.tables ++ tables_in s.holds;
  memories = m.memories ++ memories_in s.holds;
  globals = m.globals ++ globals_in s.holds;
  exports = m.exports ++ exports_in s.holds;
  sections = m.sections ++ record { id = s.id; content = s.content } ∷ [];
  function_space = m.function_space;
}

-- ---- looking up

-- the type of the function at an index
abbrev pub function_type_at : ModuleValue → ℕ → Option FuncTypeValue
function_type_at m k = option_and_then (slice_get m.types) (slice_get m.function_space k)

-- the type of what is imported, where it's a function
abbrev pub imported_type : ModuleValue → EntityType → Option FuncTypeValue
imported_type m (entities.Function t) = slice_get m.types t
imported_type m _ = None

-- the type of what is exported, where it's a function
abbrev pub exported_type : ModuleValue → ExportKind → ℕ → Option FuncTypeValue
exported_type m kinds.Func k = function_type_at m k
exported_type m _ k = None

-- ---- the same of what the code has

abbrev pub section_value : Section → SectionValue
section_value s = record { id = s.id; content = s.content.now }

abbrev pub module_value : CoreModule → ModuleValue
module_value m = record {
  types = map func_type_value m.types.items;
  imports = map import_value m.imports.items;
  functions = map type_index_value m.functions.items;
  tables = m.tables.items;
  memories = m.memories.items;
  globals = map global_value m.globals.items;
  exports = map export_value m.exports.items;
  sections = map section_value m.sections.items;
  function_space = m.function_space.items;
}
