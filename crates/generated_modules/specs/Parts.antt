-- What a generated module is made of (WebAssembly Core, Structure, Modules), without where it lies in memory.
use Rattle.std.specs.Prelude.{ℕ, List, [], ◌∷◌, ◌++◌, map, flat_map, Option, Some, None}
use Rattle.wasm_types.specs.declared.types.Limits.{Limits}
use Rattle.wasm_types.specs.Types.{FuncTypeValue, func_type_value}
use Rattle.wasm_types.specs.Entries.{ExportValue, export_value, type_index_value}
use Rattle.wasm_bodies.specs.declared.instructions.BodyInstruction.{BodyInstruction}
use Rattle.wasm_bodies.specs.Bodies.{body_value}
use Rattle.wasm_bodies.specs.Segments.{ElementValue, element_value}
use Rattle.generated_sections.specs.declared.types.HeldGlobal.{HeldGlobal}
use Rattle.generated_sections.specs.declared.types.SlotTable.{SlotTable}
use Rattle.generated_sections.specs.declared.types.SlotGlobal.{SlotGlobal}
use Rattle.generated_sections.specs.declared.types.ImportType.{ImportType}
use Rattle.generated_sections.specs.declared.types.ImportType.TheVariants as asked
use Rattle.generated_sections.specs.Types.{ImportValue, import_value, slot_type}
use Rattle.generated_sections.specs.Sections.{SectionValue, types_in, imports_in, functions_in, tables_in, memories_in, globals_in, exports_in, starts_in, elements_in, bodies_in}
use Rattle.generated_modules.specs.declared.parts.Parts.{Parts}

pub record PartsValue : Type 0 where
  pub types : List FuncTypeValue
  pub imports : List ImportValue
  -- the type of each own function
  pub functions : List ℕ
  pub tables : List SlotTable
  pub memories : List Limits
  pub globals : List SlotGlobal
  pub exports : List ExportValue
  -- the function that is called first
  pub start : Option ℕ
  pub elements : List ElementValue
  -- the instructions of each own function
  pub code : List (List BodyInstruction)
  -- index spaces, imported items first (Modules, Indices): the types of functions, tables and globals
  pub function_space : List ℕ
  pub table_space : List SlotTable
  pub global_space : List HeldGlobal

-- ---- index spaces

abbrev pub function_in : ImportType → List ℕ
function_in (asked.Function t) = t ∷ []
function_in _ = []

abbrev pub table_in : ImportType → List SlotTable
table_in (asked.Table t) = t ∷ []
table_in _ = []

abbrev pub global_in : ImportType → List HeldGlobal
global_in (asked.Global g) = g ∷ []
global_in _ = []

abbrev pub imported_functions : List ImportValue → List ℕ
imported_functions is = flat_map (λ i. function_in i.ty) is

abbrev pub function_space_of : List ImportValue → List ℕ → List ℕ
function_space_of is fs = imported_functions is ++ fs

abbrev pub table_space_of : List ImportValue → List SlotTable → List SlotTable
table_space_of is ts = flat_map (λ i. table_in i.ty) is ++ ts

abbrev pub global_space_of : List ImportValue → List SlotGlobal → List HeldGlobal
global_space_of is gs = flat_map (λ i. global_in i.ty) is ++ map slot_type gs

-- ---- by sections

abbrev pub first : List ℕ → Option ℕ
first [] = None
first (f ∷ fs) = Some f

-- what sections hold, of each sort; no sort but custom ones stands twice
abbrev pub parts_of : List SectionValue → PartsValue
parts_of ss = record {
  types = flat_map types_in ss;
  imports = flat_map imports_in ss;
  functions = flat_map functions_in ss;
  tables = flat_map tables_in ss;
  memories = flat_map memories_in ss;
  globals = flat_map globals_in ss;
  exports = flat_map exports_in ss;
  start = first (flat_map starts_in ss);
  elements = flat_map elements_in ss;
  code = flat_map bodies_in ss;
  function_space = function_space_of (flat_map imports_in ss) (flat_map functions_in ss);
  table_space = table_space_of (flat_map imports_in ss) (flat_map tables_in ss);
  global_space = global_space_of (flat_map imports_in ss) (flat_map globals_in ss);
}

-- with its index spaces
abbrev pub numbered : PartsValue → PartsValue
numbered p = record p {
  function_space = function_space_of p.imports p.functions;
  table_space = table_space_of p.imports p.tables;
  global_space = global_space_of p.imports p.globals;
}

-- before index spaces are gathered
abbrev pub gathered : List SectionValue → PartsValue
gathered ss = record (parts_of ss) { function_space = []; table_space = []; global_space = [] }

abbrev pub or_first : Option ℕ → List ℕ → Option ℕ
or_first None fs = first fs
or_first (Some f) fs = Some f

-- one section more, before index spaces are gathered
abbrev pub with_section : PartsValue → SectionValue → PartsValue
with_section p s = record {
  types = p.types ++ types_in s;
  imports = p.imports ++ imports_in s;
  functions = p.functions ++ functions_in s;
  tables = p.tables ++ tables_in s;
  memories = p.memories ++ memories_in s;
  globals = p.globals ++ globals_in s;
  exports = p.exports ++ exports_in s;
  start = or_first p.start (starts_in s);
  elements = p.elements ++ elements_in s;
  code = p.code ++ bodies_in s;
  function_space = p.function_space;
  table_space = p.table_space;
  global_space = p.global_space;
}

-- ---- the same of what the code has

abbrev pub parts_value : Parts → PartsValue
parts_value p = record {
  types = map func_type_value p.types.items;
  imports = map import_value p.imports.items;
  functions = map type_index_value p.functions.items;
  tables = p.tables.items;
  memories = p.memories.items;
  globals = p.globals.items;
  exports = map export_value p.exports.items;
  start = p.start;
  elements = map element_value p.elements.items;
  code = map (λ b. body_value b.0) p.code.items;
  function_space = p.function_space.items;
  table_space = p.table_space.items;
  global_space = p.global_space.items;
}
