-- Sections of generated modules (WebAssembly Core, Binary Format, Modules).
use Rattle.std.specs.Prelude.{ℕ, ◌+◌, max, List, [], ◌∷◌, map, length, filter, Result, Ok, Err, Bool, ◌==◌, bytes_eq}
use Rattle.binary_grammar.specs.declared.fault.Rule.{Rule}
use Rattle.binary_grammar.specs.declared.fault.Rule.TheVariants as rules
use Rattle.binary_grammar.specs.Syntax.{Syntax, unbounded, bounded, ◌◂◌, ◌>>=◌, some_name, some_bytes, gives, refuses, tested, vec, sized, where_known, exactly, begins, keeping, steps}
use Rattle.wasm_types.specs.declared.spaces.Spaces.{Spaces}
use Rattle.wasm_types.specs.declared.types.Limits.{Limits}
use Rattle.wasm_types.specs.declared.types.ExportKind.{ExportKind}
use Rattle.wasm_types.specs.declared.types.ExportKind.TheVariants as kinds
use Rattle.wasm_types.specs.Types.{index, kind_byte, FuncTypeValue, func_type_value, func_type, limits}
use Rattle.wasm_types.specs.Entries.{ExportValue, export_value, type_index_value, export_entry, type_index}
use Rattle.wasm_sections.specs.declared.section.SectionId.{SectionId}
use Rattle.wasm_sections.specs.declared.section.SectionId.TheVariants as id
use Rattle.wasm_sections.specs.declared.sections.Progress.{Progress}
use Rattle.wasm_sections.specs.Module.{section_id_of, section_byte, rank_of, is_in_order, header}
use Rattle.wasm_bodies.specs.declared.instructions.BodyInstruction.{BodyInstruction}
use Rattle.wasm_bodies.specs.Bodies.{body, body_value}
use Rattle.wasm_bodies.specs.Segments.{ElementValue, element, element_value}
use Rattle.generated_sections.specs.declared.types.SlotTable.{SlotTable}
use Rattle.generated_sections.specs.declared.types.SlotGlobal.{SlotGlobal}
use Rattle.generated_sections.specs.Types.{ImportValue, import_value, import_entry, slot_table, slot_global, kind_of_import}
use Rattle.generated_sections.specs.declared.sections.Section.{Section}
use Rattle.generated_sections.specs.declared.sections.Section.TheVariants as code

-- a section, by what it holds
pub data SectionValue : Type 0 where
  -- with a name, and anything behind it
  custom : List ℕ → SectionValue
  types : List FuncTypeValue → SectionValue
  imports : List ImportValue → SectionValue
  -- the type of each function
  functions : List ℕ → SectionValue
  tables : List SlotTable → SectionValue
  memories : List Limits → SectionValue
  globals : List SlotGlobal → SectionValue
  exports : List ExportValue → SectionValue
  start : ℕ → SectionValue
  elements : List ElementValue → SectionValue
  bodies : List (List BodyInstruction) → SectionValue

abbrev pub id_of : SectionValue → SectionId
id_of (custom xs) = id.Custom
id_of (types ts) = id.Type_
id_of (imports is) = id.Import
id_of (functions fs) = id.Function
id_of (tables ts) = id.Table
id_of (memories ms) = id.Memory
id_of (globals gs) = id.Global
id_of (exports es) = id.Export
id_of (start f) = id.Start
id_of (elements es) = id.Element
id_of (bodies bs) = id.Code

-- ---- what a section holds, and nothing where it holds something else

abbrev pub custom_in : SectionValue → List ℕ
custom_in (custom xs) = xs
custom_in _ = []

abbrev pub types_in : SectionValue → List FuncTypeValue
types_in (types ts) = ts
types_in _ = []

abbrev pub imports_in : SectionValue → List ImportValue
imports_in (imports is) = is
imports_in _ = []

abbrev pub functions_in : SectionValue → List ℕ
functions_in (functions fs) = fs
functions_in _ = []

abbrev pub tables_in : SectionValue → List SlotTable
tables_in (tables ts) = ts
tables_in _ = []

abbrev pub memories_in : SectionValue → List Limits
memories_in (memories ms) = ms
memories_in _ = []

abbrev pub globals_in : SectionValue → List SlotGlobal
globals_in (globals gs) = gs
globals_in _ = []

abbrev pub exports_in : SectionValue → List ExportValue
exports_in (exports es) = es
exports_in _ = []

abbrev pub starts_in : SectionValue → List ℕ
starts_in (start f) = f ∷ []
starts_in _ = []

abbrev pub start_in : SectionValue → ℕ
start_in (start f) = f
start_in _ = 0

abbrev pub elements_in : SectionValue → List ElementValue
elements_in (elements es) = es
elements_in _ = []

abbrev pub bodies_in : SectionValue → List (List BodyInstruction)
bodies_in (bodies bs) = bs
bodies_in _ = []

-- ---- sections

-- a section by its sort, behind its byte; data have none
abbrev pub whole_section : SectionId → Syntax unbounded Spaces SectionValue
whole_section id.Custom = do
  x ← (λ v. ([], custom_in v)) ◂ sized (keeping (begins some_name))
  gives (custom x.1)
whole_section id.Type_ = do
  ts ← types_in ◂ sized (exactly (vec func_type))
  gives (types ts)
whole_section id.Import = do
  is ← imports_in ◂ sized (exactly (vec import_entry))
  gives (imports is)
whole_section id.Function = do
  fs ← functions_in ◂ sized (exactly (vec type_index))
  gives (functions fs)
whole_section id.Table = do
  ts ← tables_in ◂ sized (exactly (vec slot_table))
  gives (tables ts)
whole_section id.Memory = do
  ms ← memories_in ◂ sized (exactly (vec limits))
  gives (memories ms)
whole_section id.Global = do
  gs ← globals_in ◂ sized (exactly (vec slot_global))
  gives (globals gs)
whole_section id.Export = do
  es ← exports_in ◂ sized (exactly (vec export_entry))
  gives (exports es)
whole_section id.Start = do
  f ← start_in ◂ sized (exactly (index (λ there. there.functions)))
  gives (start f)
whole_section id.Element = do
  es ← elements_in ◂ sized (exactly (vec element))
  gives (elements es)
whole_section id.Code = do
  bs ← bodies_in ◂ sized (exactly (vec (sized body)))
  gives (bodies bs)
whole_section id.Data = refuses rules.Unsupported
whole_section id.DataCount = refuses rules.Unsupported

-- ---- what is there behind a section

abbrev pub is_of : ExportKind → ImportValue → Bool
is_of k i = kind_byte (kind_of_import i.ty) == kind_byte k

abbrev pub imported : ExportKind → List ImportValue → ℕ
imported k is = length (filter (is_of k) is)

abbrev pub spaces_with : Spaces → SectionValue → Spaces
spaces_with there (types ts) = record there { types = there.types + length ts }
spaces_with there (imports is) = record there {
  functions = there.functions + imported kinds.Func is;
  tables = there.tables + imported kinds.Table is;
  memories = there.memories + imported kinds.Memory is;
  globals = there.globals + imported kinds.Global is;
}
spaces_with there (functions fs) = record there { functions = there.functions + length fs }
spaces_with there (tables ts) = record there { tables = there.tables + length ts }
spaces_with there (memories ms) = record there { memories = there.memories + length ms }
spaces_with there (globals gs) = record there { globals = there.globals + length gs }
spaces_with there _ = there

abbrev pub progress_with : Progress → SectionValue → Progress
progress_with p s = record { spaces = spaces_with p.spaces s; rank = max p.rank (rank_of (id_of s)) }

abbrev pub behind : Result SectionId Rule → Syntax unbounded Progress SectionValue
behind (Err rule) = refuses rule
behind (Ok i) = do
  order ← (λ _. tt {0}) ◂ tested rules.Order (λ p _. is_in_order i p) (gives (tt {0}))
  where_known (λ p. p.spaces) (whole_section i)

unfoldable pub next : ℕ → Syntax unbounded Progress SectionValue
next b = behind (section_id_of b)

abbrev pub byte_of : SectionValue → ℕ
byte_of s = section_byte (id_of s)

unfoldable pub file : Syntax bounded Progress (List SectionValue)
file = do
  h ← (λ _. header) ◂ tested rules.Header (λ _ xs. bytes_eq xs header) (some_bytes 8)
  steps progress_with byte_of next

-- ---- the same of what the code has

abbrev pub section_value : Section → SectionValue
section_value (code.Custom xs) = custom xs.now
section_value (code.Types ts) = types (map func_type_value ts.items)
section_value (code.Imports is) = imports (map import_value is.items)
section_value (code.Functions fs) = functions (map type_index_value fs.items)
section_value (code.Tables ts) = tables (map (λ t. t) ts.items)
section_value (code.Memories ms) = memories (map (λ m. m) ms.items)
section_value (code.Globals gs) = globals (map (λ g. g) gs.items)
section_value (code.Exports es) = exports (map export_value es.items)
section_value (code.Start f) = start f
section_value (code.Elements es) = elements (map element_value es.items)
section_value (code.Bodies bs) = bodies (map (λ b. body_value b.0) bs.items)
