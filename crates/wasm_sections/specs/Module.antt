-- Core modules as bytes (WebAssembly Core, Binary Format, Modules).
use Rattle.std.specs.Prelude.{ℕ, ◌+◌, max, List, [], ◌∷◌, map, length, filter, Result, Ok, Err, Bool, true, false, nat_lt, ◌==◌, ◌||◌, if◌then◌else◌, bytes_eq, ◌<◌, ◌^◌}
use Rattle.binary_grammar.specs.declared.fault.ReadError.{ReadError}
use Rattle.binary_grammar.specs.declared.fault.ReadError.TheVariants as errors
use Rattle.binary_grammar.specs.declared.fault.Rule.{Rule}
use Rattle.binary_grammar.specs.declared.fault.Rule.TheVariants as rules
use Rattle.binary_grammar.specs.Syntax.{Syntax, unbounded, bounded, ◌◂◌, ◌>>=◌, some_name, some_bytes, gives, refuses, tested, vec, growing, sized, where_known, exactly, begins, everything, keeping, steps, meaning}
use Rattle.wasm_types.specs.declared.spaces.Spaces.{Spaces}
use Rattle.wasm_types.specs.declared.types.TableType.{TableType}
use Rattle.wasm_types.specs.declared.types.Limits.{Limits}
use Rattle.wasm_types.specs.declared.types.ExportKind.{ExportKind}
use Rattle.wasm_types.specs.declared.types.ExportKind.TheVariants as kinds
use Rattle.wasm_types.specs.Types.{kind_byte, kind_of_entity, FuncTypeValue, func_type_value, func_type, table_type, limits}
use Rattle.wasm_types.specs.Entries.{ImportValue, ExportValue, GlobalValue, import_value, export_value, global_value, type_index_value, import_entry, export_entry, global_entry, one_more_global, type_index}
use Rattle.wasm_sections.specs.declared.section.Holding.{Holding as Held}
use Rattle.wasm_sections.specs.declared.section.Holding.TheVariants as code
use Rattle.wasm_sections.specs.declared.section.Section.{Section}
use Rattle.wasm_sections.specs.declared.section.SectionId.{SectionId}
use Rattle.wasm_sections.specs.declared.sections.Progress.{Progress}
use Rattle.wasm_sections.specs.declared.section.SectionId.TheVariants as id

-- what a section holds, where that is read; the others are framed alone
pub data Holding : Type 0 where
  types : List FuncTypeValue → Holding
  imports : List ImportValue → Holding
  functions : List ℕ → Holding
  tables : List TableType → Holding
  memories : List Limits → Holding
  globals : List GlobalValue → Holding
  exports : List ExportValue → Holding
  framed : Holding

pub record SectionValue : Type 0 where
  pub id : SectionId
  pub content : List ℕ
  pub holds : Holding

unfoldable pub section_id_of : ℕ → Result SectionId Rule
section_id_of b =
    if b == 0 then Ok id.Custom else if b == 1 then Ok id.Type_ else
    if b == 2 then Ok id.Import else if b == 3 then Ok id.Function else
    if b == 4 then Ok id.Table else if b == 5 then Ok id.Memory else
    if b == 6 then Ok id.Global else if b == 7 then Ok id.Export else
    if b == 8 then Ok id.Start else if b == 9 then Ok id.Element else
    if b == 10 then Ok id.Code else if b == 11 then Ok id.Data else
    if b == 12 then Ok id.DataCount else
    if b == 13 then Err rules.Unsupported else Err rules.Tag

abbrev pub section_byte : SectionId → ℕ
section_byte id.Custom = 0
section_byte id.Type_ = 1
section_byte id.Import = 2
section_byte id.Function = 3
section_byte id.Table = 4
section_byte id.Memory = 5
section_byte id.Global = 6
section_byte id.Export = 7
section_byte id.Start = 8
section_byte id.Element = 9
section_byte id.Code = 10
section_byte id.Data = 11
section_byte id.DataCount = 12

-- the order: the data count stands in front of the code, and custom sections anywhere
abbrev pub rank_of : SectionId → ℕ
rank_of id.Code = 11
rank_of id.Data = 12
rank_of id.DataCount = 10
rank_of i = section_byte i

-- ---- what is there behind a section

-- an import of this sort
abbrev pub is_of : ExportKind → ImportValue → Bool
is_of k i = kind_byte (kind_of_entity i.ty) == kind_byte k

abbrev pub imported : ExportKind → List ImportValue → ℕ
imported k is = length (filter (is_of k) is)

abbrev pub spaces_with : Spaces → Holding → Spaces
spaces_with there (types ts) = record there { types = there.types + length ts }
spaces_with there (imports is) = record there {
  functions = there.functions + imported kinds.Func is;
  tables = there.tables + imported kinds.Table is;
  memories = there.memories + imported kinds.Memory is;
  globals = there.globals + imported kinds.Global is;
}
spaces_with there (functions fs) = record there { functions = there.functions + length fs }
spaces_with there (tables ts) = record there { tables = there.tables + length ts }
spaces_with there (memories ms) = record there { memories = there.memories + length ms }
spaces_with there (globals gs) = record there { globals = there.globals + length gs }
spaces_with there (exports es) = there
spaces_with there framed = there

-- 64 bits say each count
abbrev pub Fits : Spaces → Type 0
Fits there = (there.types < 2 ^ 64) × (there.functions < 2 ^ 64) × (there.tables < 2 ^ 64) × (there.memories < 2 ^ 64) × (there.globals < 2 ^ 64)

abbrev pub progress_with : Progress → SectionValue → Progress
progress_with p s = record { spaces = spaces_with p.spaces s.holds; rank = max p.rank (rank_of s.id) }

-- ---- sections

abbrev pub types_in : Holding → List FuncTypeValue
types_in (types ts) = ts
types_in _ = []

abbrev pub imports_in : Holding → List ImportValue
imports_in (imports is) = is
imports_in _ = []

abbrev pub functions_in : Holding → List ℕ
functions_in (functions fs) = fs
functions_in _ = []

abbrev pub tables_in : Holding → List TableType
tables_in (tables ts) = ts
tables_in _ = []

abbrev pub memories_in : Holding → List Limits
memories_in (memories ms) = ms
memories_in _ = []

abbrev pub globals_in : Holding → List GlobalValue
globals_in (globals gs) = gs
globals_in _ = []

abbrev pub exports_in : Holding → List ExportValue
exports_in (exports es) = es
exports_in _ = []

abbrev pub section_of : SectionId → Holding → List ℕ → SectionValue
section_of i holds content = record { id = i; content = content; holds = holds }

abbrev pub is_framed : SectionId → Bool
is_framed id.Start = true
is_framed id.Element = true
is_framed id.Code = true
is_framed id.Data = true
is_framed id.DataCount = true
is_framed _ = false

-- a section by its sort, behind its byte
abbrev pub whole_section : SectionId → Syntax unbounded Spaces SectionValue
whole_section id.Custom = do
  x ← (λ v. ([], v.content)) ◂ sized (keeping (begins some_name))
  gives (section_of id.Custom framed x.1)
whole_section id.Type_ = do
  x ← (λ v. (types_in v.holds, v.content)) ◂ sized (keeping (exactly (vec func_type)))
  gives (section_of id.Type_ (types x.0) x.1)
whole_section id.Import = do
  x ← (λ v. (imports_in v.holds, v.content)) ◂ sized (keeping (exactly (vec import_entry)))
  gives (section_of id.Import (imports x.0) x.1)
whole_section id.Function = do
  x ← (λ v. (functions_in v.holds, v.content)) ◂ sized (keeping (exactly (vec type_index)))
  gives (section_of id.Function (functions x.0) x.1)
whole_section id.Table = do
  x ← (λ v. (tables_in v.holds, v.content)) ◂ sized (keeping (exactly (vec table_type)))
  gives (section_of id.Table (tables x.0) x.1)
whole_section id.Memory = do
  x ← (λ v. (memories_in v.holds, v.content)) ◂ sized (keeping (exactly (vec limits)))
  gives (section_of id.Memory (memories x.0) x.1)
whole_section id.Global = do
  x ← (λ v. (globals_in v.holds, v.content)) ◂ sized (keeping (exactly (growing one_more_global global_entry)))
  gives (section_of id.Global (globals x.0) x.1)
whole_section id.Export = do
  x ← (λ v. (exports_in v.holds, v.content)) ◂ sized (keeping (exactly (vec export_entry)))
  gives (section_of id.Export (exports x.0) x.1)
whole_section i = do
  xs ← (λ v. v.content) ◂ sized everything
  gives (section_of i framed xs)

-- custom sections stand anywhere, the others behind lower ones alone
abbrev pub is_in_order : SectionId → Progress → Bool
is_in_order i p = (rank_of i == 0) || nat_lt p.rank (rank_of i)

-- what stands behind a section's byte
abbrev pub behind : Result SectionId Rule → Syntax unbounded Progress SectionValue
behind (Err rule) = refuses rule
behind (Ok i) = do
  order ← (λ _. tt {0}) ◂ tested rules.Order (λ p _. is_in_order i p) (gives (tt {0}))
  where_known (λ p. p.spaces) (whole_section i)

unfoldable pub next : ℕ → Syntax unbounded Progress SectionValue
next b = behind (section_id_of b)

abbrev pub byte_of : SectionValue → ℕ
byte_of s = section_byte s.id

unfoldable pub sections : Syntax bounded Progress (List SectionValue)
sections = steps progress_with byte_of next

abbrev pub header : List ℕ
header = 0 ∷ 0x61 ∷ 0x73 ∷ 0x6d ∷ 1 ∷ 0 ∷ 0 ∷ 0 ∷ []

unfoldable pub file : Syntax bounded Progress (List SectionValue)
file = do
  h ← (λ _. header) ◂ tested rules.Header (λ _ xs. bytes_eq xs header) (some_bytes 8)
  sections

-- ---- the same of what the code has

abbrev pub holding_value : Held → Holding
holding_value (code.Types ts) = types (map func_type_value ts.items)
holding_value (code.Imports is) = imports (map import_value is.items)
holding_value (code.Functions fs) = functions (map type_index_value fs.items)
holding_value (code.Tables ts) = tables (map (λ t. t) ts.items)
holding_value (code.Memories ms) = memories (map (λ m. m) ms.items)
holding_value (code.Globals gs) = globals (map global_value gs.items)
holding_value (code.Exports es) = exports (map export_value es.items)
holding_value code.Framed = framed

abbrev pub section_value : Section → SectionValue
section_value s = record { id = s.id; content = s.content.now; holds = holding_value s.holds }

-- ---- modules

abbrev pub no_spaces : Spaces
no_spaces = record { types = 0; functions = 0; tables = 0; memories = 0; globals = 0 }

-- where no section stands yet
abbrev pub nothing : Progress
nothing = record { spaces = no_spaces; rank = 0 }

-- the bytes are a module of these sections
abbrev pub AreSections : List ℕ → List SectionValue → Type 0
AreSections bytes ss = (meaning file nothing).form bytes ss

-- why bytes aren't read: want of memory, or the parts of a module stand in them up to where they break this rule
abbrev pub IsSectionsFault : List ℕ → ReadError → Type 0
IsSectionsFault bytes errors.Memory = Unit {0}
IsSectionsFault bytes (errors.Malformed f) = (meaning file nothing).breaks bytes f
