-- The link table: an entry for each function that a core import may stand for, and for each core export that may stand for an exported
-- function, which is one for each where the input is linked (Canonical ABI, canon lift and canon lower).
use Rattle.std.specs.Prelude.{◌≡◌, ℕ, List, [], ◌∷◌, ◌++◌, map, filter, flat_map, Option, Some, None, Bool, false, bytes_eq}
use Rattle.std.specs.List.{AllByRecursion as Each, list_any}
use Rattle.wasm_types.specs.Types.{FuncTypeValue}
use Rattle.plain_worlds.specs.World.{FunctionItem}
use Rattle.wit_component.specs.Flat.{flat}
use Rattle.wit_component.specs.CoreNames.{is_import_name, is_export_name, is_memory_name}
use Rattle.wit_component.specs.Linking.{CoreImport, CoreExport, Linking}
use Rattle.link_lines.specs.Line.{LinkValue}
use Rattle.wit_component.specs.Line.{import_line, export_line}

-- what a line says, with the core type of the function that is linked, and with that of the core import, or of the core export, if it is a
-- function
pub record Entry : Type 0 where
  pub line : LinkValue
  pub core_type : FuncTypeValue
  pub module_type : Option FuncTypeValue

-- ---- core imports

-- the functions that one may stand for
abbrev pub imported_by : Linking → CoreImport → List FunctionItem
imported_by l i = filter (λ f. is_import_name l.rejects_legacy i.place i.name f.name) l.world.imports

abbrev pub import_entry : CoreImport → FunctionItem → Entry
import_entry i f = record { line = import_line i.place i.name f.name; core_type = flat f.ty; module_type = i.ty }

abbrev pub entries_of_import : Linking → CoreImport → List Entry
entries_of_import l i = map (import_entry i) (imported_by l i)

abbrev pub import_entries : Linking → List Entry
import_entries l = flat_map (entries_of_import l) l.main.imports

-- ---- exported functions

-- the core exports that may stand for one
abbrev pub exported_by : Linking → FunctionItem → List CoreExport
exported_by l f = filter (λ e. is_export_name l.rejects_legacy f.name e.name) l.main.exports

abbrev pub export_entry : FunctionItem → CoreExport → Entry
export_entry f e = record { line = export_line f.name e.name; core_type = flat f.ty; module_type = e.ty }

abbrev pub entries_of_export : Linking → FunctionItem → List Entry
entries_of_export l f = map (export_entry f) (exported_by l f)

abbrev pub export_entries : Linking → List Entry
export_entries l = flat_map (entries_of_export l) l.world.exports

-- ---- the table

abbrev pub table : Linking → List Entry
table l = import_entries l ++ export_entries l

-- the core types agree
abbrev pub IsTyped : Entry → Type 0
IsTyped e = e.module_type ≡ Some e.core_type

-- this is the one entry, and its core types agree
pub record IsEntry (entries : List Entry) (e : Entry) : Type 0 where
  pub only : entries ≡ e ∷ []
  pub typed : IsTyped e

-- a core export's text that is the memory's too
abbrev pub is_of_memory : Bool → Option (List ℕ) → Bool
is_of_memory rejects None = false
is_of_memory rejects (Some name) = is_memory_name rejects name

-- the entry of an exported function; its text has no other meaning
pub record IsExportEntry (l : Linking) (f : FunctionItem) (e : Entry) : Type 0 where
  pub entry : IsEntry (entries_of_export l f) e
  pub one_meaning : is_of_memory l.rejects_legacy e.line.item ≡ false

-- each has its entry
pub record IsLinked (l : Linking) : Type 0 where
  pub imports : Each (λ i. (e : Entry) × IsEntry (entries_of_import l i) e) l.main.imports
  pub exports : Each (λ f. (e : Entry) × IsExportEntry l f e) l.world.exports

-- ---- what the table needs: the imported functions that its entries name

abbrev pub is_item : List ℕ → Option (List ℕ) → Bool
is_item name None = false
is_item name (Some item) = bytes_eq name item

abbrev pub is_needed : Linking → FunctionItem → Bool
is_needed l f = list_any (λ (e : Entry). is_item f.name e.line.item) (import_entries l)

abbrev pub needed : Linking → List FunctionItem
needed l = filter (is_needed l) l.world.imports
