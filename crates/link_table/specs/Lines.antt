-- The lines of a link table, in order (Component Model, Canonical ABI, canon lift and canon lower).
use Rattle.std.specs.Prelude.{◌≡◌, ℕ, List, ◌++◌, Option, Some, None, option_map, codes, string_bytes, IsPermutation, IsSorted}
use Rattle.wasm_types.specs.Entries.{ImportValue}
use Rattle.wit_types.specs.Package.{interface_text}
use Rattle.wit_types.specs.declared.function.Function.{Function}
use Rattle.wit_types.specs.declared.world_key.WorldKey.{WorldKey}
use Rattle.wit_names.specs.Names.{IsKeyText}
use Rattle.link_lines.specs.Line.{LinkValue}
use Rattle.link_lines.specs.Order.{line_cmp}
use Rattle.link_lines.specs.declared.line.LinkKind.TheVariants.{Lower, Core}
use Rattle.link_lines.specs.declared.line.LinkSide.TheVariants.{Import, Export}
use Rattle.core_links.specs.Names.{Names}
use Rattle.link_table.specs.Linking.{Linking}
use Rattle.link_table.specs.Options.{Options}
use Rattle.link_table.specs.Pairwise.{Pairwise}
use Rattle.link_table.specs.Table.{ImportEntry, ExportEntry, Table}

-- the world itself
abbrev pub root : List ℕ
root = codes "$root"

-- the text of a key, and of the world itself
abbrev pub IsPlace : Names → Option WorldKey → List ℕ → Type 0
IsPlace n None text = text ≡ root
IsPlace n (Some key) text = IsKeyText interface_text n.known.packages n.known.interfaces key (Some text)

-- a core import, by its two texts, that ends in the lowering of a function, which has this name in a place; it has no options
abbrev pub import_line : ImportValue → List ℕ → List ℕ → LinkValue
import_line i place function = record {
  side = Import;
  owner = None;
  «module» = Some i.place;
  name = Some i.name;
  kind = Lower;
  place = Some place;
  item = Some function;
  memory = None;
  realloc = None;
  encoding = None;
  post_return = None;
  hook = None;
}

abbrev pub IsImportLine : Linking → ImportEntry → LinkValue → Type 0
IsImportLine l e line = (place : List ℕ) × IsPlace l.names e.key place × (line ≡ import_line e.import place (string_bytes e.function.name))

-- ---- exports

abbrev pub memory_text : Option (List ℕ) → Option (List ℕ)
memory_text (Some name) = Some (codes "memory")
memory_text None = None

-- what the main module exports under a name
abbrev pub of_main : List ℕ → List ℕ
of_main name = codes "main=" ++ name

-- a function that the world exports, that ends at a core export of the main module, with these options
abbrev pub export_line : Function → List ℕ → Options → LinkValue
export_line f name o = record {
  side = Export;
  owner = None;
  «module» = Some root;
  name = Some (string_bytes f.name);
  kind = Core;
  place = Some (codes "main");
  item = Some name;
  memory = memory_text o.memory;
  realloc = option_map of_main o.realloc;
  encoding = o.encoding;
  post_return = None;
  hook = None;
}

abbrev pub IsExportLine : ExportEntry → LinkValue → Type 0
IsExportLine e line = line ≡ export_line e.function e.name e.options

abbrev pub no_options : Options
no_options = record { memory = None; realloc = None; encoding = None }

-- the lines of entries stand behind others
pub record AreAdded (entries : List ExportEntry) (old new : List LinkValue) : Type 0 where
  pub lines : List LinkValue
  pub lines_are : Pairwise IsExportLine entries lines
  pub are : new ≡ old ++ lines

-- ---- all

-- the lines of the entries, those of imports first
pub record AreEntryLines (l : Linking) (t : Table) (lines : List LinkValue) : Type 0 where
  pub imports : List LinkValue
  pub exports : List LinkValue
  pub imports_are : Pairwise (IsImportLine l) t.imports imports
  pub exports_are : Pairwise IsExportLine t.exports exports
  pub are : lines ≡ imports ++ exports

-- in order
pub record AreLines (l : Linking) (t : Table) (lines : List LinkValue) : Type 0 where
  pub entries : List LinkValue
  pub entries_are : AreEntryLines l t entries
  pub items : IsPermutation entries lines
  pub order : IsSorted line_cmp lines
