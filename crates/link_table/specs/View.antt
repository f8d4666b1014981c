-- What the values of the code stand for.
use Rattle.std.specs.Prelude.{◌≡◌, ℕ, List, slice_get, Option, Some, option_map, option_and_then}
use Rattle.wasm_types.specs.Entries.{ExportValue}
use Rattle.wit_types.specs.declared.function.Function.{Function}
use Rattle.core_links.specs.View.{AreLinksOf}
use Rattle.link_table.specs.Linking.{Linking}
use Rattle.link_table.specs.Options.{Options}
use Rattle.link_table.specs.Pairwise.{Pairwise}
use Rattle.link_table.specs.Table.{ExportEntry, IsExportEntry, Table, IsTable}
use Rattle.link_table.specs.declared.options.LinkOptions.{LinkOptions}
use Rattle.link_table.specs.declared.exports.ExportLink.{ExportLink}
use Rattle.link_table.specs.declared.table.LinkTable.{LinkTable}

-- the name of the core export at a place
abbrev pub name_at : List ExportValue → ℕ → Option (List ℕ)
name_at es place = option_map (λ (e : ExportValue). e.name) (slice_get es place)

abbrev pub options_value : List ExportValue → LinkOptions → Options
options_value es o = record { memory = option_and_then (name_at es) o.memory; realloc = option_and_then (name_at es) o.realloc; encoding = o.encoding }

-- the places of a link are those of what an entry names
pub record IsLinkOf (es : List ExportValue) (x : ExportLink) (e : ExportEntry) : Type 0 where
  pub name : name_at es x.«export» ≡ Some e.name
  pub options : options_value es x.options ≡ e.options

-- a function has an entry, of which this is the link
pub record IsExportLink (l : Linking) (f : Function) (x : ExportLink) : Type 0 where
  pub entry : ExportEntry
  pub is_of : entry.function ≡ f
  pub is_entry : IsExportEntry l entry
  pub places : IsLinkOf l.main.exports x entry

-- one link for each function that the world exports
abbrev pub AreExportLinks : Linking → List Function → List ExportLink → Type 0
AreExportLinks l fs xs = Pairwise (IsExportLink l) fs xs

-- these are the links of entries, in their order
abbrev pub AreLinksOfEntries : List ExportValue → List ExportEntry → List ExportLink → Type 0
AreLinksOfEntries es entries xs = Pairwise (λ e x. IsLinkOf es x e) entries xs

-- it is the link table
pub record IsTableOf (l : Linking) (t : LinkTable) : Type 0 where
  pub table : Table
  pub is : IsTable l table
  pub imports : AreLinksOf l.names l.main.imports t.imports
  pub exports : AreLinksOfEntries l.main.exports table.exports t.exports.items
