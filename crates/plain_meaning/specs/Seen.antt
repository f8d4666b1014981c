-- What indices stand for by the few definitions that the linker writes, seen among what they stand for by all definitions (Component Model,
-- Explainer, Index Spaces, Component Definitions).
use Rattle.std.specs.Prelude.{◌≡◌, ℕ, List, [], map, Option, Some, None, option_map}
use Rattle.std.specs.List.{AllZip}
use Rattle.wasm_types.specs.declared.types.ExportKind.TheVariants as kinds
use Rattle.plain_worlds.specs.World.{FunctionTypeValue}
use Rattle.wit_component.specs.Meaning as plain
use Rattle.wit_component.specs.Meaning.{ComponentFunction, CoreFunction, ImportEntry, ExportEntry}
use Rattle.type_meaning.specs.Items.{Origin, Item, nothing, a_type, a_function, from_import, from_lift, Entry}
use Rattle.type_meaning.specs.Scope.{import_label}
use Rattle.component_meaning.specs.Core as cores
use Rattle.component_meaning.specs.Core.{CoreItem, of_function}
use Rattle.component_meaning.specs.Spaces as full
use Rattle.component_meaning.specs.Spaces.{if_of_kind}
use Rattle.plain_meaning.specs.Trees.{function_tree}

-- ---- types and functions

-- a type is the tree of a function (Explainer, Type Definitions)
abbrev pub type_item : FunctionTypeValue → Item
type_item t = a_type (function_tree t)

-- a function is an import of the component itself, or a lift without options (Explainer, Import and Export Definitions; Canonical
-- Definitions)
abbrev pub origin_seen : plain.Origin → Origin
origin_seen (plain.of_import name) = from_import (import_label name)
origin_seen (plain.of_lift c) = from_lift c []

-- an index that stands for nothing does so in both
abbrev pub function_item : Option ComponentFunction → Item
function_item None = nothing
function_item (Some f) = a_function (origin_seen f.origin) (function_tree f.ty)

-- what is imported under a name is the import of that name, if it has a type (Explainer, Import and Export Definitions)
abbrev pub import_item : List ℕ → Option FunctionTypeValue → Item
import_item name None = nothing
import_item name (Some t) = a_function (from_import (import_label name)) (function_tree t)

-- under its name (Explainer, Import and Export Definitions)
abbrev pub import_entry : ImportEntry → Entry
import_entry e = record { name = e.name; item = import_item e.name e.item }

-- what is exported under a name (Explainer, Import and Export Definitions)
abbrev pub export_entry : ExportEntry → Entry
export_entry e = record { name = e.name; item = function_item e.item }

-- ---- core functions

-- a core function is exported by an instance, or is a lowering without options (Explainer, Canonical Definitions)
abbrev pub core_origin_seen : plain.CoreOrigin → cores.CoreOrigin
core_origin_seen (plain.of_export instance name) = cores.of_export instance name
core_origin_seen (plain.of_lower f) = cores.of_lower f []

-- and an item of the sort of functions (Explainer, Core Definitions)
abbrev pub core_item : CoreFunction → CoreItem
core_item f = record { origin = core_origin_seen f.origin; ty = of_function f.ty }

-- an export has the same name; it is a function just where that is known of it, and then that one (WebAssembly Core, Modules)
pub record IsEntrySeenAs (e : plain.CoreEntry) (x : cores.CoreEntry) : Type 0 where
  pub name : x.name ≡ e.name
  pub item : if_of_kind kinds.Func x.item ≡ option_map core_item e.item

-- what a core instance is made of, with what it is given (Explainer, Core Instance Definitions)
abbrev pub source_seen : plain.Source → cores.Source
source_seen (plain.of_main given) = cores.of_main (map (option_map core_item) given)
source_seen plain.of_unknown = cores.of_unknown
source_seen plain.of_items = cores.of_items

-- a core instance is made of the same, and exports the same functions (Explainer, Core Instance Definitions)
pub record IsInstanceSeenAs (i : plain.CoreInstance) (j : cores.CoreInstance) : Type 0 where
  pub source : j.source ≡ source_seen i.source
  pub exports : AllZip IsEntrySeenAs i.exports j.exports

-- ---- all index spaces

-- each index stands for the same; there are no instances of components, and of core items functions alone (Explainer, Index Spaces)
pub record IsSeenAs (s : plain.Spaces) (t : full.Spaces) : Type 0 where
  pub modules : t.modules ≡ s.modules
  pub types : t.scope.types ≡ map type_item s.types
  pub functions : t.scope.functions ≡ map function_item s.functions
  pub instances : t.scope.instances ≡ []
  pub imports : t.scope.imports ≡ map import_entry s.imports
  pub exports : t.scope.exports ≡ map export_entry s.exports
  pub core_instances : AllZip IsInstanceSeenAs s.instances t.core_instances
  pub core_functions : t.core_functions ≡ map (option_map core_item) s.core_functions
  pub core_tables : t.core_tables ≡ []
  pub core_memories : t.core_memories ≡ []
  pub core_globals : t.core_globals ≡ []
