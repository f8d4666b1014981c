-- The link table: what each core import, and each function that the world exports, ends at (Component Model, Canonical ABI, canon lift and
-- canon lower; Build Targets).
use Rattle.std.specs.Prelude.{◌≡◌, ℕ, false, List, map, slice_get, Option, Some, None}
use Rattle.std.specs.List.{AllByRecursion as Each}
use Rattle.wasm_types.specs.Entries.{ImportValue, ExportValue}
use Rattle.wasm_format.specs.Module.{imported_type, exported_type}
use Rattle.wit_types.specs.declared.function.Function.{Function}
use Rattle.wit_types.specs.declared.mangling.AbiVariant.TheVariants.{GuestImport, GuestExport}
use Rattle.wit_types.specs.declared.world_key.WorldKey.{WorldKey}
use Rattle.wit_core_names.specs.Items.{CoreExport}
use Rattle.wit_core_names.specs.declared.items.WasmExportKind.TheVariants.{Normal}
use Rattle.canonical_options.specs.Passed.flat_types-Signature.{RequiredValue}
use Rattle.linked_types.specs.Reached.{MayBeLinked}
use Rattle.core_links.specs.Imports.{RepeatsPair}
use Rattle.link_table.specs.Linking.{Linking, types_of, StandsForFunction, exported_functions}
use Rattle.link_table.specs.Types.{Requires, IsOfType}
use Rattle.link_table.specs.Options.{NamesOf, IsThere, asks, Options, AreOptionsOf}
use Rattle.link_table.specs.Coming.{IsToCome}

-- ---- imports

-- a core import, and the function for which it stands: of the interface with that key, or of the world itself
pub record ImportEntry : Type 0 where
  pub import : ImportValue
  pub key : Option WorldKey
  pub function : Function

-- it has the core type of the function, which asks for no options
pub record IsImportEntry (l : Linking) (e : ImportEntry) : Type 0 where
  pub stands : StandsForFunction l.names e.import e.key e.function
  pub typed : IsOfType (types_of l) GuestImport e.function (imported_type l.main e.import.ty)
  pub plain : (r : RequiredValue) → Requires (types_of l) GuestImport e.function r → asks r ≡ false

-- ---- exports

-- a function that the world exports itself, the name of the core export that stands for it, and its options
pub record ExportEntry : Type 0 where
  pub function : Function
  pub name : List ℕ
  pub options : Options

-- one core export stands for it, and that has the core type of the function; the options that it asks for are there
pub record IsExportEntry (l : Linking) (e : ExportEntry) : Type 0 where
  pub place : ℕ
  pub is : IsThere l (NamesOf l.names (CoreExport.func None e.function Normal)) place
  pub export : ExportValue
  pub there : slice_get l.main.exports place ≡ Some export
  pub named : e.name ≡ export.name
  pub typed : IsOfType (types_of l) GuestExport e.function (exported_type l.main export.kind export.index)
  pub options : AreOptionsOf l GuestExport e.function e.options

-- ---- the table

pub record Table : Type 0 where
  pub imports : List ImportEntry
  pub exports : List ExportEntry

-- there is an entry for each core import and for each function that the world exports, in their order; all are functions that may be
-- linked, and nothing is asked for that is still to come
pub record IsTable (l : Linking) (t : Table) : Type 0 where
  pub imports : map (λ (e : ImportEntry). e.import) t.imports ≡ l.main.imports
  pub imports_are : Each (IsImportEntry l) t.imports
  pub exports : map (λ (e : ExportEntry). e.function) t.exports ≡ exported_functions l.names.world
  pub exports_are : Each (IsExportEntry l) t.exports
  pub distinct : RepeatsPair l.main.imports → ⊥
  pub linked : MayBeLinked (types_of l) (map (λ (e : ImportEntry). e.function) t.imports)
  pub linked_exports : MayBeLinked (types_of l) (exported_functions l.names.world)
  pub here : IsToCome l → ⊥
