-- What core modules may import and export of a world, in its order (Component Model, Build Targets).
use Rattle.std.specs.Prelude.{◌≡◌, ◌⊎◌, ℕ, Bool, true, false, List, [], ◌∷◌, ◌++◌, Option, Some, None, String, map, filter, flat_map, string_bytes, slice_get}
use Rattle.std.specs.declared.alloc.Global.{Global}
use Rattle.wit_types.specs.declared.function.Function.{Function}
use Rattle.wit_types.specs.declared.interface.Interface.{Interface}
use Rattle.wit_types.specs.declared.interface.TypeDef.{TypeDef}
use Rattle.wit_types.specs.declared.kind.TypeDefKind.{TypeDefKind}
use Rattle.wit_types.specs.declared.kind.TypeDefKind.TheVariants as kind
use Rattle.wit_types.specs.declared.mangling.Mangling.TheVariants.{Standard32, Legacy}
use Rattle.wit_types.specs.declared.world.World.{World}
use Rattle.wit_types.specs.declared.world.WorldItem.{WorldItem}
use Rattle.wit_types.specs.declared.world.WorldItem.TheVariants as item
use Rattle.wit_types.specs.declared.world_key.WorldKey.{WorldKey}
use Rattle.wit_core_tables.specs.declared.table.Meaning.{Meaning}
use Rattle.wit_core_tables.specs.declared.table.Meaning.TheVariants.{One, Ambiguous}
use Rattle.wit_core_names.specs.Exports.{IsExportName}
use Rattle.wit_core_names.specs.Imports.{IsImportName}
use Rattle.wit_core_names.specs.Items.{CoreImport, CoreExport}
use Rattle.wit_core_names.specs.Texts.{Known}
use Rattle.wit_core_names.specs.declared.items.ResourceIntrinsic.TheVariants.{ImportedDrop, ExportedDrop, ExportedNew, ExportedRep}
use Rattle.wit_core_names.specs.declared.items.WasmExportKind.TheVariants.{Normal, PostReturn}

-- ---- resources: types that define one; one that is used, or has another name, isn't

abbrev pub defines_resource : TypeDefKind → Bool
defines_resource kind.Resource = true
defines_resource _ = false

abbrev pub is_resource_def : Option TypeDef → Bool
is_resource_def None = false
is_resource_def (Some d) = defines_resource d.kind

abbrev pub Functions : Type 0
Functions = List (String Global × Function)

abbrev pub Types : Type 0
Types = List (String Global × ℕ)

module _ (k : Known) where
  abbrev pub is_resource : ℕ → Bool
  is_resource id = is_resource_def (slice_get k.types id)

  -- the resources among types, in their order
  abbrev pub resources : Types → List ℕ
  resources types = filter is_resource (map (λ e. e.1) types)

  -- ---- imports

  abbrev pub functions_of : Option WorldKey → Functions → List CoreImport
  functions_of key functions = map (λ (e : String Global × Function). CoreImport.func key e.1) functions

  abbrev pub drops_of : Option WorldKey → List ℕ → List CoreImport
  drops_of key ids = map (λ (r : ℕ). CoreImport.intrinsic key r ImportedDrop) ids

  -- the functions of an imported interface, and the drops of its resources
  abbrev pub of_imported_interface : WorldKey → Option Interface → List CoreImport
  of_imported_interface key None = []
  of_imported_interface key (Some d) = functions_of (Some key) d.functions.entries ++ drops_of (Some key) (resources d.types.entries)

  abbrev pub of_import : WorldKey → WorldItem → List CoreImport
  of_import key (item.Interface id stability span) = of_imported_interface key (slice_get k.interfaces id)
  of_import key (item.Function f) = CoreImport.func None f ∷ []
  of_import key (item.TypeItem id span) = drops_of None (filter is_resource (id ∷ []))

  -- what is done with a resource of an exported interface
  abbrev pub intrinsics_of : WorldKey → ℕ → List CoreImport
  intrinsics_of key r = CoreImport.intrinsic (Some key) r ExportedNew ∷ CoreImport.intrinsic (Some key) r ExportedRep ∷ CoreImport.intrinsic (Some key) r ExportedDrop ∷ []

  abbrev pub of_exported_interface : WorldKey → Option Interface → List CoreImport
  of_exported_interface key None = []
  of_exported_interface key (Some d) = flat_map (intrinsics_of key) (resources d.types.entries)

  abbrev pub of_exported : WorldKey → WorldItem → List CoreImport
  of_exported key (item.Interface id stability span) = of_exported_interface key (slice_get k.interfaces id)
  of_exported key (item.Function f) = []
  of_exported key (item.TypeItem id span) = []

  abbrev pub core_imports : World → List CoreImport
  core_imports w = flat_map (λ (e : WorldKey × WorldItem). of_import e.0 e.1) w.imports.entries ++ flat_map (λ (e : WorldKey × WorldItem). of_exported e.0 e.1) w.exports.entries

  -- ---- exports

  -- a function, and the one that is called when its results are read
  abbrev pub export_functions : Option WorldKey → Function → List CoreExport
  export_functions key f = CoreExport.func key f Normal ∷ CoreExport.func key f PostReturn ∷ []

  abbrev pub of_interface_export : WorldKey → Option Interface → List CoreExport
  of_interface_export key None = []
  of_interface_export key (Some d) =
      flat_map (λ (e : String Global × Function). export_functions (Some key) e.1) d.functions.entries ++ map (λ (r : ℕ). CoreExport.destructor key r) (resources d.types.entries)

  abbrev pub of_export : WorldKey → WorldItem → List CoreExport
  of_export key (item.Interface id stability span) = of_interface_export key (slice_get k.interfaces id)
  of_export key (item.Function f) = export_functions None f
  of_export key (item.TypeItem id span) = []

  -- what a module has once comes first
  abbrev pub core_exports : World → List CoreExport
  core_exports w = CoreExport.memory ∷ CoreExport.initialize ∷ CoreExport.realloc ∷ flat_map (λ (e : WorldKey × WorldItem). of_export e.0 e.1) w.exports.entries

  -- ---- names, in the spelling of the standard, and in the older one where that counts

  abbrev pub IsImportedAs : Bool → CoreImport → List ℕ → List ℕ → Type 0
  IsImportedAs legacy x module_text name = IsImportName Standard32 k x module_text name ⊎ ((legacy ≡ true) × IsImportName Legacy k x module_text name)

  abbrev pub IsExportedAs : Bool → CoreExport → List ℕ → Type 0
  IsExportedAs legacy x name = IsExportName Standard32 k x name ⊎ ((legacy ≡ true) × IsExportName Legacy k x name)

  module _ (w : World) (legacy : Bool) where
    -- a pair of texts stands for what is imported, by its place in that order
    abbrev pub ImportStandsFor : List ℕ → List ℕ → ℕ → Type 0
    ImportStandsFor module_text name i = (x : CoreImport) × (slice_get (core_imports w) i ≡ Some x) × IsImportedAs legacy x module_text name

    abbrev pub ExportStandsFor : List ℕ → ℕ → Type 0
    ExportStandsFor name i = (x : CoreExport) × (slice_get (core_exports w) i ≡ Some x) × IsExportedAs legacy x name

-- ---- what is read

-- nothing, the one thing for which it stands, or one of several; by places
pub record IsReadAs (StandsFor : ℕ → Type 0) (found : Option Meaning) : Type 0 where
  pub none : found ≡ None → (i : ℕ) → StandsFor i → ⊥
  pub one : (i : ℕ) → found ≡ Some (One i) → StandsFor i × ((j : ℕ) → StandsFor j → j ≡ i)
  pub several : found ≡ Some Ambiguous → (i j : ℕ) × StandsFor i × StandsFor j × (i ≡ j → ⊥)
