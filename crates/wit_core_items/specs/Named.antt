-- What core modules import and export by a name: what is of no interface, or of one whose key has a text, and is no resource without a name.
use Rattle.std.specs.Prelude.{Bool, true, false, ◌&&◌, List, Option, Some, None, is_some, slice_get}
use Rattle.wit_types.specs.declared.interface.Interface.{Interface}
use Rattle.wit_types.specs.declared.interface.TypeDef.{TypeDef}
use Rattle.wit_types.specs.declared.world_key.WorldKey.{WorldKey}
use Rattle.wit_types.specs.declared.world_key.WorldKey.TheVariants as key
use Rattle.wit_core_names.specs.Imports.{IsOnSide}
use Rattle.wit_core_names.specs.Items.{CoreImport, CoreExport}
use Rattle.wit_core_names.specs.Texts.{Known}

-- ---- keys and types

-- an interface with a name and a package
abbrev pub is_named : Option Interface → Bool
is_named None = false
is_named (Some d) = is_some d.name && is_some d.«package»

abbrev pub is_key_named : List Interface → WorldKey → Bool
is_key_named interfaces (key.Name name) = true
is_key_named interfaces (key.Interface i) = is_named (slice_get interfaces i)

abbrev pub is_interface_named : List Interface → Option WorldKey → Bool
is_interface_named interfaces None = true
is_interface_named interfaces (Some key) = is_key_named interfaces key

abbrev pub is_type_named : Option TypeDef → Bool
is_type_named None = false
is_type_named (Some d) = is_some d.name

-- only an interface has exported resources of which modules import something
abbrev pub IsImportOnSide : CoreImport → Type 0
IsImportOnSide (CoreImport.func interface f) = Unit {0}
IsImportOnSide (CoreImport.intrinsic interface r what) = IsOnSide what interface

module _ (k : Known) where
  -- ---- imports

  abbrev pub is_import_named : CoreImport → Bool
  is_import_named (CoreImport.func interface f) = is_interface_named k.interfaces interface
  is_import_named (CoreImport.intrinsic interface r what) = is_interface_named k.interfaces interface && is_type_named (slice_get k.types r)

  -- ---- exports

  abbrev pub is_export_named : CoreExport → Bool
  is_export_named (CoreExport.func interface f kind) = is_interface_named k.interfaces interface
  is_export_named (CoreExport.destructor interface r) = is_key_named k.interfaces interface && is_type_named (slice_get k.types r)
  is_export_named CoreExport.memory = true
  is_export_named CoreExport.initialize = true
  is_export_named CoreExport.realloc = true
