-- Why there is no link table: each a fact of what is linked (Component Model, Build Targets; Canonical ABI, canon lift and canon lower).
use Rattle.std.specs.Prelude.{◌≡◌, ◌⊎◌, ℕ, List, slice_get, Option, Some, None}
use Rattle.wasm_types.specs.Entries.{ImportValue, ExportValue}
use Rattle.wasm_format.specs.Module.{imported_type, exported_type}
use Rattle.wit_order.specs.Order.{Has}
use Rattle.wit_types.specs.declared.function.Function.{Function}
use Rattle.wit_types.specs.declared.mangling.AbiVariant.{AbiVariant}
use Rattle.wit_types.specs.declared.mangling.AbiVariant.TheVariants.{GuestImport, GuestExport}
use Rattle.wit_types.specs.declared.world_key.WorldKey.{WorldKey}
use Rattle.wit_core_names.specs.Items.{CoreExport}
use Rattle.wit_core_names.specs.declared.items.WasmExportKind.TheVariants.{Normal}
use Rattle.canonical_options.specs.Passed.flat_types-Signature.{RequiredValue}
use Rattle.linked_types.specs.Reached.{IsCause as IsReachedCause}
use Rattle.linked_types.specs.declared.fault.TypeFault.{TypeFault}
use Rattle.linked_types.specs.declared.fault.TypeFault.TheVariants as type_faults
use Rattle.core_links.specs.Imports.{OneOf, IsUnknown, IsAmbiguous, IsLegacyAlone, RepeatsPair}
use Rattle.core_links.specs.Exports.{IsUnclear}
use Rattle.core_links.specs.declared.fault.LinkFault.{LinkFault}
use Rattle.core_links.specs.declared.fault.LinkFault.TheVariants as link_faults
use Rattle.link_table.specs.Linking.{Linking, types_of, StandsForFunction, exported_functions, IsLinked}
use Rattle.link_table.specs.Types.{Requires, IsMistyped}
use Rattle.link_table.specs.Options.{NamesOf, IsThere, IsMissing, LacksMemory, LacksRealloc, AreOptionsUnclear, AreOptionsMistyped}
use Rattle.link_table.specs.Coming.{IsToCome}
use Rattle.link_table.specs.declared.fault.TableFault.{TableFault}
use Rattle.link_table.specs.declared.fault.TableFault.TheVariants as faults

-- ---- by what a linked function asks for

-- a core import stands for it, or the world exports it itself, and it asks for this
pub data IsAsked (l : Linking) (variant : AbiVariant) (r : RequiredValue) : Type 0 where
  imported : (i : ImportValue) (key : Option WorldKey) (f : Function) → variant ≡ GuestImport → Has l.main.imports i → StandsForFunction l.names i key f → Requires (types_of l) GuestImport f r → IsAsked l variant r
  exported : (f : Function) → variant ≡ GuestExport → Has (exported_functions l.names.world) f → Requires (types_of l) GuestExport f r → IsAsked l variant r

-- so it is of what one of them asks for
abbrev pub OfAsked : Linking → (AbiVariant → RequiredValue → Type 0) → Type 0
OfAsked l P = (variant : AbiVariant) × (r : RequiredValue) × IsAsked l variant r × P variant r

-- ---- by names and core types

abbrev pub NamesOfFunction : Linking → Function → List ℕ → Type 0
NamesOfFunction l f = NamesOf l.names (CoreExport.func None f Normal)

-- a core import, or the core export that stands for an exported function, isn't of its core type
pub data IsLinkMistyped (l : Linking) : Type 0 where
  of_import : (i : ImportValue) (key : Option WorldKey) (f : Function) → Has l.main.imports i → StandsForFunction l.names i key f → IsMistyped (types_of l) GuestImport f (imported_type l.main i.ty) → IsLinkMistyped l
  of_export : (f : Function) (place : ℕ) (e : ExportValue) → Has (exported_functions l.names.world) f → IsThere l (NamesOfFunction l f) place → slice_get l.main.exports place ≡ Some e
      → IsMistyped (types_of l) GuestExport f (exported_type l.main e.kind e.index) → IsLinkMistyped l

-- of one of the functions that the world exports
abbrev pub OfExported : Linking → (Function → Type 0) → Type 0
OfExported l P = (f : Function) × Has (exported_functions l.names.world) f × P f

abbrev pub IsLinkCause : Linking → LinkFault → Type 0
IsLinkCause l link_faults.NotYet = ⊥
IsLinkCause l link_faults.DuplicateImport = RepeatsPair l.main.imports
IsLinkCause l link_faults.UnknownImport = OneOf (IsUnknown l.names) l.main.imports
IsLinkCause l link_faults.Ambiguous =
    OneOf (IsAmbiguous l.names) l.main.imports ⊎ (OfExported l (λ f. IsUnclear l.names l.main.exports (NamesOfFunction l f)) ⊎ OfAsked l (AreOptionsUnclear l))
IsLinkCause l link_faults.LegacyName = OneOf (IsLegacyAlone l.names) l.main.imports
IsLinkCause l link_faults.WrongCoreType = IsLinkMistyped l ⊎ OfAsked l (AreOptionsMistyped l)
IsLinkCause l link_faults.MissingCoreExport = OfExported l (λ f. IsMissing l (NamesOfFunction l f))
IsLinkCause l link_faults.OutOfMemory = ⊥

-- ---- by types

-- functions that are linked, one of which isn't to be linked, or reaches a type that isn't
abbrev pub IsTypeCause : Linking → TypeFault → Type 0
IsTypeCause l fault = (fs : List Function) × ((f : Function) → Has fs f → IsLinked l f) × IsReachedCause (types_of l) fs fault

abbrev pub IsTypeFault : Linking → TypeFault → Type 0
IsTypeFault l type_faults.NotYet = ⊥
IsTypeFault l type_faults.AsyncReached = IsTypeCause l type_faults.AsyncReached
IsTypeFault l type_faults.EmptyTypeReached = IsTypeCause l type_faults.EmptyTypeReached
IsTypeFault l type_faults.TooManyFlags = IsTypeCause l type_faults.TooManyFlags
IsTypeFault l type_faults.OutOfMemory = ⊥

-- ---- all

abbrev pub IsTableCause : Linking → TableFault → Type 0
IsTableCause l faults.NotYet = IsToCome l ⊎ IsTypeCause l type_faults.NotYet
IsTableCause l (faults.Link fault) = IsLinkCause l fault
IsTableCause l faults.NoMemory = OfAsked l (λ variant r. LacksMemory l r)
IsTableCause l faults.NoRealloc = OfAsked l (LacksRealloc l)
IsTableCause l (faults.Types fault) = IsTypeFault l fault
IsTableCause l faults.OutOfMemory = Unit {0}

-- ---- what a fault of one kind is among all

abbrev pub of_link : LinkFault → TableFault
of_link link_faults.NotYet = faults.NotYet
of_link link_faults.DuplicateImport = faults.Link link_faults.DuplicateImport
of_link link_faults.UnknownImport = faults.Link link_faults.UnknownImport
of_link link_faults.Ambiguous = faults.Link link_faults.Ambiguous
of_link link_faults.LegacyName = faults.Link link_faults.LegacyName
of_link link_faults.WrongCoreType = faults.Link link_faults.WrongCoreType
of_link link_faults.MissingCoreExport = faults.Link link_faults.MissingCoreExport
of_link link_faults.OutOfMemory = faults.OutOfMemory

abbrev pub of_type : TypeFault → TableFault
of_type type_faults.NotYet = faults.NotYet
of_type type_faults.AsyncReached = faults.Types type_faults.AsyncReached
of_type type_faults.EmptyTypeReached = faults.Types type_faults.EmptyTypeReached
of_type type_faults.TooManyFlags = faults.Types type_faults.TooManyFlags
of_type type_faults.OutOfMemory = faults.OutOfMemory
