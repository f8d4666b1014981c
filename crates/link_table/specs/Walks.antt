-- Linked functions, one by one.
use Rattle.std.specs.Prelude.{◌≡◌, ◌⊎◌, ℕ, false, List, slice_get, Some}
use Rattle.wasm_types.specs.Entries.{ImportValue}
use Rattle.wasm_format.specs.Module.{imported_type}
use Rattle.wit_order.specs.Order.{Has}
use Rattle.wit_types.specs.declared.function.Function.{Function}
use Rattle.wit_types.specs.declared.mangling.AbiVariant.TheVariants.{GuestImport}
use Rattle.canonical_options.specs.Passed.flat_types-Signature.{RequiredValue}
use Rattle.link_table.specs.Apart.{AreNoneApart}
use Rattle.link_table.specs.Exports.{ExportsOther, IsExportCause}
use Rattle.link_table.specs.Imports.{HasIntrinsic, IsImportCause}
use Rattle.link_table.specs.Linking.{Linking, types_of}
use Rattle.link_table.specs.Options.{asks}
use Rattle.link_table.specs.Types.{Requires, IsOfType}
use Rattle.link_table.specs.View.{AreExportLinks}
use Rattle.link_table.specs.declared.exports.ExportLink.{ExportLink}
use Rattle.link_table.specs.declared.fault.TableFault.{TableFault}
use Rattle.link_table.specs.declared.fault.TableFault.TheVariants as faults

-- something that is linked is no function
abbrev pub IsFunctionsCause : Linking → TableFault → Type 0
IsFunctionsCause l fault = ((fault ≡ faults.NotYet) × (HasIntrinsic l ⊎ ExportsOther l.names.world)) ⊎ (fault ≡ faults.OutOfMemory)

-- an import has the core type of a function, which asks for no options
pub record IsPlain (l : Linking) (i : ImportValue) (f : Function) : Type 0 where
  pub typed : IsOfType (types_of l) GuestImport f (imported_type l.main i.ty)
  pub plain : (r : RequiredValue) → Requires (types_of l) GuestImport f r → asks r ≡ false

abbrev pub ArePlain : Linking → List ImportValue → List Function → Type 0
ArePlain l is fs = (k : ℕ) (i : ImportValue) (f : Function) → slice_get is k ≡ Some i → slice_get fs k ≡ Some f → IsPlain l i f

abbrev pub IsWalkCause : Linking → List ImportValue → List Function → TableFault → Type 0
IsWalkCause l is fs fault = (k : ℕ) × (i : ImportValue) × (f : Function) × (slice_get is k ≡ Some i) × (slice_get fs k ≡ Some f) × IsImportCause l i f fault

abbrev pub IsExportsCause : Linking → List Function → TableFault → Type 0
IsExportsCause l fs fault = ((f : Function) × Has fs f × IsExportCause l f fault) ⊎ (fault ≡ faults.OutOfMemory)

-- imports are plain, no core export is called at another time, and each function that the world exports has its link
pub record AreChecked (l : Linking) (imported exported : List Function) (links : List ExportLink) : Type 0 where
  pub plain : ArePlain l l.main.imports imported
  pub apart : AreNoneApart l exported
  pub links_are : AreExportLinks l exported links
