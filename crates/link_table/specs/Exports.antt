-- Why a function that a world exports has no entry.
use Rattle.std.specs.Prelude.{◌≡◌, ◌⊎◌, ℕ, slice_get, Some, None}
use Rattle.wasm_types.specs.Entries.{ExportValue}
use Rattle.wasm_format.specs.Module.{exported_type}
use Rattle.wit_order.specs.Order.{Has}
use Rattle.wit_types.specs.declared.function.Function.{Function}
use Rattle.wit_types.specs.declared.mangling.AbiVariant.TheVariants.{GuestExport}
use Rattle.wit_types.specs.declared.world.World.{World}
use Rattle.wit_types.specs.declared.world.WorldItem.{WorldItem}
use Rattle.wit_types.specs.declared.world_key.WorldKey.{WorldKey}
use Rattle.canonical_options.specs.Passed.flat_types-Signature.{RequiredValue}
use Rattle.core_links.specs.declared.fault.LinkFault.TheVariants as link_faults
use Rattle.link_table.specs.Linking.{Linking, types_of, function_at}
use Rattle.link_table.specs.Types.{Requires, IsOfType, IsMistyped}
use Rattle.link_table.specs.Options.{IsThere, IsPlaceCause, IsOptionsCause, wrong_type}
use Rattle.link_table.specs.Cause.{NamesOfFunction}
use Rattle.link_table.specs.declared.fault.TableFault.{TableFault}
use Rattle.link_table.specs.declared.fault.TableFault.TheVariants as faults

-- the world exports something that is no function
abbrev pub ExportsOther : World → Type 0
ExportsOther w = (e : WorldKey × WorldItem) × Has w.exports.entries e × (function_at e.1 ≡ None)

abbrev pub IsInterfaceCause : World → TableFault → Type 0
IsInterfaceCause w fault = ((fault ≡ faults.NotYet) × ExportsOther w) ⊎ (fault ≡ faults.OutOfMemory)

-- the core export that stands for a function is at this place, and it has the function's core type, or it hasn't
pub record IsTypedExport (l : Linking) (f : Function) (place : ℕ) : Type 0 where
  pub is : IsThere l (NamesOfFunction l f) place
  pub export : ExportValue
  pub there : slice_get l.main.exports place ≡ Some export
  pub typed : IsOfType (types_of l) GuestExport f (exported_type l.main export.kind export.index)

pub record IsMistypedExport (l : Linking) (f : Function) : Type 0 where
  pub place : ℕ
  pub is : IsThere l (NamesOfFunction l f) place
  pub export : ExportValue
  pub there : slice_get l.main.exports place ≡ Some export
  pub mistyped : IsMistyped (types_of l) GuestExport f (exported_type l.main export.kind export.index)

abbrev pub missing : TableFault
missing = faults.Link link_faults.MissingCoreExport

abbrev pub IsTypedCause : Linking → Function → TableFault → Type 0
IsTypedCause l f fault = IsPlaceCause l (NamesOfFunction l f) missing fault ⊎ ((fault ≡ wrong_type) × IsMistypedExport l f)

abbrev pub IsExportCause : Linking → Function → TableFault → Type 0
IsExportCause l f fault = IsTypedCause l f fault ⊎ ((r : RequiredValue) × Requires (types_of l) GuestExport f r × IsOptionsCause l GuestExport r fault)
