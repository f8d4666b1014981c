-- Why a core import has no entry, by the function for which it stands.
use Rattle.std.specs.Prelude.{◌≡◌, ◌⊎◌, ℕ, true, Option}
use Rattle.wasm_types.specs.Entries.{ImportValue}
use Rattle.wasm_format.specs.Module.{imported_type}
use Rattle.wit_order.specs.Order.{Has}
use Rattle.wit_types.specs.declared.function.Function.{Function}
use Rattle.wit_types.specs.declared.mangling.AbiVariant.TheVariants.{GuestImport}
use Rattle.wit_types.specs.declared.world_key.WorldKey.{WorldKey}
use Rattle.wit_core_names.specs.Items.{CoreImport}
use Rattle.wit_core_names.specs.declared.items.ResourceIntrinsic.{ResourceIntrinsic}
use Rattle.canonical_options.specs.Passed.flat_types-Signature.{RequiredValue}
use Rattle.core_links.specs.Imports.{StandsFor}
use Rattle.link_table.specs.Linking.{Linking, types_of}
use Rattle.link_table.specs.Types.{Requires, IsMistyped}
use Rattle.link_table.specs.Options.{asks, Options, AreOptions, IsOptionsCause, wrong_type}
use Rattle.link_table.specs.declared.fault.TableFault.{TableFault}
use Rattle.link_table.specs.declared.fault.TableFault.TheVariants as faults

-- one stands for what is done with a resource
abbrev pub HasIntrinsic : Linking → Type 0
HasIntrinsic l = (i : ImportValue) × (key : Option WorldKey) × (resource : ℕ) × (what : ResourceIntrinsic) × Has l.main.imports i × StandsFor l.names i (CoreImport.intrinsic key resource what)

abbrev pub IsResourceCause : Linking → TableFault → Type 0
IsResourceCause l fault = ((fault ≡ faults.NotYet) × HasIntrinsic l) ⊎ (fault ≡ faults.OutOfMemory)

-- the function asks for options, which it doesn't have, or which are to come
pub record AsksFor (l : Linking) (f : Function) (fault : TableFault) : Type 0 where
  pub required : RequiredValue
  pub requires : Requires (types_of l) GuestImport f required
  pub asking : asks required ≡ true
  pub cause : IsOptionsCause l GuestImport required fault ⊎ ((fault ≡ faults.NotYet) × ((o : Options) × AreOptions l GuestImport required o))

abbrev pub IsAskingCause : Linking → Function → TableFault → Type 0
IsAskingCause l f fault = AsksFor l f fault ⊎ (fault ≡ faults.OutOfMemory)

-- or the import isn't of its core type
abbrev pub IsImportCause : Linking → ImportValue → Function → TableFault → Type 0
IsImportCause l i f fault = ((fault ≡ wrong_type) × IsMistyped (types_of l) GuestImport f (imported_type l.main i.ty)) ⊎ IsAskingCause l f fault
