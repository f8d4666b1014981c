-- What core exports stand for that is called at other times than the functions of a world.
use Rattle.std.specs.Prelude.{◌≡◌, ◌⊎◌, List, None}
use Rattle.wit_order.specs.Order.{Has}
use Rattle.wit_types.specs.declared.function.Function.{Function}
use Rattle.wit_core_names.specs.Items.{CoreExport}
use Rattle.wit_core_names.specs.declared.items.WasmExportKind.TheVariants.{PostReturn}
use Rattle.link_table.specs.Coming.{IsSomewhere, IsHookName}
use Rattle.link_table.specs.Linking.{Linking}
use Rattle.link_table.specs.Options.{Naming, NamesOf, IsMissing}
use Rattle.link_table.specs.declared.fault.TableFault.{TableFault}
use Rattle.link_table.specs.declared.fault.TableFault.TheVariants as faults

abbrev pub PostReturnNames : Linking → Function → Naming
PostReturnNames l f = NamesOf l.names (CoreExport.func None f PostReturn)

abbrev pub HaveNoPostReturns : Linking → List Function → Type 0
HaveNoPostReturns l fs = (f : Function) → Has fs f → IsMissing l (PostReturnNames l f)

abbrev pub HasPostReturn : Linking → List Function → Type 0
HasPostReturn l fs = (f : Function) × Has fs f × IsSomewhere l (PostReturnNames l f)

abbrev pub IsPostReturnCause : Linking → List Function → TableFault → Type 0
IsPostReturnCause l fs fault = ((fault ≡ faults.NotYet) × HasPostReturn l fs) ⊎ (fault ≡ faults.OutOfMemory)

pub record AreNoneApart (l : Linking) (fs : List Function) : Type 0 where
  pub hook : IsMissing l IsHookName
  pub initialize : IsMissing l (NamesOf l.names CoreExport.initialize)
  pub post_returns : HaveNoPostReturns l fs

abbrev pub HasOneApart : Linking → List Function → Type 0
HasOneApart l fs = IsSomewhere l IsHookName ⊎ (IsSomewhere l (NamesOf l.names CoreExport.initialize) ⊎ HasPostReturn l fs)

abbrev pub IsApartCause : Linking → List Function → TableFault → Type 0
IsApartCause l fs fault = ((fault ≡ faults.NotYet) × HasOneApart l fs) ⊎ (fault ≡ faults.OutOfMemory)
