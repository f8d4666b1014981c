-- What is still to come: exported interfaces, resources, lowerings with options, and functions that are called at other times (Component
-- Model, Canonical ABI; Build Targets).
use Rattle.std.specs.Prelude.{◌≡◌, ℕ, true, Option, None, codes}
use Rattle.wasm_types.specs.Entries.{ImportValue, ExportValue}
use Rattle.wit_order.specs.Order.{Has}
use Rattle.wit_types.specs.declared.function.Function.{Function}
use Rattle.wit_types.specs.declared.mangling.AbiVariant.TheVariants.{GuestImport}
use Rattle.wit_types.specs.declared.world.WorldItem.{WorldItem}
use Rattle.wit_types.specs.declared.world_key.WorldKey.{WorldKey}
use Rattle.wit_core_names.specs.Items.{CoreImport, CoreExport}
use Rattle.wit_core_names.specs.declared.items.ResourceIntrinsic.{ResourceIntrinsic}
use Rattle.wit_core_names.specs.declared.items.WasmExportKind.TheVariants.{PostReturn}
use Rattle.canonical_options.specs.Passed.flat_types-Signature.{RequiredValue}
use Rattle.core_links.specs.Imports.{is_outer_memory, StandsFor}
use Rattle.link_table.specs.Linking.{Linking, types_of, StandsForFunction, function_at, exported_functions}
use Rattle.link_table.specs.Options.{Naming, NamesOf, asks, Options, AreOptions}
use Rattle.link_table.specs.Types.{Requires}

-- a core export has such a name
pub record IsSomewhere (l : Linking) (Is : Naming) : Type 0 where
  pub export : ExportValue
  pub there : Has l.main.exports export
  pub named : Is export.name

-- the function that is called before others and behind them
abbrev pub IsHookName : Naming
IsHookName name = name ≡ codes "__wasm_task_hook"

-- something of this is asked for, or offered
pub data IsToCome (l : Linking) : Type 0 where
  outer_memory : (i : ImportValue) → Has l.main.imports i → is_outer_memory i ≡ true → IsToCome l
  resource_intrinsic : (i : ImportValue) (key : Option WorldKey) (resource : ℕ) (what : ResourceIntrinsic) → Has l.main.imports i → StandsFor l.names i (CoreImport.intrinsic key resource what) → IsToCome l
  with_options : (i : ImportValue) (key : Option WorldKey) (f : Function) (r : RequiredValue) (o : Options) → Has l.main.imports i → StandsForFunction l.names i key f
      → Requires (types_of l) GuestImport f r → asks r ≡ true → AreOptions l GuestImport r o → IsToCome l
  exported_interface : (e : WorldKey × WorldItem) → Has l.names.world.exports.entries e → function_at e.1 ≡ None → IsToCome l
  hook : IsSomewhere l IsHookName → IsToCome l
  initialize : IsSomewhere l (NamesOf l.names CoreExport.initialize) → IsToCome l
  post_return : (f : Function) → Has (exported_functions l.names.world) f → IsSomewhere l (NamesOf l.names (CoreExport.func None f PostReturn)) → IsToCome l
