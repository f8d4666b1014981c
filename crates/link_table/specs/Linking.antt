-- What is linked: a core module with a world (Component Model, Build Targets; WebAssembly Core, Structure, Modules).
use Rattle.std.specs.Prelude.{◌≡◌, ℕ, List, flat_map, ◌++◌, Option, Some, None, option_to_list}
use Rattle.wasm_types.specs.Entries.{ImportValue}
use Rattle.wasm_format.specs.Module.{ModuleValue, module_value}
use Rattle.wit_order.specs.Order.{Has}
use Rattle.wit_reach.specs.Ids.{function_ids}
use Rattle.wit_reach.specs.Types.{AreTypesThere}
use Rattle.wit_types.specs.declared.function.Function.{Function}
use Rattle.wit_types.specs.declared.interface.TypeDef.{TypeDef}
use Rattle.wit_types.specs.declared.world.World.{World}
use Rattle.wit_types.specs.declared.world.WorldItem.{WorldItem}
use Rattle.wit_types.specs.declared.world.WorldItem.TheVariants as item
use Rattle.wit_types.specs.declared.world_key.WorldKey.{WorldKey}
use Rattle.core_links.specs.Passed.wit_core_items-World.{core_imports}
use Rattle.wit_core_names.specs.Items.{CoreImport}
use Rattle.wit_core_names.specs.declared.items.ResourceIntrinsic.{ResourceIntrinsic}
use Rattle.link_lines.specs.declared.encoding.StringEncoding.{StringEncoding}
use Rattle.core_links.specs.Names.{Names, names_in}
use Rattle.core_links.specs.Imports.{StandsFor}
use Rattle.link_table.specs.Pairwise.{Pairwise}
use Rattle.link_table.specs.declared.linking.Linking.{Linking as Linked}

-- a world with the names that count, the module, and how the module encodes its strings
pub record Linking : Type 0 where
  pub names : Names
  pub main : ModuleValue
  pub encoding : StringEncoding

abbrev pub linking_value : Linked → Linking
linking_value l = record { names = names_in l.names; main = module_value l.main.now; encoding = l.encoding }

abbrev pub types_of : Linking → List TypeDef
types_of l = l.names.known.types

-- ---- the functions of the world that are linked

-- a core import stands for the function: of the interface with that key, or of the world itself
abbrev pub StandsForFunction : Names → ImportValue → Option WorldKey → Function → Type 0
StandsForFunction n i key f = StandsFor n i (CoreImport.func key f)

abbrev pub function_at : WorldItem → Option Function
function_at (item.Interface id stability span) = None
function_at (item.Function f) = Some f
function_at (item.TypeItem id span) = None

abbrev pub functions_at : List (WorldKey × WorldItem) → List Function
functions_at es = flat_map (λ (e : WorldKey × WorldItem). option_to_list (function_at e.1)) es

-- those that the world exports itself, in its order
abbrev pub exported_functions : World → List Function
exported_functions w = functions_at w.exports.entries

-- what a core import stands for, where it's a function, and else
abbrev pub IsImported : Names → ImportValue → Option Function → Type 0
IsImported n i (Some f) = (key : Option WorldKey) × StandsForFunction n i key f
IsImported n i None = (key : Option WorldKey) × (resource : ℕ) × (what : ResourceIntrinsic) × StandsFor n i (CoreImport.intrinsic key resource what)

-- these are the functions for which core imports stand, in their order
abbrev pub AreImported : Names → List ImportValue → List Function → Type 0
AreImported n is fs = Pairwise (λ i f. (key : Option WorldKey) × StandsForFunction n i key f) is fs

-- all that are linked: those for which core imports stand, and then those that the world exports
pub record AreLinked (l : Linking) (fs : List Function) : Type 0 where
  pub imported : List Function
  pub imported_are : AreImported l.names l.main.imports imported
  pub are : fs ≡ imported ++ exported_functions l.names.world

-- a core import stands for it, or the world exports it itself
pub data IsLinked (l : Linking) (f : Function) : Type 0 where
  imported : (i : ImportValue) (key : Option WorldKey) → Has l.main.imports i → StandsForFunction l.names i key f → IsLinked l f
  exported : Has (exported_functions l.names.world) f → IsLinked l f

abbrev pub AreFunctionsOf : List (WorldKey × WorldItem) → Type 0
AreFunctionsOf es = (e : WorldKey × WorldItem) → Has es e → (f : Function) × (function_at e.1 ≡ Some f)

-- each export of the world is a function
abbrev pub AreFunctions : World → Type 0
AreFunctions w = AreFunctionsOf w.exports.entries

-- functions that modules may import of the world, and those that it exports itself, are over types that are there
pub record AreFunctionsThere (n : Names) : Type 0 where
  pub imported : (key : Option WorldKey) (f : Function) → Has (core_imports n.known n.world) (CoreImport.func key f) → AreTypesThere n.known.types (function_ids f)
  pub exported : (f : Function) → Has (exported_functions n.world) f → AreTypesThere n.known.types (function_ids f)
