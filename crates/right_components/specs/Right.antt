-- What has to hold of what a component stands for, so that it is the component of a link table (Component Model, Explainer, Component
-- Definitions).
use Rattle.std.specs.Prelude.{◌≡◌, ℕ, List, [], ◌∷◌, length, map, Option, Some, string_bytes}
use Rattle.std.specs.List.{AllByRecursion as Each}
use Rattle.wit_order.specs.Order.{Has}
use Rattle.wit_types.specs.declared.function.Function.{Function}
use Rattle.link_table.specs.Passed.type_meaning-Words.{root_import, Label, BinaryTree}
use Rattle.link_table.specs.Passed.type_meaning-Items.{Origin, from_import, Item, a_function, an_instance, Items, item_named, Entry}
use Rattle.type_sinks.specs.Root.{InterfaceNames}
use Rattle.component_meaning.specs.Core.{Source, of_main, of_unknown, of_items, CoreInstance, CoreItem}
use Rattle.component_meaning.specs.Spaces.{Spaces, all_given}
use Rattle.link_table.specs.Linking.{Linking, types_of, exported_functions}
use Rattle.link_table.specs.Table.{ImportEntry, ExportEntry, Table}
use Rattle.right_components.specs.Needed.{AreInOrder}
use Rattle.right_components.specs.Outside.{AreInterfaceNames, IsFunction, IsListed, AreTypesHeld, IsExported}
use Rattle.right_components.specs.Ends.{IsImportOf, IsLoweringOf, IsLiftOf}

-- ---- imports

-- the function of an entry is imported: by the world itself, or by the instance of its interface
pub data IsImported (l : Linking) (names : InterfaceNames) (s : Spaces) (e : ImportEntry) (label : Label) : Type 0 where
  its_own : label.site ≡ root_import → (x : Entry) → Has s.scope.imports x → x.name ≡ label.name → IsFunction (types_of l) names e.function (from_import label) x.item → IsImported l names s e label
  of_instance : (x : Entry) (items : Items) → Has s.scope.imports x → x.item ≡ an_instance label.site items → IsFunction (types_of l) names e.function (from_import label) (item_named label.name items) → IsImported l names s e label

-- exactly what is needed of what the world lists is imported, and interfaces behind those whose types they use: the functions of core imports,
-- and the types that these and exported functions are made of, those of the world itself by the trees of functions, which have their names
pub record ImportsRight (l : Linking) (names : InterfaceNames) (t : Table) (s : Spaces) : Type 0 where
  pub needed : Each (λ e. (label : Label) × IsImportOf l.names e label × IsImported l names s e label) t.imports
  pub listed : Each (IsListed l names) s.scope.imports
  pub types : AreTypesHeld l names s.scope.imports
  pub order : AreInOrder l names s.scope.imports

-- ---- exports

-- exactly the functions that the world exports are exported, each under its name with its type
pub record ExportsRight (l : Linking) (names : InterfaceNames) (s : Spaces) : Type 0 where
  pub each : (f : Function) → Has (exported_functions l.names.world) f → (x : Entry) × Has s.scope.exports x × IsExported l.names names f x
  pub only : (x : Entry) → Has s.scope.exports x → (f : Function) × Has (exported_functions l.names.world) f × IsExported l.names names f x

-- ---- modules

-- there is one instance of the main module, which is given all that it asks
abbrev pub IsOnce : List (List (Option CoreItem)) → Type 0
IsOnce all = (given : List CoreItem) × (all ≡ map (λ i. Some i) given ∷ [])

-- each core module is the main module, which is instantiated once
pub record ModulesRight (bytes : List ℕ) (s : Spaces) : Type 0 where
  pub modules : Each (λ m. m ≡ bytes) s.modules
  pub once : IsOnce (all_given s.core_instances)

-- ---- links

-- what is given for each core import ends as its entry says
abbrev pub AreGiven : Linking → Spaces → List ImportEntry → List (Option CoreItem) → Type 0
AreGiven l s [] [] = Unit {0}
AreGiven l s [] (g ∷ given) = ⊥
AreGiven l s (e ∷ more) [] = ⊥
AreGiven l s (e ∷ more) (g ∷ given) = ((i : CoreItem) × (g ≡ Some i) × IsLoweringOf l.names s e i) × AreGiven l s more given

-- one item is given for each
abbrev pub GivenAreAsMany : Type 0
GivenAreAsMany = (l : Linking) (s : Spaces) (es : List ImportEntry) (given : List (Option CoreItem)) → AreGiven l s es given → length given ≡ length es

abbrev pub TakesOwn : Linking → Table → Spaces → Source → Type 0
TakesOwn l t s (of_main given) = AreGiven l s t.imports given
TakesOwn l t s of_unknown = Unit {0}
TakesOwn l t s of_items = Unit {0}

-- an item is a function that is the lift of an entry
abbrev pub IsLifted : Linking → Spaces → ExportEntry → Item → Type 0
IsLifted l s e i = (o : Origin) × (b : BinaryTree) × (i ≡ a_function o b) × IsLiftOf l s e o

-- an export ends as the entry of its function says
abbrev pub LiftsOwn : Linking → Table → Spaces → Entry → Type 0
LiftsOwn l t s x = (e : ExportEntry) × Has t.exports e × (x.name ≡ string_bytes e.function.name) × IsLifted l s e x.item

-- every core import and every export ends at its entry of the link table
pub record LinksRight (l : Linking) (t : Table) (s : Spaces) : Type 0 where
  pub imports : Each (λ (i : CoreInstance). TakesOwn l t s i.source) s.core_instances
  pub exports : Each (LiftsOwn l t s) s.scope.exports

-- ---- all

-- it is right for the link table of a module of these bytes: what is imported (F2) and exported (F3), which modules are there and what they
-- are given (F4), and where links end (F5). No slot is there that links would pass, and every type that functions name is imported or
-- written out, since trees have their names.
pub record IsRightFor (l : Linking) (bytes : List ℕ) (t : Table) (s : Spaces) : Type 0 where
  pub names : InterfaceNames
  pub names_are : AreInterfaceNames l.names l.main.imports names
  pub imports : ImportsRight l names t s
  pub exports : ExportsRight l names s
  pub modules : ModulesRight bytes s
  pub links : LinksRight l t s
