-- Graphs of packages (WIT, Packages).
use Rattle.std.specs.Prelude.{◌≡◌, ◌↔◌, ℕ, ◌<◌, ◌≤◌, List, [], Some, String, length, slice_get}
use Rattle.std.specs.declared.alloc.Global.{Global}
use Rattle.wit_reach.specs.Deps.{IsInterfaceDep}
use Rattle.wit_reach.specs.Holding.{AreListed, HoldTheirTypes, TypesUseEarlier}
use Rattle.wit_reach.specs.Lists.{IsNamedBy}
use Rattle.wit_reach.specs.Paths.{AreEnds}
use Rattle.wit_order.specs.Order.{Has}
use Rattle.wit_closures.specs.Closures.{AreReached}
use Rattle.wit_types.specs.declared.interface.Interface.{Interface}
use Rattle.wit_types.specs.declared.interface.TypeDef.{TypeDef}
use Rattle.wit_types.specs.declared.world.World.{World}
use Rattle.wit_types.specs.declared.«package».Package.{Package}
use Rattle.wit_types.specs.declared.«package».PackageName.{PackageName}
use Rattle.wit_names.specs.Names.{ArePackagesKnown}
use Rattle.wit_plans.specs.declared.plans.Sizes.{Sizes}
use Rattle.wit_graph_parts.specs.Passed.wit_placed-Found.{ArePackagesThere}
use Rattle.wit_graph_parts.specs.Passed.wit_placed-Naming.{HaveNamesApart}
use Rattle.wit_graph_parts.specs.Passed.wit_placed-Order.{AreNamelessFree}
use Rattle.wit_graph_parts.specs.Passed.wit_placed-There.{IsInterfaceThere}
use Rattle.wit_graph_parts.specs.Passed.wit_resources-Natures.{natures}
use Rattle.wit_graph_parts.specs.Passed.wit_resources-declared-natures-Nature.{Nature}
use Rattle.wit_graph_parts.specs.Passed.wit_graph_worlds-Sound.{AreSound, AreElaborated, IsElaborationOf}
use Rattle.wit_graph_parts.specs.Passed.wit_graph_worlds-Worlds.{Worlds}
use Rattle.wit_graph_parts.specs.Interfaces.{Interfaces, AreRows}
use Rattle.wit_graph.specs.declared.tables.Tables.{Tables}

abbrev pub nothing : Tables
nothing = record {
  types = [];
  natures = [];
  interfaces = record { all = []; uses = [] };
  closures = [];
  worlds = record { listed = []; elaborated = [] };
  packages = [];
}

-- what packages are made of
pub record Items : Type 0 where
  pub types : List TypeDef
  pub natures : List Nature
  pub interfaces : Interfaces
  pub worlds : Worlds

abbrev pub items : List TypeDef → List Nature → Interfaces → Worlds → Items
items types ns interfaces worlds = record { types = types; natures = ns; interfaces = interfaces; worlds = worlds }

abbrev pub items_of : Tables → Items
items_of t = items t.types t.natures t.interfaces t.worlds

abbrev pub sizes : Items → Sizes
sizes t = record { types = length t.types; interfaces = length t.interfaces.all; worlds = length t.worlds.listed }

-- what is known of types is known of all of them; interfaces hold types that are made of theirs and of those of interfaces before them
-- alone, all that belong to them, of which they use types is known, and names within each differ; types without names belong nowhere; all
-- that interfaces and worlds name is there, and worlds import in the end what they and their exports depend on
pub record AreItemsWhole (t : Items) : Type 0 where
  pub natures_are : t.natures ≡ natures t.types
  pub rows : AreRows t.types t.interfaces.all t.interfaces.uses
  pub holds : HoldTheirTypes 0 t.types t.interfaces.all
  pub listed : AreListed 0 t.types t.interfaces.all
  pub names : HaveNamesApart t.interfaces.all
  pub nameless : AreNamelessFree t.types
  pub sound : AreSound (length t.interfaces.all) t.types t.worlds
  pub elaborated : AreElaborated t.types t.interfaces.all t.interfaces.uses t.worlds
  pub interfaces_are : (d : Interface) → Has t.interfaces.all d → IsInterfaceThere t.types d

-- then each type that belongs to an interface is made of types of that and of earlier ones
abbrev pub TypesOfItemsUseEarlier : Type 0
TypesOfItemsUseEarlier = (t : Items) → AreItemsWhole t → TypesUseEarlier t.types

-- the interface with that id uses a type of the other
abbrev pub UsesTypesOf : Tables → ℕ → ℕ → Type 0
UsesTypesOf t i j = (d : Interface) × (slice_get t.interfaces.all i ≡ Some d) × IsInterfaceDep t.types d j

-- what is named of each interface and world of a package: interfaces of which types are used, and what worlds import and export
pub data IsNamedIn (t : Tables) (p : Package) (j : ℕ) : Type 0 where
  in_interface : (e : String Global × ℕ) → Has p.interfaces.entries e → UsesTypesOf t e.1 j → IsNamedIn t p j
  in_world : (e : String Global × ℕ) → Has p.worlds.entries e → (w : World) → slice_get t.worlds.elaborated e.1 ≡ Some w → IsNamedBy t.types w j → IsNamedIn t p j

-- the package with the first id names an interface of that with the second, which is another one (WIT, Packages)
pub record IsPackageDep (t : Tables) (p q : ℕ) : Type 0 where
  pub other : q ≡ p → ⊥
  pub «package» : Package
  pub there : slice_get t.packages p ≡ Some «package»
  pub named : ℕ
  pub is_named : IsNamedIn t «package» named
  pub interface : Interface
  pub interface_is : slice_get t.interfaces.all named ≡ Some interface
  pub owner_is : interface.«package» ≡ Some q

-- what each interface depends on is kept, and so is all that packages name; interfaces are of packages that are there, and packages
-- depend on those before them alone
pub record AreWhole (t : Tables) : Type 0 where
  pub whole : AreItemsWhole (items_of t)
  pub closures_are : length t.closures ≡ length t.interfaces.uses
  pub reached : AreReached t.interfaces.uses t.closures
  pub owners_are : ArePackagesKnown t.packages t.interfaces.all
  pub packages_are : ArePackagesThere (length t.interfaces.all) (length t.worlds.listed) t.packages
  pub backward : (p q : ℕ) → IsPackageDep t p q → q < p

-- a graph: what its packages hold, and each package by its name
pub record Graph : Type 0 where
  pub tables : Tables
  pub names : List (PackageName × ℕ)

pub record IsGraph (g : Graph) : Type 0 where
  pub whole : AreWhole g.tables
  pub names_are : (e : PackageName × ℕ) → Has g.names e → e.1 < length g.tables.packages

-- the interfaces of which the one with that id uses types
abbrev pub IsDepsOf : Tables → ℕ → List ℕ → Type 0
IsDepsOf t i deps = (d : Interface) × (slice_get t.interfaces.all i ≡ Some d) × ((j : ℕ) → Has deps j ↔ IsInterfaceDep t.types d j)

-- what paths of uses from it reach, dependencies first, itself last
pub record IsClosureOf (t : Tables) (i : ℕ) (closure : List ℕ) : Type 0 where
  pub ends : AreEnds (UsesTypesOf t) (λ s. s ≡ i) closure
  pub last : (j : ℕ) → Has closure j → j ≤ i

-- the world with that id imports in the end what it lists and all on which that and its exports depend
abbrev pub IsElaborated : Tables → ℕ → Type 0
IsElaborated t i = (listed : World) × (elaborated : World) × (slice_get t.worlds.listed i ≡ Some listed) × (slice_get t.worlds.elaborated i ≡ Some elaborated) × IsElaborationOf t.types t.interfaces.all t.interfaces.uses listed elaborated
