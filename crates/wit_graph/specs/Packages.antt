-- Packages that name interfaces of others (WIT, Packages).
use Rattle.std.specs.Prelude.{◌≡◌, ◌↔◌, ℕ, List, Some, slice_get, length}
use Rattle.wit_order.specs.Order.{Has, IsOrder}
use Rattle.wit_types.specs.declared.interface.Interface.{Interface}
use Rattle.wit_types.specs.declared.world.World.{World}
use Rattle.wit_reach.specs.Lists.{IsNamedBy}
use Rattle.wit_reach.specs.Paths.{AreRising}
use Rattle.wit_graph.specs.Graph.{IsPackageDep}
use Rattle.wit_graph.specs.declared.tables.Tables.{Tables}

-- the world with that id names the interface
abbrev pub IsNamedByWorld : Tables → ℕ → ℕ → Type 0
IsNamedByWorld t i j = (w : World) × (slice_get t.worlds.elaborated i ≡ Some w) × IsNamedBy t.types w j

-- the interface belongs to package q, which is another one than this
abbrev pub IsOfOther : List Interface → ℕ → ℕ → ℕ → Type 0
IsOfOther interfaces own j q = (q ≡ own → ⊥) × ((d : Interface) × (slice_get interfaces j ≡ Some d) × (d.«package» ≡ Some q))

-- the packages of which the one with that id names an interface, by rising ids
pub record ArePackageDeps (t : Tables) (p : ℕ) (deps : List ℕ) : Type 0 where
  pub rising : AreRising deps
  pub are : (q : ℕ) → Has deps q ↔ IsPackageDep t p q

-- each package once, and before it all of which it names an interface
abbrev pub ArePackagesInOrder : Tables → List ℕ → Type 0
ArePackagesInOrder t order = IsOrder (length t.packages) (IsPackageDep t) order
