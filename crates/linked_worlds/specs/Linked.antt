-- Worlds of a graph, with all that they import in the end, are as the link table asks (Component Model, Build Targets; WIT, Worlds).
use Rattle.std.specs.Prelude.{◌≡◌, ℕ, Some, slice_get}
use Rattle.wit_names.specs.Names.{ArePackagesKnown}
use Rattle.wit_reach.specs.Types.{AreTypesBackward}
use Rattle.right_components.specs.Passed.core_links-Names.{Names}
use Rattle.right_components.specs.Passed.link_table-Linking.{AreFunctionsThere}
use Rattle.wit_graph.specs.Graph.{AreWhole}
use Rattle.wit_graph.specs.declared.tables.Tables.{Tables}

-- names of what a graph has, and of the world with that id, with all that it imports in the end
pub record AreNamesOf (t : Tables) (i : ℕ) (n : Names) : Type 0 where
  pub packages_are : n.known.packages ≡ t.packages
  pub interfaces_are : n.known.interfaces ≡ t.interfaces.all
  pub types_are : n.known.types ≡ t.types
  pub world_is : slice_get t.worlds.elaborated i ≡ Some n.world

-- what the link table asks of names
pub record AreReadyToLink (n : Names) : Type 0 where
  pub packages : ArePackagesKnown n.known.packages n.known.interfaces
  pub backward : AreTypesBackward n.known.types
  pub there : AreFunctionsThere n

abbrev pub FunctionsAreThere : Type 0
FunctionsAreThere = (t : Tables) (i : ℕ) (n : Names) → AreWhole t → AreNamesOf t i n → AreReadyToLink n
