-- What stays of a package has its names, which differ still (WIT, Feature Gates, Packages).
use Rattle.std.specs.Prelude.{ℕ, List}
use Rattle.std.specs.List.{AllByRecursion as Each}
use Rattle.wit_order.specs.Places.{Rows}
use Rattle.wit_joined.specs.Passed.wit_types-declared-interface-Interface.{Interface}
use Rattle.wit_joined.specs.Passed.wit_types-declared-interface-TypeDef.{TypeDef}
use Rattle.wit_joined.specs.Passed.wit_types-declared-world-World.{World}
use Rattle.wit_joined.specs.Passed.wit_features-Features.{FeatureSet}
use Rattle.wit_joined.specs.Passed.wit_moves-Moved.{Places}
use Rattle.wit_joined.specs.Passed.wit_moves-Plan.{OwnerPlaces, AreMovedDefs}
use Rattle.wit_joined.specs.Passed.wit_plans-Checks.{Standing}
use Rattle.wit_joined.specs.Passed.wit_plans-Moves.{AreMovedInterfaces, AreMovedWorlds}
use Rattle.wit_joined.specs.Passed.wit_plans-declared-moves-MovedWorld.{MovedWorld}
use Rattle.wit_placed.specs.Passed.wit_elaborated-Worlds.{IsElaboratedWorld}
use Rattle.wit_labels.specs.Labels.{AreLabelsApart, IsInterfaceApart, IsSideApart, IsWorldApart}

-- a world without what it includes
pub record IsMovedWorldApart (m : MovedWorld) : Type 0 where
  pub imports : IsSideApart m.imports.items
  pub exports : IsSideApart m.exports.items

abbrev pub MovedTypesHaveLabelsApart : Type 0
MovedTypesHaveLabelsApart = (owners : OwnerPlaces) (places : Places) (first : ℕ) (old new : List TypeDef) → AreMovedDefs owners places first old new → AreLabelsApart old → AreLabelsApart new

abbrev pub MovedInterfacesAreApart : Type 0
MovedInterfacesAreApart = (features : FeatureSet) (s : Standing) (owner : ℕ) (old new : List Interface) → AreMovedInterfaces features s owner old new → Each IsInterfaceApart old → Each IsInterfaceApart new

abbrev pub MovedWorldsAreApart : Type 0
MovedWorldsAreApart = (features : FeatureSet) (s : Standing) (old : List World) (new : List MovedWorld) → AreMovedWorlds features s old new → Each IsWorldApart old → Each IsMovedWorldApart new

-- and with all that a world imports in the end
abbrev pub ElaboratedWorldsAreApart : Type 0
ElaboratedWorldsAreApart = (types : List TypeDef) (interfaces : List Interface) (uses : Rows) (world found : World) → IsElaboratedWorld types interfaces uses world found → IsWorldApart world → IsWorldApart found
