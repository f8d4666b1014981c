-- Functions of the worlds of a graph stand under their names, once on each side (WIT, Item: `world`, Item: `include`).
use Rattle.std.specs.Prelude.{ℕ, Bool, List}
use Rattle.std.specs.List.{AllByRecursion as Each}
use Rattle.wit_order.specs.Order.{Has}
use Rattle.wit_types.specs.declared.world.World.{World}
use Rattle.wit_types.specs.declared.world.WorldItem.{WorldItem}
use Rattle.wit_types.specs.declared.world.WorldItem.TheVariants as item
use Rattle.wit_types.specs.declared.world_key.WorldKey.{WorldKey}
use Rattle.wit_types.specs.declared.world_key.WorldKey.TheVariants as key
use Rattle.wit_types.specs.declared.«package».PackageName.{PackageName}
use Rattle.wit_types.specs.declared.«package».UnresolvedPackage.{UnresolvedPackage}
use Rattle.wit_features.specs.Features.{FeatureSet}
use Rattle.wit_labels.specs.Named.{AreSidesPlain, IsWorldNamed, AreSidesNamed}
use Rattle.wit_graph.specs.Graph.{Graph, nothing}
use Rattle.wit_graph.specs.Push.{IsPushed}
use Rattle.wit_graph.specs.declared.tables.Tables.{Tables}

abbrev pub IsNoFunction : WorldItem → Type 0
IsNoFunction (item.Interface id stability span) = Unit {0}
IsNoFunction (item.Function f) = ⊥
IsNoFunction (item.TypeItem id span) = Unit {0}

-- what stands under the key of an interface is no function
abbrev pub IsUnderName : WorldKey × WorldItem → Type 0
IsUnderName (key.Name x, b) = Unit {0}
IsUnderName (key.Interface i, b) = IsNoFunction b

abbrev pub AreFunctionsUnderNames : List (WorldKey × WorldItem) → Type 0
AreFunctionsUnderNames es = Each IsUnderName es

-- plain names have no marks and are those of functions, and functions are exported under such names
pub record IsNamedPlainly (w : World) : Type 0 where
  pub plain : AreSidesPlain w.imports.entries w.exports.entries
  pub under : AreFunctionsUnderNames w.exports.entries

-- besides, no plain name stands twice on a side
pub record IsNamedApart (w : World) : Type 0 where
  pub named : AreSidesNamed w.imports.entries w.exports.entries
  pub under : AreFunctionsUnderNames w.exports.entries

-- of what worlds list, and of these with all that they import in the end
pub record AreWorldsNamed (t : Tables) : Type 0 where
  pub listed : Each IsNamedPlainly t.worlds.listed
  pub elaborated : Each IsNamedApart t.worlds.elaborated

-- so it is of a world of a package, and names to which those of worlds that it includes are changed have no marks
pub record IsOwnWorldNamed (w : World) : Type 0 where
  pub named : IsWorldNamed w.imports.entries w.exports.entries w.includes.items
  pub under : AreFunctionsUnderNames w.exports.entries

abbrev pub HasNamedWorlds : UnresolvedPackage → Type 0
HasNamedWorlds p = (w : World) → Has p.worlds w → IsOwnWorldNamed w

abbrev pub EmptyGraphsHaveNamedWorlds : Type 0
EmptyGraphsHaveNamedWorlds = AreWorldsNamed nothing

-- and of those of a graph with a package that came to it, where it is of both
abbrev pub PushedGraphsHaveNamedWorlds : Type 0
PushedGraphsHaveNamedWorlds =
    (eq : PackageName → PackageName → Bool) (features : FeatureSet) (old : Graph) (p : UnresolvedPackage) (new : Graph) (id : ℕ)
    → HasNamedWorlds p → IsPushed eq features old p new id → AreWorldsNamed old.tables → AreWorldsNamed new.tables
