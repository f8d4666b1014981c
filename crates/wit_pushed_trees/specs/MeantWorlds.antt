-- All worlds of a graph mean what the texts of its packages do (WIT, Packages, Item: `world`, `include`, Feature Gates).
use Rattle.std.specs.Prelude.{◌≡◌, ℕ, Bool, List, [], ◌∷◌, ◌++◌, Some, slice_get, string_bytes, take}
use Rattle.wit_types.specs.declared.interface.TypeDef.{TypeDef}
use Rattle.wit_types.specs.declared.world.World.{World}
use Rattle.wit_types.specs.declared.«package».Package.{Package}
use Rattle.wit_types.specs.declared.«package».PackageName.{PackageName}
use Rattle.wit_types.specs.declared.«package».UnresolvedPackage.{UnresolvedPackage}
use Rattle.wit_features.specs.Features.{FeatureSet, stays}
use Rattle.wit_arena.specs.Tree.{Name, in_world, Owner, Tree}
use Rattle.wit_arena.specs.Unfold.{Owners}
use Rattle.wit_arena.specs.Meaning.{Has}
use Rattle.wit_well_formed.specs.Passed.wit_resolved_scopes-InArena.{own_owner}
use Rattle.wit_graph.specs.Passed.wit_joined-Joined.{IsJoinedWorld}
use Rattle.wit_plans.specs.declared.moves.MovedWorld.{MovedWorld}
use Rattle.wit_graph.specs.Passed.wit_graph_worlds-Copies.{IsSameWorld}
use Rattle.wit_graph.specs.Graph.{Graph, AreWhole, nothing}
use Rattle.wit_graph.specs.Push.{IsPushed}
use Rattle.wit_graph.specs.declared.tables.Tables.{Tables}
use Rattle.wit_pushed_trees.specs.Asked.{text_of}
use Rattle.wit_pushed_trees.specs.Found.{TellsNamesApart, NamesOfGraphStand, IsGivenBy}
use Rattle.wit_pushed_trees.specs.Known.{AreTypesKnown}
use Rattle.wit_pushed_trees.specs.Meant.{PackageTexts, IsOfTexts}
use Rattle.wit_pushed_trees.specs.Owned.{AreOwnersOf, AreOwned, AreOwnedWith}
use Rattle.wit_pushed_trees.specs.Whole.{HasTrees}
use Rattle.wit_pushed_trees.specs.Worlds.{IsWorldMeant}

-- a world at that place has what it has itself, and what those in front of it bring that it includes: types that came then stay
pub record IsBuiltOf (own : MovedWorld) (number place : ℕ) (worlds : List World) (types : List TypeDef) (w : World) : Type 0 where
  pub before : List TypeDef
  pub after : List TypeDef
  pub later : List TypeDef
  pub grown : types ≡ after ++ later
  pub joined : World
  pub is_joined : IsJoinedWorld (take place worlds) place number own before after joined
  pub is_listed : IsSameWorld joined w

-- the world of an id is of the package whose texts these are; what it has itself means what that of its name does, and it includes the worlds to which paths of that lead, by statements that stay
pub record IsWorldMeantBy (all : List PackageTexts) (given : Owner → Name → Tree) (owners : Owners) (t : Tables) (place : ℕ) (w : World) : Type 0 where
  pub texts : PackageTexts
  pub are : Has all texts
  pub number : ℕ
  pub «package» : Package
  pub there : slice_get t.packages number ≡ Some «package»
  pub named : text_of «package».name ≡ texts.context.me
  pub own : MovedWorld
  pub owner : slice_get owners.worlds place ≡ Some (own_owner texts.context (in_world (string_bytes own.name)))
  pub means : IsWorldMeant (stays texts.features) given texts.context owners t.types texts.worlds own.name own.stability own.imports.items own.exports.items own.includes.items
  pub is : IsBuiltOf own number place t.worlds.listed t.types w

-- each world is, where for names of other packages is given what stands in the graph under them
abbrev pub AreWorldsMeantBy : List PackageTexts → Owners → Tables → Type 0
AreWorldsMeantBy all owners t = (given : Owner → Name → Tree) → IsGivenBy given owners t → (place : ℕ) (w : World) → slice_get t.worlds.listed place ≡ Some w → IsWorldMeantBy all given owners t place w

-- so they are in a graph without packages, and with each that comes
abbrev pub EmptyWorldsAreMeant : Type 0
EmptyWorldsAreMeant = AreWorldsMeantBy [] (record { interfaces = []; worlds = [] }) nothing

abbrev pub PushedWorldsAreMeant : Type 0
PushedWorldsAreMeant =
    (all : List PackageTexts) (texts : PackageTexts) (owners : Owners) (eq : PackageName → PackageName → Bool) (features : FeatureSet) (old : Graph) (p : UnresolvedPackage) (new : Graph) (id : ℕ)
    → TellsNamesApart eq → NamesOfGraphStand old → AreOwned owners old.tables → AreWhole old.tables → AreTypesKnown old.tables.types → HasTrees owners old.tables
    → AreOwnersOf texts.context.owners p → IsOfTexts texts p → texts.features ≡ features
    → (h : IsPushed eq features old p new id) → (o : AreOwnedWith texts.context.owners owners eq features old p new id h)
    → AreWorldsMeantBy all owners old.tables → AreWorldsMeantBy (all ++ texts ∷ []) o.all new.tables
