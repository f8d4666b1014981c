-- What worlds import and export by texts: what they have themselves, and what the worlds bring that they include, under names that change, by statements that stay (WIT,
-- Item: `world`, `include`, Feature Gates).
use Rattle.std.specs.Prelude.{◌≡◌, ℕ, Bool, List, [], ◌∷◌, ◌++◌, Option, Some, None, map, slice_get, string_bytes}
use Rattle.wit_words.specs.declared.source_map.Span.{Span}
use Rattle.wit_types.specs.declared.function.Function.{Function}
use Rattle.wit_types.specs.declared.interface.TypeDef.{TypeDef}
use Rattle.wit_types.specs.declared.stability.Stability.{Stability}
use Rattle.wit_types.specs.declared.world.IncludeName.{IncludeName}
use Rattle.wit_types.specs.declared.world.World.{World}
use Rattle.wit_types.specs.declared.world.WorldItem.{WorldItem}
use Rattle.wit_types.specs.declared.world.WorldItem.TheVariants as item
use Rattle.wit_types.specs.WorldKey.{spelled, known}
use Rattle.wit_types.specs.declared.world_key.WorldKey.{WorldKey}
use Rattle.wit_types.specs.declared.«package».PackageName.{PackageName}
use Rattle.wit_types.specs.declared.«package».UnresolvedPackage.{UnresolvedPackage}
use Rattle.wit_features.specs.Features.{FeatureSet}
use Rattle.wit_rules.specs.Labels.{full_name}
use Rattle.wit_scopes.specs.declared.worlds.Side.{Side}
use Rattle.wit_scopes.specs.declared.worlds.Side.TheVariants.{Import, Export}
use Rattle.wit_scopes.specs.Members.{MemberTree}
use Rattle.wit_scopes.specs.Scopes as scope
use Rattle.wit_scopes.specs.Scopes.{WorldScope, WorldMemberTree, ListedTree, IncludedTree}
use Rattle.wit_sides.specs.Renames.{IsRenamed}
use Rattle.wit_arena.specs.Tree.{Name, in_world, Owner, Tree, TreeOption, Trees, named_tree, resource_leaf, no_trees, trees_and}
use Rattle.wit_arena.specs.Unfold.{Owners}
use Rattle.wit_arena.specs.Standing.{HasTree}
use Rattle.wit_arena.specs.Meaning.{Has, MeansParts, MeansName}
use Rattle.wit_well_formed.specs.Passed.wit_resolved_scopes-InArena.{own_owner}
use Rattle.wit_well_formed.specs.Passed.wit_resolved_scopes-Meaning.{written_parts}
use Rattle.wit_well_formed.specs.Passed.wit_resolved_scopes-Texts.{own_members, side_members, includes_of}
use Rattle.wit_well_formed.specs.Passed.wit_worlds-Worlds.{target_owner, include_name, written_name}
use Rattle.wit_copied_trees.specs.Law.{IsOfTrees}
use Rattle.wit_copied_trees.specs.Renamed.{IsRenamedTree, IsRenamedPart, AreRenamedTrees}
use Rattle.wit_moves.specs.Moved.{resource_of}
use Rattle.wit_graph.specs.Graph.{Graph, AreWhole, nothing}
use Rattle.wit_graph.specs.Push.{IsPushed}
use Rattle.wit_graph.specs.declared.tables.Tables.{Tables}
use Rattle.wit_pushed_trees.specs.Found.{TellsNamesApart, NamesOfGraphStand, IsGivenBy}
use Rattle.wit_pushed_trees.specs.Known.{AreTypesKnown, AreOwnTypesKnown}
use Rattle.wit_pushed_trees.specs.Meaning.{FunctionSort, sort_of, written_sort, param_names, written_names}
use Rattle.wit_pushed_trees.specs.Meant.{PackageTexts, IsOfTexts}
use Rattle.wit_pushed_trees.specs.Owned.{AreOwnersOf, AreOwned, AreOwnedWith}
use Rattle.wit_pushed_trees.specs.Staying.{Remains, resource_text, TypeRemains, FunctionRemains}
use Rattle.wit_pushed_trees.specs.Whole.{HasTrees}
use Rattle.wit_pushed_trees.specs.Worlds.{IsGiven, extern_owner}

-- what a function gives, behind what it takes
abbrev pub with_result : Trees → TreeOption → Trees
with_result no_trees t = trees_and t no_trees
with_result (trees_and u us) t = trees_and u (with_result us t)

-- one of the worlds of texts, which remains
abbrev pub HasWorldText : PackageTexts → WorldScope → Type 0
HasWorldText one w = Has one.worlds w × Remains one.features w.attributes

-- a world of texts, and one that it includes with names that change
abbrev pub world_owner : PackageTexts → WorldScope → Owner
world_owner one w = own_owner one.context (in_world w.name.text)

abbrev pub included_owner : PackageTexts → IncludedTree → Owner
included_owner one i = target_owner one.context.me in_world i.world

-- so says a statement of its text, which remains
pub record IsIncludeWritten (all : List PackageTexts) (one : PackageTexts) (w : WorldScope) (i : IncludedTree) (names : List IncludeName) : Type 0 where
  pub among : Has all one
  pub text : HasWorldText one w
  pub there : Has (includes_of w.members) i
  pub names_are : map include_name names ≡ map written_name i.names
  pub remains : Remains one.features i.attributes

-- names of resources that functions are of, where these change
abbrev pub IsRenamedResource : List IncludeName → Option Name → Option Name → Type 0
IsRenamedResource names None None = Unit {0}
IsRenamedResource names (Some x) (Some y) = IsRenamed names x y
IsRenamedResource names None (Some y) = ⊥
IsRenamedResource names (Some x) None = ⊥

-- the world has a function of that name and sort on that side, of the resource of that name if it is of one, which takes these under these names and gives that; what says so
-- remains, by the features that were active when the texts were pushed
pub data SaysFunction (all : List PackageTexts) (given : Owner → Name → Tree) (side : Side) : Owner → Name → FunctionSort → Option Name → List Name → Trees → TreeOption → Type 0 where
  says_function : (one : PackageTexts) (w : WorldScope) (x : WorldMemberTree) (m : MemberTree) (params : Trees) (result : TreeOption)
      → Has all one → HasWorldText one w → Has (side_members side w.members) x → IsGiven x m → FunctionRemains one.features (own_members w.members) m
      → MeansParts one.context.me one.context.scopes given (in_world w.name.text) (written_parts m) (with_result params result)
      → SaysFunction all given side (world_owner one w) (full_name m.kind m.name) (written_sort m.kind) (resource_text m.kind) (written_names m) params result
  includes_function : (one : PackageTexts) (w : WorldScope) (i : IncludedTree) (names : List IncludeName) (x y : Name) (sort : FunctionSort) (of to : Option Name) (xs : List Name) (ps qs : Trees) (r q : TreeOption)
      → IsIncludeWritten all one w i names → SaysFunction all given side (included_owner one i) x sort of xs ps r → IsRenamed names x y → IsRenamedResource names of to
      → AreRenamedTrees names (included_owner one i) (world_owner one w) ps qs → IsRenamedPart names (included_owner one i) (world_owner one w) r q
      → SaysFunction all given side (world_owner one w) y sort to xs qs q

-- the world has a type of that name, which stands for that
pub data SaysType (all : List PackageTexts) (given : Owner → Name → Tree) : Owner → Name → Tree → Type 0 where
  says_type : (one : PackageTexts) (w : WorldScope) (x : Name) (t : Tree) → Has all one → HasWorldText one w → TypeRemains one.features (own_members w.members) x → MeansName one.context.me one.context.scopes given (in_world w.name.text) x t
      → SaysType all given (world_owner one w) x t
  includes_type : (one : PackageTexts) (w : WorldScope) (i : IncludedTree) (names : List IncludeName) (x y : Name) (t u : Tree)
      → IsIncludeWritten all one w i names → SaysType all given (included_owner one i) x t → IsRenamed names x y → IsRenamedTree names (included_owner one i) (world_owner one w) t u → SaysType all given (world_owner one w) y u

-- the world has an interface on that side
pub data SaysInterface (all : List PackageTexts) (side : Side) : Owner → Owner → Type 0 where
  says_interface : (one : PackageTexts) (w : WorldScope) (l : ListedTree) (whose : Owner) → Has all one → HasWorldText one w → Has w.members (scope.listed l) → l.side ≡ side → Remains one.features l.attributes → extern_owner one.context w.name.text l l.kind ≡ Some whose
      → SaysInterface all side (world_owner one w) whose
  includes_interface : (one : PackageTexts) (w : WorldScope) (i : IncludedTree) (names : List IncludeName) (whose : Owner) → IsIncludeWritten all one w i names → SaysInterface all side (included_owner one i) whose
      → SaysInterface all side (world_owner one w) whose

-- ---- in a graph

-- the tree of what a world has under that name
abbrev pub IsOwnName : Owner → Name → Tree → Type 0
IsOwnName w x (named_tree o y t) = (o ≡ w) × (y ≡ x)
IsOwnName w x (resource_leaf o y) = (o ≡ w) × (y ≡ x)
IsOwnName w x _ = ⊥

-- the resource that a function is of is a type of that name that texts say of the world
pub record IsResourceSaid (all : List PackageTexts) (given : Owner → Name → Tree) (owners : Owners) (types : List TypeDef) (w : Owner) (id : ℕ) (x : Name) : Type 0 where
  pub tree : Tree
  pub stands : HasTree owners given types id tree
  pub own : IsOwnName w x tree
  pub says : SaysType all given w x tree

abbrev pub HasResourceSaid : List PackageTexts → (Owner → Name → Tree) → Owners → List TypeDef → Owner → Option ℕ → Option Name → Type 0
HasResourceSaid all given owners types w None None = Unit {0}
HasResourceSaid all given owners types w (Some id) (Some x) = IsResourceSaid all given owners types w id x
HasResourceSaid all given owners types w None (Some x) = ⊥
HasResourceSaid all given owners types w (Some id) None = ⊥

pub record IsFunctionSaid (all : List PackageTexts) (given : Owner → Name → Tree) (owners : Owners) (types : List TypeDef) (side : Side) (w : Owner) (f : Function) : Type 0 where
  pub params : Trees
  pub result : TreeOption
  pub trees : IsOfTrees owners given types f (param_names f) params result
  pub of : Option Name
  pub resource : HasResourceSaid all given owners types w (resource_of f.kind) of
  pub says : SaysFunction all given side w (string_bytes f.name) (sort_of f.kind) of (param_names f) params result

pub record IsInterfaceSaid (all : List PackageTexts) (owners : Owners) (side : Side) (w : Owner) (id : ℕ) : Type 0 where
  pub whose : Owner
  pub owner : slice_get owners.interfaces id ≡ Some whose
  pub says : SaysInterface all side w whose

pub record IsTypeSaid (all : List PackageTexts) (given : Owner → Name → Tree) (owners : Owners) (types : List TypeDef) (w : Owner) (key : WorldKey) (id : ℕ) : Type 0 where
  pub spelling : Name
  pub known_by : known key ≡ spelled spelling
  pub tree : Tree
  pub stands : HasTree owners given types id tree
  pub says : SaysType all given w spelling tree

-- all functions, interfaces and types of a side are what texts say
pub record IsSideSaid (all : List PackageTexts) (given : Owner → Name → Tree) (owners : Owners) (arena : List TypeDef) (side : Side) (w : Owner) (es : List (WorldKey × WorldItem)) : Type 0 where
  pub functions : (key : WorldKey) (f : Function) → Has es (key, item.Function f) → IsFunctionSaid all given owners arena side w f
  pub interfaces : (key : WorldKey) (id : ℕ) (gate : Stability) (span : Span) → Has es (key, item.Interface id gate span) → IsInterfaceSaid all owners side w id
  pub types : (key : WorldKey) (id : ℕ) (span : Span) → Has es (key, item.TypeItem id span) → IsTypeSaid all given owners arena w key id

pub record IsWorldSaid (all : List PackageTexts) (given : Owner → Name → Tree) (owners : Owners) (types : List TypeDef) (w : Owner) (d : World) : Type 0 where
  pub imports : IsSideSaid all given owners types Import w d.imports.entries
  pub exports : IsSideSaid all given owners types Export w d.exports.entries

-- of each of these worlds
abbrev pub AreSaid : List PackageTexts → (Owner → Name → Tree) → Owners → List TypeDef → List World → Type 0
AreSaid all given owners types worlds = (place : ℕ) (d : World) (w : Owner) → slice_get worlds place ≡ Some d → slice_get owners.worlds place ≡ Some w → IsWorldSaid all given owners types w d

-- and of all of a graph, where for names of other packages is given what stands in the graph under them
abbrev pub AreWorldsSaid : List PackageTexts → Owners → Tables → Type 0
AreWorldsSaid all owners t = (given : Owner → Name → Tree) → IsGivenBy given owners t → AreSaid all given owners t.types t.worlds.listed

abbrev pub EmptyWorldsAreSaid : Type 0
EmptyWorldsAreSaid = AreWorldsSaid [] (record { interfaces = []; worlds = [] }) nothing

abbrev pub PushedWorldsAreSaid : Type 0
PushedWorldsAreSaid =
    (all : List PackageTexts) (texts : PackageTexts) (owners : Owners) (eq : PackageName → PackageName → Bool) (features : FeatureSet) (old : Graph) (p : UnresolvedPackage) (new : Graph) (id : ℕ)
    → TellsNamesApart eq → NamesOfGraphStand old → AreOwned owners old.tables → AreWhole old.tables → AreTypesKnown old.tables.types → HasTrees owners old.tables
    → AreOwnersOf texts.context.owners p → AreOwnTypesKnown p → IsOfTexts texts p → texts.features ≡ features
    → (h : IsPushed eq features old p new id) → (o : AreOwnedWith texts.context.owners owners eq features old p new id h)
    → AreWorldsSaid all owners old.tables → AreWorldsSaid (all ++ texts ∷ []) o.all new.tables
