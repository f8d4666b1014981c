-- Interfaces and worlds of a package's texts are in the graph under their names (WIT, Packages, Item: `interface`, `world`, Feature Gates).
use Rattle.std.specs.Prelude.{◌≡◌, ℕ, Bool, List, Some, String, slice_get, string_bytes}
use Rattle.std.specs.declared.alloc.Global.{Global}
use Rattle.wit_syntax.specs.Ast.{FileTree}
use Rattle.wit_types.specs.declared.interface.Interface.{Interface}
use Rattle.wit_types.specs.declared.world.World.{World}
use Rattle.wit_types.specs.declared.«package».Package.{Package}
use Rattle.wit_types.specs.declared.«package».PackageName.{PackageName}
use Rattle.wit_types.specs.declared.«package».UnresolvedPackage.{UnresolvedPackage}
use Rattle.wit_features.specs.Features.{FeatureSet}
use Rattle.wit_offsets.specs.Offsets.{package_at}
pub use Rattle.wit_scopes.specs.Scopes.{ItemScope}
use Rattle.wit_scopes.specs.Scopes.{InterfaceScope, WorldScope, package_scopes}
use Rattle.wit_arena.specs.Meaning.{Has}
use Rattle.wit_arena.specs.Unfold.{Owners}
use Rattle.wit_package_types.specs.Stability.{IsStabilityOf}
use Rattle.wit_well_formed.specs.Passed.wit_resolved_scopes-Texts.{interfaces_of, worlds_of}
use Rattle.wit_well_formed.specs.Passed.wit_package-Steps.{Resolves}
use Rattle.wit_graph.specs.Passed.wit_graph_parts-Own.{own_parts}
use Rattle.wit_graph.specs.Graph.{Graph}
use Rattle.wit_graph.specs.Push.{IsPushed}
use Rattle.wit_graph.specs.declared.tables.Tables.{Tables}
use Rattle.wit_well_formed.specs.Naming.{AreInterfacesNamedApart}
use Rattle.wit_pushed_trees.specs.Apart.{AreWorldsNamedApart}
use Rattle.wit_pushed_trees.specs.Staying.{Stays, ListsMembers, HasMembers, own_interface, Remains}
use Rattle.wit_pushed_trees.specs.StayingWorlds.{ListsSides, HasSides, own_world}
use Rattle.wit_pushed_trees.specs.StayingPaths.{ListsItsPaths, HasItsPaths, AreNamedOwners}
use Rattle.wit_pushed_trees.specs.StayingIncludes.{ListsIncludes, HasIncludes, AreNamedWorlds}
use Rattle.wit_pushed_trees.specs.StayingInner.{ListsItsInners, HasItsInners}
use Rattle.wit_pushed_trees.specs.Asked.{text_of}
use Rattle.wit_pushed_trees.specs.Found.{TellsNamesApart, NamesOfGraphStand}

-- an interface of the name that this text has, of which its gates say the same
pub record IsNamedBy (t : InterfaceScope) (d : Interface) : Type 0 where
  pub name : String Global
  pub named : d.name ≡ Some name
  pub text : string_bytes name ≡ t.name.text
  pub gates : IsStabilityOf t.attributes d.stability

-- and such a world
pub record IsWorldNamedBy (t : WorldScope) (w : World) : Type 0 where
  pub text : string_bytes w.name ≡ t.name.text
  pub gates : IsStabilityOf t.attributes w.stability

-- the interfaces and worlds that have names in the files of a package
abbrev pub item_scopes : (files : List FileTree) (p : UnresolvedPackage) → Resolves files p → List ItemScope
item_scopes files p r = package_scopes r.resolved.me files

-- an interface of a package's own is that of the text, with all members
pub record HasInterface (p : UnresolvedPackage) (t : InterfaceScope) : Type 0 where
  pub number : ℕ
  pub made : Interface
  pub there : slice_get (own_parts p).interfaces number ≡ Some made
  pub named : IsNamedBy t made
  pub members : HasMembers p (own_interface p number) t.members made

-- and so is a world
pub record HasWorld (owners : Owners) (p : UnresolvedPackage) (t : WorldScope) : Type 0 where
  pub number : ℕ
  pub made : World
  pub there : slice_get (own_parts p).worlds number ≡ Some made
  pub named : IsWorldNamedBy t made
  pub sides : HasSides p (own_world p number) t.members made
  pub paths : HasItsPaths owners (text_of p.name) t.members made
  pub includes : HasIncludes owners (text_of p.name) t.members made
  pub inners : HasItsInners p t.members made

-- each interface and each world of these texts is one of a package's own, whose have names are these, and no two of one sort have one name
pub record HasItems (ts : List ItemScope) (p : UnresolvedPackage) : Type 0 where
  pub interfaces : (t : InterfaceScope) → Has (interfaces_of ts) t → HasInterface p t
  pub only_interfaces : (k : ℕ) (d : Interface) (x : String Global) → slice_get (own_parts p).interfaces k ≡ Some d → d.name ≡ Some x → (t : InterfaceScope) × Has (interfaces_of ts) t × IsNamedBy t d
  pub interfaces_apart : AreInterfacesNamedApart p
  pub owners : Owners
  pub owned : AreNamedOwners owners p
  pub worlds_owned : AreNamedWorlds owners p
  pub worlds : (t : WorldScope) → Has (worlds_of ts) t → HasWorld owners p t
  pub only_worlds : (k : ℕ) (w : World) → slice_get (own_parts p).worlds k ≡ Some w → (t : WorldScope) × Has (worlds_of ts) t × IsWorldNamedBy t w
  pub worlds_apart : AreWorldsNamedApart p

-- so it is of a package to which files are resolved
abbrev pub ResolvedPackagesHaveTheirItems : Type 0
ResolvedPackagesHaveTheirItems = (files : List FileTree) (p : UnresolvedPackage) (r : Resolves files p) → HasItems (item_scopes files p r) p

-- wherever its texts stand among others
abbrev pub MovedPackagesHaveTheirItems : Type 0
MovedPackagesHaveTheirItems = (ts : List ItemScope) (p : UnresolvedPackage) (n : ℕ) → HasItems ts p → HasItems ts (package_at n p)

-- under the name of the text a package has an interface in which all stands that stays
pub record ListsInterface (features : FeatureSet) (t : InterfaceScope) (q : Package) (interfaces : List Interface) : Type 0 where
  pub name : String Global
  pub interface_id : ℕ
  pub listed : Has q.interfaces.entries (name, interface_id)
  pub text : string_bytes name ≡ t.name.text
  pub made : Interface
  pub there : slice_get interfaces interface_id ≡ Some made
  pub members : ListsMembers features t.members made

-- and a world
pub record ListsWorld (features : FeatureSet) (t : WorldScope) (q : Package) (tables : Tables) : Type 0 where
  pub name : String Global
  pub world_id : ℕ
  pub listed : Has q.worlds.entries (name, world_id)
  pub text : string_bytes name ≡ t.name.text
  pub made : World
  pub there : slice_get tables.worlds.listed world_id ≡ Some made
  pub sides : ListsSides features t.members made.imports.entries made.exports.entries
  pub paths : ListsItsPaths features tables.packages (text_of q.name) t.members made.imports.entries made.exports.entries
  pub includes : ListsIncludes features tables.packages tables.worlds.listed (text_of q.name) t.members made.imports.entries made.exports.entries
  pub inners : ListsItsInners features tables.interfaces.all t.members made.imports.entries made.exports.entries

-- a package has those that stay by these features under their names, and no others
pub record ListsItems (features : FeatureSet) (ts : List ItemScope) (q : Package) (t : Tables) : Type 0 where
  pub interfaces_are : (i : InterfaceScope) → Has (interfaces_of ts) i → Stays features i.attributes → ListsInterface features i q t.interfaces.all
  pub only_interfaces : (e : String Global × ℕ) → Has q.interfaces.entries e → (i : InterfaceScope) × Has (interfaces_of ts) i × (string_bytes e.0 ≡ i.name.text) × Remains features i.attributes
  pub worlds_are : (w : WorldScope) → Has (worlds_of ts) w → Stays features w.attributes → ListsWorld features w q t
  pub only_worlds : (e : String Global × ℕ) → Has q.worlds.entries e → (w : WorldScope) × Has (worlds_of ts) w × (string_bytes e.0 ≡ w.name.text) × Remains features w.attributes

-- so it does when it was pushed
abbrev pub PushedPackagesListTheirItems : Type 0
PushedPackagesListTheirItems =
    (ts : List ItemScope) (eq : PackageName → PackageName → Bool) (features : FeatureSet) (old : Graph) (p : UnresolvedPackage) (new : Graph) (id : ℕ) → TellsNamesApart eq → NamesOfGraphStand old → HasItems ts p
    → (h : IsPushed eq features old p new id) → ListsItems features ts h.put.added.q new.tables
