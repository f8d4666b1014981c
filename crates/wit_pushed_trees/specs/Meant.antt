-- All interfaces of a graph mean what the texts of its packages do (WIT, Packages, Item: `interface`, Use, Types).
use Rattle.std.specs.Prelude.{◌≡◌, ℕ, Bool, List, [], ◌∷◌, ◌++◌, Some, slice_get}
use Rattle.wit_syntax.specs.Ast.{FileTree}
use Rattle.wit_types.specs.declared.interface.Interface.{Interface}
use Rattle.wit_types.specs.declared.«package».Package.{Package}
use Rattle.wit_types.specs.declared.«package».PackageName.{PackageName}
use Rattle.wit_types.specs.declared.«package».UnresolvedPackage.{UnresolvedPackage}
use Rattle.wit_features.specs.Features.{FeatureSet}
use Rattle.wit_scopes.specs.Scopes.{WorldScope}
use Rattle.wit_arena.specs.Tree.{Name, Owner, Tree}
use Rattle.wit_arena.specs.Unfold.{Owners}
use Rattle.wit_arena.specs.Meaning.{Has}
use Rattle.wit_well_formed.specs.Passed.wit_resolved_scopes-InArena.{Context}
use Rattle.wit_well_formed.specs.Passed.wit_resolved_scopes-Texts.{InterfaceText, interface_texts, worlds_of}
use Rattle.wit_well_formed.specs.Passed.wit_package-Resolved.{context_of}
use Rattle.wit_well_formed.specs.Passed.wit_package-Steps.{Resolves}
use Rattle.wit_graph.specs.Graph.{Graph, AreWhole, nothing}
use Rattle.wit_graph.specs.Push.{IsPushed}
use Rattle.wit_graph.specs.declared.tables.Tables.{Tables}
use Rattle.wit_pushed_trees.specs.Asked.{text_of}
use Rattle.wit_pushed_trees.specs.Found.{TellsNamesApart, NamesOfGraphStand, IsGivenBy}
use Rattle.wit_pushed_trees.specs.Known.{AreTypesKnown}
use Rattle.wit_pushed_trees.specs.Meaning.{IsOfText}
use Rattle.wit_pushed_trees.specs.Owned.{AreOwnersOf, AreOwned, AreOwnedWith}
use Rattle.wit_pushed_trees.specs.Packages.{IsPackageMeant}
use Rattle.wit_pushed_trees.specs.Whole.{HasTrees}

-- what the files of a package say, and the features that were active when it was pushed
pub record PackageTexts : Type 0 where
  pub features : FeatureSet
  pub context : Context
  pub interfaces : List InterfaceText
  pub worlds : List WorldScope

abbrev pub texts_of : FeatureSet → (files : List FileTree) (p : UnresolvedPackage) → Resolves files p → PackageTexts
texts_of features files p r = record { features = features; context = context_of r.resolved.me files r.resolved.items r.resolved.sorted; interfaces = interface_texts r.resolved.sorted; worlds = worlds_of r.resolved.sorted }

-- the package has that name, and means what they say
pub record IsOfTexts (texts : PackageTexts) (p : UnresolvedPackage) : Type 0 where
  pub named : text_of p.name ≡ texts.context.me
  pub meant : IsPackageMeant texts.context texts.interfaces texts.worlds p

-- so it is of a package to which files are resolved, wherever its texts stand among others
abbrev pub ResolvedPackagesAreOfTexts : Type 0
ResolvedPackagesAreOfTexts = (features : FeatureSet) (files : List FileTree) (p : UnresolvedPackage) (r : Resolves files p) → IsOfTexts (texts_of features files p r) p

-- the interface of an id is of the package whose texts these are, and means what the one of them does whose it is
pub record IsMeantBy (all : List PackageTexts) (given : Owner → Name → Tree) (owners : Owners) (t : Tables) (k : ℕ) (d : Interface) : Type 0 where
  pub texts : PackageTexts
  pub are : Has all texts
  pub number : ℕ
  pub packaged : d.«package» ≡ Some number
  pub «package» : Package
  pub there : slice_get t.packages number ≡ Some «package»
  pub named : text_of «package».name ≡ texts.context.me
  pub means : IsOfText given texts.context owners t.types texts.interfaces k d

-- each interface is, where for names of other packages is given what stands in the graph under them
abbrev pub AreMeantBy : List PackageTexts → Owners → Tables → Type 0
AreMeantBy all owners t = (given : Owner → Name → Tree) → IsGivenBy given owners t → (k : ℕ) (d : Interface) → slice_get t.interfaces.all k ≡ Some d → IsMeantBy all given owners t k d

-- each package has the name that one of these texts says
abbrev pub ArePackagesSaid : List PackageTexts → Tables → Type 0
ArePackagesSaid all t = (k : ℕ) (q : Package) → slice_get t.packages k ≡ Some q → (texts : PackageTexts) × Has all texts × (text_of q.name ≡ texts.context.me)

-- so they are in a graph without packages, and with each that comes
abbrev pub EmptyGraphsAreMeant : Type 0
EmptyGraphsAreMeant = AreMeantBy [] (record { interfaces = []; worlds = [] }) nothing

abbrev pub PushedGraphsMeanTheirTexts : Type 0
PushedGraphsMeanTheirTexts =
    (all : List PackageTexts) (texts : PackageTexts) (owners : Owners) (eq : PackageName → PackageName → Bool) (features : FeatureSet) (old : Graph) (p : UnresolvedPackage) (new : Graph) (id : ℕ)
    → TellsNamesApart eq → NamesOfGraphStand old → AreOwned owners old.tables → AreWhole old.tables → AreTypesKnown old.tables.types → HasTrees owners old.tables
    → AreOwnersOf texts.context.owners p → IsOfTexts texts p
    → (h : IsPushed eq features old p new id) → (o : AreOwnedWith texts.context.owners owners eq features old p new id h)
    → AreMeantBy all owners old.tables → AreMeantBy (all ++ texts ∷ []) o.all new.tables

abbrev pub PushedPackagesAreSaid : Type 0
PushedPackagesAreSaid =
    (all : List PackageTexts) (texts : PackageTexts) (eq : PackageName → PackageName → Bool) (features : FeatureSet) (old : Graph) (p : UnresolvedPackage) (new : Graph) (id : ℕ)
    → IsOfTexts texts p → IsPushed eq features old p new id → ArePackagesSaid all old.tables → ArePackagesSaid (all ++ texts ∷ []) new.tables
