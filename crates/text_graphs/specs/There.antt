-- Packages of texts that were pushed are in the graph, with interfaces and worlds that stay (WIT, Packages, Nested Packages, Package Names, Feature Gates).
use Rattle.std.specs.Prelude.{◌≡◌, Bool, List}
use Rattle.wit_words.specs.Sources.{SourceText}
use Rattle.wit_order.specs.Order as order
use Rattle.wit_syntax.specs.Ast.{FileTree}
use Rattle.wit_types.specs.declared.«package».Package.{Package}
use Rattle.wit_types.specs.declared.«package».PackageName.{PackageName}
use Rattle.wit_types.specs.declared.«package».UnresolvedPackage.{UnresolvedPackage}
use Rattle.wit_features.specs.Features.{FeatureSet}
use Rattle.wit_arena.specs.Meaning.{Has}
use Rattle.wit_pushed_trees.specs.Passed.wit_graph-declared-tables-Tables.{Tables}
use Rattle.wit_resolution.specs.Passed.wit_package-Group.{AreRead}
use Rattle.wit_resolution.specs.Passed.wit_package-Steps.{Resolves}
use Rattle.wit_resolution.specs.Pushes.{Resolved}
use Rattle.wit_pushed_trees.specs.Asked.{text_of}
use Rattle.wit_pushed_trees.specs.Found.{TellsNamesApart}
use Rattle.wit_pushed_trees.specs.There.{item_scopes, ListsItems}
use Rattle.text_graphs.specs.Coming.{ComeOfTexts, pushes_with}
use Rattle.text_graphs.specs.Meant.{AreFilesOf}

-- files are resolved to a package, and one of its name is there, which has under their names all interfaces and worlds of the files that have names and stay by
-- these features, and no others, with what stays of their own members, interfaces with no more, and of what worlds import and export by paths and of what they include
pub record IsPackageThere (features : FeatureSet) (t : Tables) (files : List FileTree) : Type 0 where
  pub «package» : UnresolvedPackage
  pub resolves : Resolves files «package»
  pub pushed : Package
  pub there : Has t.packages pushed
  pub named : text_of pushed.name ≡ text_of «package».name
  pub items : ListsItems features (item_scopes files «package» resolves) pushed t

-- each of the texts is read, and so it is of their files, and of each package that is nested in one
pub record ArePackagesThere (features : FeatureSet) (t : Tables) (source : List SourceText) : Type 0 where
  pub all : List FileTree
  pub read : AreRead source all
  pub each : (files : List FileTree) → AreFilesOf all files → IsPackageThere features t files

-- so it is for all of these texts
abbrev pub AreAllThere : List (FeatureSet × List SourceText) → Tables → Type 0
AreAllThere texts t = (features : FeatureSet) (source : List SourceText) → order.Has texts (features, source) → ArePackagesThere features t source

-- and for all of which a graph comes, by the features that were active when each was pushed, where the test tells names apart
abbrev pub TextPackagesAreThere : Type 0
TextPackagesAreThere = (eq : PackageName → PackageName → Bool) → TellsNamesApart eq → (r : Resolved) (come : ComeOfTexts eq r) → AreAllThere (pushes_with eq r come) r.graph.tables
