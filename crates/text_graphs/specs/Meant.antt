-- Names of a graph of texts mean what scope gives them in these (WIT, Packages, Items, Feature Gates, Use, Types).
use Rattle.std.specs.Prelude.{◌≡◌, Bool, List, [], ◌∷◌}
use Rattle.wit_words.specs.Sources.{SourceText}
use Rattle.wit_order.specs.Order as order
use Rattle.wit_syntax.specs.Ast.{FileTree}
use Rattle.wit_types.specs.declared.«package».PackageName.{PackageName}
use Rattle.wit_types.specs.declared.«package».UnresolvedPackage.{UnresolvedPackage}
use Rattle.wit_features.specs.Features.{FeatureSet}
use Rattle.wit_arena.specs.Meaning.{Has}
use Rattle.wit_nested.specs.Nested.{own_files, nested_files}
use Rattle.wit_resolution.specs.Passed.wit_package-Group.{AreRead}
use Rattle.wit_resolution.specs.Passed.wit_package-Steps.{Resolves}
use Rattle.wit_labelled_packages.specs.Passed.wit_new_names-Names.{SeesSameNames}
use Rattle.wit_pushed_trees.specs.Passed.wit_graph-Graph.{Graph}
use Rattle.wit_resolution.specs.Pushes.{Resolved}
use Rattle.wit_pushed_trees.specs.Found.{TellsNamesApart}
use Rattle.wit_pushed_trees.specs.Giving.{Gives}
use Rattle.wit_pushed_trees.specs.Meant.{PackageTexts, texts_of, ArePackagesSaid, AreMeantBy}
use Rattle.wit_pushed_trees.specs.MeantWorlds.{AreWorldsMeantBy}
use Rattle.wit_pushed_trees.specs.Said.{AreWorldsSaid}
use Rattle.wit_pushed_trees.specs.Whole.{HasTrees}
use Rattle.text_graphs.specs.Coming.{ComeOfTexts, pushes_with}
use Rattle.text_graphs.specs.Graphs.{IsTextGraph}
use Rattle.text_graphs.specs.Owned.{HasOwners}

-- the files of one package: all without what is nested in them, or a nested one
pub data AreFilesOf (all files : List FileTree) : Type 0 where
  own : files ≡ own_files all → AreFilesOf all files
  nested : (f : FileTree) → Has (nested_files all) f → files ≡ f ∷ [] → AreFilesOf all files

-- it is what these texts say, read together, of one package, by these features
pub record IsSaidBy (features : FeatureSet) (source : List SourceText) (texts : PackageTexts) : Type 0 where
  pub all : List FileTree
  pub read : AreRead source all
  pub files : List FileTree
  pub are_files : AreFilesOf all files
  pub «package» : UnresolvedPackage
  pub resolves : Resolves files «package»
  pub is : texts ≡ texts_of features files «package» resolves

-- functions of worlds stand under their names, and names tell apart what they have to; all that a graph holds has an owner, and each type stands for something; for
-- each name of an interface the graph gives what stands in it under that; each package has the name that one of the texts says that were pushed; and where what stands
-- is given for names that a text takes of another package, each interface and each world means what its text does, the one of these whose it is by its owner, and what
-- a world imports and exports in all is what texts say of it and of those that it includes, by statements that stay by the features that were active when the texts were pushed
-- (what stays of packages and interfaces says `There`; the order of lists, docs and gates, the pushes of which all comes)
pub record MeansItsTexts (pushed : List (FeatureSet × List SourceText)) (g : Graph) : Type 0 where
  pub named : IsTextGraph g
  pub has : HasOwners g
  pub trees : HasTrees has.owners g.tables
  pub gives : Gives has.owners g.tables
  pub texts : List PackageTexts
  pub said : (one : PackageTexts) → Has texts one → (features : FeatureSet) × (source : List SourceText) × order.Has pushed (features, source) × IsSaidBy features source one
  pub packages : ArePackagesSaid texts g.tables
  pub interfaces : AreMeantBy texts has.owners g.tables
  pub worlds : AreWorldsMeantBy texts has.owners g.tables
  pub worlds_said : AreWorldsSaid texts has.owners g.tables

-- so does each graph that comes of texts
abbrev pub TextGraphsMeanTheirTexts : Type 0
TextGraphsMeanTheirTexts = (eq : PackageName → PackageName → Bool) (r : Resolved) → TellsNamesApart eq → SeesSameNames eq → (come : ComeOfTexts eq r) → MeansItsTexts (pushes_with eq r come) r.graph
