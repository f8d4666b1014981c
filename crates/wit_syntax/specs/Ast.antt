-- The tree of a text, without where its names lie in memory (WIT).
use Rattle.std.specs.Prelude.{List, Option}
use Rattle.wit_productions.specs.Passed.wit_words-declared-source_map-Span.{Span}
use Rattle.wit_productions.specs.Passed.wit_words-Slice.{Slice}
pub use Rattle.wit_items.specs.ItemTree.{GateTree, AttributeTree, GatedTree, UseNameTree, UseTree, ToplevelUseTree, ParamTree, FuncTree, NamedFuncTree, FieldTree, LabelTree, CaseTree, ResourceFuncTree, TypeDefKindTree, TypeDefTree, InterfaceItemTree, InterfaceTree}
pub use Rattle.wit_productions.specs.NameTree.{PackageNameTree, UsePathTree, id, in_package}

-- what stands behind import or export
pub data ExternTree : Type 0 where
  func : NamedFuncTree → ExternTree
  interface : InterfaceTree → ExternTree
  path : UsePathTree → ExternTree

-- name as other
pub record IncludeNameTree : Type 0 where
  pub name : Slice
  pub other : Slice

-- include path with { name as other, .. }
pub record IncludeTree : Type 0 where
  pub from : UsePathTree
  pub names : List IncludeNameTree

pub data WorldItemTree : Type 0 where
  import : ExternTree → WorldItemTree
  export : ExternTree → WorldItemTree
  uses : UseTree → WorldItemTree
  type_def : TypeDefTree → WorldItemTree
  include : IncludeTree → WorldItemTree

-- world name { item .. }
pub record WorldTree : Type 0 where
  pub name : Slice
  pub items : List (GatedTree WorldItemTree)

pub data AstItemTree : Type 0 where
  uses : ToplevelUseTree → AstItemTree
  interface : InterfaceTree → AstItemTree
  world : WorldTree → AstItemTree

-- package name { item .. }
pub record PackageTree : Type 0 where
  pub name : PackageNameTree
  pub items : List (GatedTree AstItemTree)

pub data FileItemTree : Type 0 where
  item : AstItemTree → FileItemTree
  nested : PackageTree → FileItemTree

-- package name;
pub record HeaderTree : Type 0 where
  pub docs : List Slice
  pub name : PackageNameTree

-- what stands first in a file where no attribute does: the name of its package, or an item
pub data OpeningTree : Type 0 where
  header : PackageNameTree → OpeningTree
  item : FileItemTree → OpeningTree

-- what stands first in a file: the name of its package, or an item and where it stands, behind its attributes
pub data FirstTree : Type 0 where
  header : PackageNameTree → FirstTree
  item : List AttributeTree → Span → FileItemTree → FirstTree

pub record FileTree : Type 0 where
  pub header : Option HeaderTree
  pub items : List (GatedTree FileItemTree)
