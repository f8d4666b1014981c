-- The trees of items but worlds, without where their names lie in memory (WIT).
use Rattle.std.specs.Prelude.{Bool, List, Option}
use Rattle.wit_productions.specs.Passed.wit_words-declared-source_map-Span.{Span}
use Rattle.wit_productions.specs.Passed.wit_words-Slice.{Slice}
use Rattle.wit_productions.specs.TypeTree.{TypeTree}
pub use Rattle.wit_productions.specs.NameTree.{PackageNameTree, UsePathTree, id, in_package}

-- since(version = ..), unstable(feature = ..), deprecated(version = ..)
pub data GateTree : Type 0 where
  since : Slice → GateTree
  unstable : Slice → GateTree
  deprecated : Slice → GateTree

-- the same, and where it stands behind its `@`
pub record AttributeTree : Type 0 where
  pub gate : GateTree
  pub span : Span

-- an item and where it stands, with the docs and attributes in front of it
pub record GatedTree (X : Type 0) : Type 0 where
  pub docs : List Slice
  pub attributes : List AttributeTree
  pub item : X
  pub span : Span

-- name as other
pub record UseNameTree : Type 0 where
  pub name : Slice
  pub other : Option Slice

-- use path.{name as other, ..};
pub record UseTree : Type 0 where
  pub from : UsePathTree
  pub names : List UseNameTree

-- use path as other;
pub record ToplevelUseTree : Type 0 where
  pub item : UsePathTree
  pub other : Option Slice

-- name: type
pub record ParamTree : Type 0 where
  pub name : Slice
  pub ty : TypeTree

-- async func(param, ..) -> type
pub record FuncTree : Type 0 where
  pub is_async : Bool
  pub params : List ParamTree
  pub result : Option TypeTree

-- name: func(..) -> type;
pub record NamedFuncTree : Type 0 where
  pub name : Slice
  pub func : FuncTree

-- name: type, in a record
pub record FieldTree : Type 0 where
  pub docs : List Slice
  pub name : Slice
  pub ty : TypeTree

-- name, in flags or an enum
pub record LabelTree : Type 0 where
  pub docs : List Slice
  pub name : Slice

-- name(type), in a variant
pub record CaseTree : Type 0 where
  pub docs : List Slice
  pub name : Slice
  pub ty : Option TypeTree

-- constructor(param, ..) -> type; or name: func ..; or name: static func ..;
pub data ResourceFuncTree : Type 0 where
  constructor : List ParamTree → Option TypeTree → ResourceFuncTree
  method : NamedFuncTree → ResourceFuncTree
  static : NamedFuncTree → ResourceFuncTree

-- what a name is defined as
pub data TypeDefKindTree : Type 0 where
  alias : TypeTree → TypeDefKindTree
  fields : List FieldTree → TypeDefKindTree
  flags : List LabelTree → TypeDefKindTree
  labels : List LabelTree → TypeDefKindTree
  cases : List CaseTree → TypeDefKindTree
  resource : List (GatedTree ResourceFuncTree) → TypeDefKindTree

pub record TypeDefTree : Type 0 where
  pub name : Slice
  pub kind : TypeDefKindTree

pub data InterfaceItemTree : Type 0 where
  uses : UseTree → InterfaceItemTree
  type_def : TypeDefTree → InterfaceItemTree
  func : NamedFuncTree → InterfaceItemTree

-- interface name { item .. }, or name: interface { item .. }
pub record InterfaceTree : Type 0 where
  pub name : Slice
  pub items : List (GatedTree InterfaceItemTree)
