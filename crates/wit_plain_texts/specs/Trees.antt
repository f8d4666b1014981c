-- Names that have no marks in the tree of a text: of packages, of interfaces and worlds, and plain names within worlds (WIT).
use Rattle.std.specs.Prelude.{List, Option, Some, None, unwrap_or}
use Rattle.std.specs.List.{AllByRecursion as Each}
use Rattle.wit_words.specs.Slice.{Slice}
use Rattle.wit_nested.specs.Passed.wit_items-ItemTree as item
use Rattle.wit_nested.specs.Passed.wit_items-ItemTree.{GatedTree, UseNameTree, UseTree, NamedFuncTree, ResourceFuncTree, TypeDefKindTree, TypeDefTree, InterfaceTree}
use Rattle.wit_nested.specs.Passed.wit_syntax-Ast as tree
use Rattle.wit_nested.specs.Passed.wit_syntax-Ast.{PackageNameTree, ExternTree, IncludeNameTree, WorldItemTree, WorldTree, AstItemTree, PackageTree, FileItemTree, HeaderTree, FileTree}
use Rattle.wit_nested.specs.Passed.wit_scopes-Members.{resource_funcs}
use Rattle.wit_plain_texts.specs.Plain.{IsPlain}

abbrev pub IsPlainName : Slice → Type 0
IsPlainName n = IsPlain n.text

pub record IsPlainPackage (p : PackageNameTree) : Type 0 where
  pub namespace : IsPlainName p.namespace
  pub name : IsPlainName p.name

-- ---- items of worlds

-- the name under which a type is used
abbrev pub IsPlainUse : UseNameTree → Type 0
IsPlainUse n = IsPlainName (unwrap_or n.other n.name)

-- a function of a resource; a constructor has no name
abbrev pub IsPlainMethod : ResourceFuncTree → Type 0
IsPlainMethod (item.constructor ps t) = Unit {0}
IsPlainMethod (item.method f) = IsPlainName f.name
IsPlainMethod (item.static f) = IsPlainName f.name

abbrev pub ArePlainMethods : List (GatedTree ResourceFuncTree) → Type 0
ArePlainMethods fs = Each (λ (g : GatedTree ResourceFuncTree). IsPlainMethod g.item) fs

pub record IsPlainType (d : TypeDefTree) : Type 0 where
  pub name : IsPlainName d.name
  pub functions : ArePlainMethods (resource_funcs d.kind)

-- what a label names; a path has none
abbrev pub IsPlainExtern : ExternTree → Type 0
IsPlainExtern (tree.ExternTree.func f) = IsPlainName f.name
IsPlainExtern (tree.ExternTree.interface i) = IsPlainName i.name
IsPlainExtern (tree.ExternTree.path p) = Unit {0}

-- names to which an `include` changes others
abbrev pub ArePlainIncludes : List IncludeNameTree → Type 0
ArePlainIncludes ns = Each (λ (n : IncludeNameTree). IsPlainName n.other) ns

abbrev pub IsPlainWorldItem : WorldItemTree → Type 0
IsPlainWorldItem (tree.import e) = IsPlainExtern e
IsPlainWorldItem (tree.export e) = IsPlainExtern e
IsPlainWorldItem (tree.WorldItemTree.uses u) = Each IsPlainUse u.names
IsPlainWorldItem (tree.WorldItemTree.type_def d) = IsPlainType d
IsPlainWorldItem (tree.include i) = ArePlainIncludes i.names

-- ---- files

pub record IsPlainWorld (w : WorldTree) : Type 0 where
  pub name : IsPlainName w.name
  pub items : Each (λ (g : GatedTree WorldItemTree). IsPlainWorldItem g.item) w.items

abbrev pub IsPlainItem : AstItemTree → Type 0
IsPlainItem (tree.AstItemTree.uses u) = Unit {0}
IsPlainItem (tree.AstItemTree.interface i) = IsPlainName i.name
IsPlainItem (tree.AstItemTree.world w) = IsPlainWorld w

abbrev pub ArePlainItems : List (GatedTree AstItemTree) → Type 0
ArePlainItems gs = Each (λ (g : GatedTree AstItemTree). IsPlainItem g.item) gs

pub record IsPlainNested (p : PackageTree) : Type 0 where
  pub name : IsPlainPackage p.name
  pub items : ArePlainItems p.items

abbrev pub IsPlainFileItem : FileItemTree → Type 0
IsPlainFileItem (tree.FileItemTree.item i) = IsPlainItem i
IsPlainFileItem (tree.nested p) = IsPlainNested p

abbrev pub IsPlainHeader : Option HeaderTree → Type 0
IsPlainHeader None = Unit {0}
IsPlainHeader (Some h) = IsPlainPackage h.name

pub record IsPlainFile (f : FileTree) : Type 0 where
  pub header : IsPlainHeader f.header
  pub items : Each (λ (g : GatedTree FileItemTree). IsPlainFileItem g.item) f.items
