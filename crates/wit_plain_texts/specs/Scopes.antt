-- Names that have no marks in the scopes of a package (WIT, Packages, Nested Packages).
use Rattle.std.specs.Prelude.{◌≡◌, List, Some}
use Rattle.std.specs.List.{AllByRecursion as Each}
use Rattle.wit_words.specs.Slice.{Slice}
use Rattle.wit_nested.specs.Passed.wit_syntax-Ast.{PackageNameTree, FileTree}
use Rattle.wit_nested.specs.Passed.wit_scopes-Members.{MemberTree}
use Rattle.wit_nested.specs.Passed.wit_scopes-Scopes as scope
use Rattle.wit_nested.specs.Passed.wit_scopes-Scopes.{ExternKind, WorldMemberTree, ItemScope, package_scopes}
use Rattle.wit_rules.specs.Facts.{package_name}
use Rattle.wit_rules.specs.Labels.{full_name}
use Rattle.wit_nested.specs.Nested.{own_files, nested_files}
use Rattle.wit_plain_texts.specs.Plain.{IsPlain}
use Rattle.wit_plain_texts.specs.Trees.{IsPlainName, IsPlainPackage, ArePlainIncludes, IsPlainFile}

-- a member of a world, with the name of its resource if it is of one
abbrev pub IsPlainMember : MemberTree → Type 0
IsPlainMember m = IsPlain (full_name m.kind m.name)

-- what a world imports or exports under a label
abbrev pub IsPlainListed : ExternKind → Slice → Type 0
IsPlainListed (scope.ExternKind.function f) n = IsPlainName n
IsPlainListed (scope.ExternKind.interface ms) n = IsPlainName n
IsPlainListed (scope.item t) n = Unit {0}

abbrev pub IsPlainWorldMember : WorldMemberTree → Type 0
IsPlainWorldMember (scope.member m) = IsPlainMember m
IsPlainWorldMember (scope.listed l) = IsPlainListed l.kind l.name
IsPlainWorldMember (scope.included i) = ArePlainIncludes i.names

abbrev pub IsPlainScope : ItemScope → Type 0
IsPlainScope (scope.ItemScope.interface i) = IsPlainName i.name
IsPlainScope (scope.world w) = Each IsPlainWorldMember w.members

-- those of files whose names have none have none
abbrev pub ScopesArePlain : Type 0
ScopesArePlain = (me : PackageNameTree) (files : List FileTree) → Each IsPlainFile files → Each IsPlainScope (package_scopes me files)

-- nor has the name that a header gives the package
abbrev pub PackagesArePlain : Type 0
PackagesArePlain = (me : PackageNameTree) (files : List FileTree) → Each IsPlainFile files → package_name files ≡ Some me → IsPlainPackage me

-- without the packages nested in them, and these as files of their own, they have none either
abbrev pub NestedFilesArePlain : Type 0
NestedFilesArePlain = (files : List FileTree) → Each IsPlainFile files → Each IsPlainFile (own_files files) × Each IsPlainFile (nested_files files)
