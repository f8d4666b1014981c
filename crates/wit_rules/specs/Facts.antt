-- What the files of a package break by themselves.
use Rattle.std.specs.Prelude.{◌≡◌, ℕ, Bool, true, false, List, [], ◌∷◌, map, flat_map, Option, Some, None}
use Rattle.wit_scopes.specs.Passed.wit_words-declared-source_map-Span.{Span}
use Rattle.wit_scopes.specs.Passed.wit_words-Slice.{Slice}
use Rattle.wit_scopes.specs.Passed.wit_items-ItemTree as item
use Rattle.wit_scopes.specs.Passed.wit_items-ItemTree.{TypeDefKindTree}
use Rattle.wit_scopes.specs.Passed.wit_syntax-Ast.{PackageNameTree, GatedTree, FileItemTree, HeaderTree, FileTree}
use Rattle.wit_scopes.specs.declared.worlds.Side.{Side}
use Rattle.wit_scopes.specs.declared.worlds.Side.TheVariants.{Import, Export}
use Rattle.wit_scopes.specs.Paths.{same_package}
use Rattle.wit_scopes.specs.Members.{MemberKind, MemberTree, used, defined, function, method, static, constructor}
use Rattle.wit_scopes.specs.Scopes as scope
use Rattle.wit_scopes.specs.Scopes.{ExternKind, ListedTree, WorldMemberTree, InterfaceScope, WorldScope, ItemScope, package_scopes}
use Rattle.wit_rules.specs.declared.fault.PackageRule.{PackageRule}
use Rattle.wit_rules.specs.declared.fault.PackageRule.TheVariants.{NoPackageName, PackageMismatch, EmptyCases}
use Rattle.wit_rules.specs.Labels.{member_label, param_names, names_within, side_labels, side_paths, scope_name, file_labels}
use Rattle.wit_rules.specs.Breaks.{Breaks, IsKept, AnyBreaks, NamesBreak, PathsBreak, GatesBreak}

-- ---- members

abbrev pub is_empty : {X : Type 0} → List X → Bool
is_empty [] = true
is_empty (x ∷ xs) = false

-- a definition of an enum or a variant without a case
abbrev pub kind_has_no_case : TypeDefKindTree → Bool
kind_has_no_case (item.alias t) = false
kind_has_no_case (item.fields fs) = false
kind_has_no_case (item.flags fs) = false
kind_has_no_case (item.labels ls) = is_empty ls
kind_has_no_case (item.cases cs) = is_empty cs
kind_has_no_case (item.resource fs) = false

abbrev pub has_no_case : MemberKind → Bool
has_no_case (used t n) = false
has_no_case (defined k) = kind_has_no_case k
has_no_case (function f) = false
has_no_case (method r f) = false
has_no_case (static r f) = false
has_no_case (constructor r ps t) = false

-- an enum or a variant has no case (WIT, Items: `variant` and `enum`): a break at its name
pub record CasesBreak (m : MemberTree) (rule : PackageRule) (at : Span) : Type 0 where
  pub rule_is : rule ≡ EmptyCases
  pub none : has_no_case m.kind ≡ true
  pub place : m.name.span ≡ at

pub data MemberBreaks (m : MemberTree) (rule : PackageRule) (at : Span) : Type 0 where
  by_gates : GatesBreak m.attributes rule at → MemberBreaks m rule at
  by_cases : CasesBreak m rule at → MemberBreaks m rule at
  by_names : NamesBreak (names_within m.kind m.name) rule at → MemberBreaks m rule at

-- one of the members does, or two of them have names of one key
pub data MembersBreak (ms : List MemberTree) (rule : PackageRule) (at : Span) : Type 0 where
  by_member : AnyBreaks MemberBreaks ms rule at → MembersBreak ms rule at
  by_names : NamesBreak (map member_label ms) rule at → MembersBreak ms rule at

-- ---- worlds

abbrev pub ExternBreaks : ExternKind → Breaks
ExternBreaks (scope.ExternKind.function f) = NamesBreak (param_names f.params)
ExternBreaks (scope.ExternKind.interface ms) = MembersBreak ms
ExternBreaks (scope.item t) = λ rule at. ⊥

pub data ListedBreaks (l : ListedTree) (rule : PackageRule) (at : Span) : Type 0 where
  by_gates : GatesBreak l.attributes rule at → ListedBreaks l rule at
  by_extern : ExternBreaks l.kind rule at → ListedBreaks l rule at

abbrev pub WorldMemberBreaks : WorldMemberTree → Breaks
WorldMemberBreaks (scope.member m) = MemberBreaks m
WorldMemberBreaks (scope.listed l) = ListedBreaks l
WorldMemberBreaks (scope.included i) = GatesBreak i.attributes

-- on one side two names have one key, or two paths are spelled alike
pub data SideBreaks (side : Side) (ms : List WorldMemberTree) (rule : PackageRule) (at : Span) : Type 0 where
  by_labels : NamesBreak (flat_map (side_labels side) ms) rule at → SideBreaks side ms rule at
  by_paths : PathsBreak (flat_map (side_paths side) ms) rule at → SideBreaks side ms rule at

-- one of the members does, or one of the sides
pub data WorldBreaks (ms : List WorldMemberTree) (rule : PackageRule) (at : Span) : Type 0 where
  by_member : AnyBreaks WorldMemberBreaks ms rule at → WorldBreaks ms rule at
  by_imports : SideBreaks Import ms rule at → WorldBreaks ms rule at
  by_exports : SideBreaks Export ms rule at → WorldBreaks ms rule at

-- ---- packages

pub data InterfaceBreaks (i : InterfaceScope) (rule : PackageRule) (at : Span) : Type 0 where
  by_gates : GatesBreak i.attributes rule at → InterfaceBreaks i rule at
  by_members : MembersBreak i.members rule at → InterfaceBreaks i rule at

pub data WorldItemBreaks (w : WorldScope) (rule : PackageRule) (at : Span) : Type 0 where
  by_gates : GatesBreak w.attributes rule at → WorldItemBreaks w rule at
  by_members : WorldBreaks w.members rule at → WorldItemBreaks w rule at

abbrev pub ScopeBreaks : ItemScope → Breaks
ScopeBreaks (scope.ItemScope.interface i) = InterfaceBreaks i
ScopeBreaks (scope.world w) = WorldItemBreaks w

-- one of them does, or two of them have names of one key
pub data ScopesBreak (ss : List ItemScope) (rule : PackageRule) (at : Span) : Type 0 where
  by_scope : AnyBreaks ScopeBreaks ss rule at → ScopesBreak ss rule at
  by_names : NamesBreak (map scope_name ss) rule at → ScopesBreak ss rule at

abbrev pub FileBreaks : FileTree → Breaks
FileBreaks f = NamesBreak (file_labels f)

-- where a package's name ends
abbrev pub name_end : PackageNameTree → Option Slice → ℕ
name_end p None = p.name.span.end
name_end p (Some v) = v.span.end

abbrev pub name_span : PackageNameTree → Span
name_span p = record { start = p.namespace.span.start; end = name_end p p.version }

-- the header of a file names another package (WIT, Packages): a break at that name
pub record HeaderBreaks (me : PackageNameTree) (f : FileTree) (rule : PackageRule) (at : Span) : Type 0 where
  pub rule_is : rule ≡ PackageMismatch
  pub header : HeaderTree
  pub there : f.header ≡ Some header
  pub differs : same_package me header.name ≡ false
  pub place : name_span header.name ≡ at

-- the files of a package of that name: a header names another, its interfaces and worlds break a rule, or two names of one file have one key
pub data PackageBreaks (me : PackageNameTree) (files : List FileTree) (rule : PackageRule) (at : Span) : Type 0 where
  by_header : AnyBreaks (HeaderBreaks me) files rule at → PackageBreaks me files rule at
  by_scopes : ScopesBreak (package_scopes me files) rule at → PackageBreaks me files rule at
  by_file : AnyBreaks FileBreaks files rule at → PackageBreaks me files rule at

abbrev pub name_of_header : Option HeaderTree → Option PackageNameTree → Option PackageNameTree
name_of_header None other = other
name_of_header (Some h) other = Some h.name

-- the name that the first header gives the package
abbrev pub package_name : List FileTree → Option PackageNameTree
package_name [] = None
package_name (f ∷ fs) = name_of_header f.header (package_name fs)

-- where the first of items stands, or else something
abbrev pub place_or : Span → List (GatedTree FileItemTree) → Span
place_or other [] = other
place_or other (g ∷ gs) = g.span

-- where a header is wanted: in front of the first item of files, nowhere where there is none
abbrev pub header_place : List FileTree → Span
header_place [] = record { start = 0; end = 0 }
header_place (f ∷ fs) = place_or (header_place fs) f.items

-- no file has a header, or the package that the first one names has a break
pub data FilesBreak (files : List FileTree) (rule : PackageRule) (at : Span) : Type 0 where
  no_header : rule ≡ NoPackageName → package_name files ≡ None → at ≡ header_place files → FilesBreak files rule at
  in_package : (me : PackageNameTree) → package_name files ≡ Some me → PackageBreaks me files rule at → FilesBreak files rule at

-- no header of files names another package than this, and no file has two names of one key
pub record AreFilesKept (me : PackageNameTree) (files : List FileTree) : Type 0 where
  pub headers : IsKept (AnyBreaks (HeaderBreaks me) files)
  pub names : IsKept (AnyBreaks FileBreaks files)

-- besides, the first header names it
pub record IsNamed (files : List FileTree) (me : PackageNameTree) : Type 0 where
  pub named : package_name files ≡ Some me
  pub kept : AreFilesKept me files

-- what the files of a package declare that break no rule by themselves
pub record IsDeclared (files : List FileTree) (me : PackageNameTree) (scopes : List ItemScope) : Type 0 where
  pub named : package_name files ≡ Some me
  pub scopes_are : scopes ≡ package_scopes me files
  pub kept : IsKept (FilesBreak files)
