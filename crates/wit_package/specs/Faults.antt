-- What the files of a package break (WIT, Packages, Name Resolution, Types).
use Rattle.std.specs.Prelude.{◌≡◌, List, ◌∷◌, map, Some}
use Rattle.wit_words.specs.declared.source_map.Span.{Span}
use Rattle.wit_syntax.specs.Ast.{PackageNameTree, FileTree}
use Rattle.wit_scopes.specs.Paths.{file_uses}
use Rattle.wit_scopes.specs.Members.{MemberTree}
use Rattle.wit_scopes.specs.Scopes as scope
use Rattle.wit_scopes.specs.Scopes.{ListedTree, InterfaceScope, WorldScope, ItemScope, package_scopes}
use Rattle.wit_rules.specs.declared.fault.PackageRule.{PackageRule}
use Rattle.wit_rules.specs.declared.fault.PackageRule.TheVariants.{NameNotFound, Cycle}
use Rattle.wit_rules.specs.declared.fault.PackageFault.{PackageFault}
use Rattle.wit_rules.specs.declared.fault.PackageFault.TheVariants.{OutOfMemory, Syntax, Broken}
use Rattle.wit_rules.specs.Breaks.{Breaks, AnyBreaks, VersionWhereBreaks}
use Rattle.wit_rules.specs.Facts.{FilesBreak, package_name}
use Rattle.wit_checked_lookups.specs.Passed.wit_lookups-Lookups.{LookupsBreak}
use Rattle.wit_built_worlds.specs.Passed.wit_orders-Needs.{item_entry, types_of, CircleBreaks}
use Rattle.wit_arena.specs.Tree.{PackageText, Place, in_interface, in_world, in_listed}
use Rattle.wit_arena.specs.Meaning.{Has, package_text}
use Rattle.wit_placeholders.specs.Passed.wit_foreign-Needs.{NeedTree}
use Rattle.wit_package.specs.TopUses.{files_need}
use Rattle.wit_built_worlds.specs.Passed.wit_resolved_scopes-Faults.{ScopeBreaks}
use Rattle.wit_built_worlds.specs.Passed.wit_resolved_scopes-Texts.{own_members}

-- the scopes of a package: its interfaces, its worlds, and the interfaces that stand in these, each with its members
pub data IsScopeAt (scopes : List ItemScope) : Place → List MemberTree → Type 0 where
  interface_at : (i : InterfaceScope) → Has scopes (scope.ItemScope.interface i) → IsScopeAt scopes (in_interface i.name.text) i.members
  world_at : (w : WorldScope) → Has scopes (scope.world w) → IsScopeAt scopes (in_world w.name.text) (own_members w.members)
  listed_at : (w : WorldScope) (l : ListedTree) (ms : List MemberTree) → Has scopes (scope.world w) → Has w.members (scope.listed l) → l.kind ≡ scope.ExternKind.interface ms → IsScopeAt scopes (in_listed w.name.text l.side l.name.text) ms

-- one of them leads back to itself, or has a member that breaks a rule over the meaning of names
pub record OneScopeBreaks (me : PackageText) (scopes : List ItemScope) (rule : PackageRule) (at : Span) : Type 0 where
  pub place : Place
  pub members : List MemberTree
  pub there : IsScopeAt scopes place members
  pub breaks : ScopeBreaks me scopes place (types_of members) members rule at

-- `semver` doesn't read the version of a package that is named
abbrev pub VersionsBreak : List PackageNameTree → Breaks
VersionsBreak names = AnyBreaks (λ (p : PackageNameTree). VersionWhereBreaks p.version) names

-- the names of packages of which a version has to be read: its own, and those of which something is asked
abbrev pub packages_in : List NeedTree → List PackageNameTree
packages_in needs = map (λ (n : NeedTree). n.«package») needs

abbrev pub named_packages : PackageNameTree → List FileTree → List PackageNameTree
named_packages me files = me ∷ packages_in (files_need me files)

-- the files of a package: they break a rule by themselves, or over their names, or lead back to themselves, or one of their scopes does
pub data PackageBreaks (files : List FileTree) (rule : PackageRule) (at : Span) : Type 0 where
  by_files : FilesBreak files rule at → PackageBreaks files rule at
  by_lookups : (me : PackageNameTree) → package_name files ≡ Some me → LookupsBreak me (file_uses files) (package_scopes me files) rule at → PackageBreaks files rule at
  by_versions : (me : PackageNameTree) → package_name files ≡ Some me → VersionsBreak (named_packages me files) rule at → PackageBreaks files rule at
  by_circle : (me : PackageNameTree) → package_name files ≡ Some me → CircleBreaks (map item_entry (package_scopes me files)) rule at → PackageBreaks files rule at
  by_scope : (me : PackageNameTree) → package_name files ≡ Some me → OneScopeBreaks (package_text me) (package_scopes me files) rule at → PackageBreaks files rule at

-- a name that isn't there comes before a circle: where a circle is answered, no name is missing
abbrev pub MissingComesFirst : List FileTree → PackageFault → Type 0
MissingComesFirst files OutOfMemory = Unit {0}
MissingComesFirst files (Syntax f) = Unit {0}
MissingComesFirst files (Broken rule at) = rule ≡ Cycle → (place : Span) → PackageBreaks files NameNotFound place → ⊥
