-- What keeps all rules of its parts keeps all of its own.
use Rattle.std.proofs.Common.{◌≡◌, List, Some, None, map, sym, subst, ◌∙◌}
use Rattle.std.proofs.lemmas.Option.{same_Some}
use Rattle.std.specs.Prelude.{flat_map}
use Rattle.wit_syntax.specs.Ast.{PackageNameTree, FileTree}
use Rattle.wit_scopes.specs.declared.worlds.Side.{Side}
use Rattle.wit_scopes.specs.declared.worlds.Side.TheVariants.{Import, Export}
use Rattle.wit_scopes.specs.Members.{MemberTree}
use Rattle.wit_scopes.specs.Scopes.{ListedTree, WorldMemberTree, InterfaceScope, WorldScope, ItemScope, package_scopes}
use Rattle.wit_rules.specs.Labels.{member_label, names_within, side_labels, side_paths, scope_name}
use Rattle.wit_rules.specs.Breaks.{IsKept, AnyBreaks, NamesBreak, PathsBreak, GatesBreak}
use Rattle.wit_rules.specs.Facts as fact
use Rattle.wit_rules.specs.Facts.{CasesBreak, MemberBreaks, MembersBreak, ExternBreaks, ListedBreaks, WorldMemberBreaks, SideBreaks, WorldBreaks, InterfaceBreaks, WorldItemBreaks, ScopeBreaks, ScopesBreak, FileBreaks, HeaderBreaks, PackageBreaks, FilesBreak, package_name, IsNamed, IsDeclared}

pub member_kept : (m : MemberTree) → IsKept (GatesBreak m.attributes) → IsKept (CasesBreak m) → IsKept (NamesBreak (names_within m.kind m.name)) → IsKept (MemberBreaks m)
member_kept m gates cases names rule at (fact.MemberBreaks.by_gates b) = gates rule at b
member_kept m gates cases names rule at (fact.by_cases b) = cases rule at b
member_kept m gates cases names rule at (fact.MemberBreaks.by_names b) = names rule at b

pub members_kept : (ms : List MemberTree) → IsKept (AnyBreaks MemberBreaks ms) → IsKept (NamesBreak (map member_label ms)) → IsKept (MembersBreak ms)
members_kept ms each names rule at (fact.MembersBreak.by_member b) = each rule at b
members_kept ms each names rule at (fact.MembersBreak.by_names b) = names rule at b

pub listed_kept : (l : ListedTree) → IsKept (GatesBreak l.attributes) → IsKept (ExternBreaks l.kind) → IsKept (ListedBreaks l)
listed_kept l gates kind rule at (fact.ListedBreaks.by_gates b) = gates rule at b
listed_kept l gates kind rule at (fact.by_extern b) = kind rule at b

pub side_kept : (side : Side) (ms : List WorldMemberTree) → IsKept (NamesBreak (flat_map (side_labels side) ms)) → IsKept (PathsBreak (flat_map (side_paths side) ms)) → IsKept (SideBreaks side ms)
side_kept side ms labels paths rule at (fact.by_labels b) = labels rule at b
side_kept side ms labels paths rule at (fact.by_paths b) = paths rule at b

pub world_kept : (ms : List WorldMemberTree) → IsKept (AnyBreaks WorldMemberBreaks ms) → IsKept (SideBreaks Import ms) → IsKept (SideBreaks Export ms) → IsKept (WorldBreaks ms)
world_kept ms each imports exports rule at (fact.WorldBreaks.by_member b) = each rule at b
world_kept ms each imports exports rule at (fact.by_imports b) = imports rule at b
world_kept ms each imports exports rule at (fact.by_exports b) = exports rule at b

pub interface_kept : (i : InterfaceScope) → IsKept (GatesBreak i.attributes) → IsKept (MembersBreak i.members) → IsKept (InterfaceBreaks i)
interface_kept i gates members rule at (fact.InterfaceBreaks.by_gates b) = gates rule at b
interface_kept i gates members rule at (fact.InterfaceBreaks.by_members b) = members rule at b

pub world_item_kept : (w : WorldScope) → IsKept (GatesBreak w.attributes) → IsKept (WorldBreaks w.members) → IsKept (WorldItemBreaks w)
world_item_kept w gates members rule at (fact.WorldItemBreaks.by_gates b) = gates rule at b
world_item_kept w gates members rule at (fact.WorldItemBreaks.by_members b) = members rule at b

pub scopes_kept : (ss : List ItemScope) → IsKept (AnyBreaks ScopeBreaks ss) → IsKept (NamesBreak (map scope_name ss)) → IsKept (ScopesBreak ss)
scopes_kept ss each names rule at (fact.by_scope b) = each rule at b
scopes_kept ss each names rule at (fact.ScopesBreak.by_names b) = names rule at b

pub package_kept : (me : PackageNameTree) (files : List FileTree) → IsKept (AnyBreaks (HeaderBreaks me) files) → IsKept (ScopesBreak (package_scopes me files)) → IsKept (AnyBreaks FileBreaks files) → IsKept (PackageBreaks me files)
package_kept me files headers scopes each rule at (fact.by_header b) = headers rule at b
package_kept me files headers scopes each rule at (fact.by_scopes b) = scopes rule at b
package_kept me files headers scopes each rule at (fact.by_file b) = each rule at b

pub files_kept : (me : PackageNameTree) (files : List FileTree) → package_name files ≡ Some me → IsKept (PackageBreaks me files) → IsKept (FilesBreak files)
files_kept me files named kept rule at (fact.no_header is none place) = (let e : Some me ≡ None = sym named ∙ none in absurd cc)
files_kept me files named kept rule at (fact.in_package other is b) = kept rule at (subst (λ (p : PackageNameTree). PackageBreaks p files rule at) (same_Some other me (sym is ∙ named)) b)

-- files whose headers, names, interfaces and worlds break no rule
pub declared_kept : (files : List FileTree) (me : PackageNameTree) (scopes : List ItemScope) → IsNamed files me → scopes ≡ package_scopes me files → IsKept (ScopesBreak (package_scopes me files)) → IsDeclared files me scopes
declared_kept files me scopes by are kept = record { named = by.named; scopes_are = are; kept = files_kept me files by.named (package_kept me files by.kept.headers kept by.kept.names) }
