-- The parts of a package that keeps its rules keep theirs.
use Rattle.std.proofs.Common.{◌≡◌, List, sym, subst}
use Rattle.wit_foreign.specs.Passed.wit_syntax-Ast.{PackageNameTree, FileTree}
use Rattle.wit_foreign.specs.Passed.wit_scopes-declared-worlds-Side.{Side}
use Rattle.wit_foreign.specs.Passed.wit_scopes-declared-worlds-Side-TheVariants.{Import, Export}
use Rattle.wit_foreign.specs.Passed.wit_scopes-Members.{MemberTree}
use Rattle.wit_foreign.specs.Passed.wit_scopes-Scopes as scope
use Rattle.wit_foreign.specs.Passed.wit_scopes-Scopes.{ListedTree, IncludedTree, WorldMemberTree, InterfaceScope, WorldScope, ItemScope}
use Rattle.wit_foreign.specs.Passed.wit_rules-Breaks.{IsKept}
use Rattle.wit_foreign.specs.Passed.wit_rules-Facts as fact
use Rattle.wit_foreign.specs.Passed.wit_rules-Facts.{MembersBreak, WorldMemberBreaks, SideBreaks, WorldBreaks, ScopeBreaks, ScopesBreak, IsDeclared}
use Rattle.wit_foreign.specs.Passed.wit_arena-Meaning.{Has}
use Rattle.wit_foreign.specs.Passed.wit_package_types-Stability.{AreGates}
use Rattle.wit_foreign.proofs.Passed.wit_package_types-Gated.{gates_ready}

pub declared_kept : (files : List FileTree) (me : PackageNameTree) (scopes : List ItemScope) → IsDeclared files me scopes → IsKept (ScopesBreak scopes)
declared_kept files me scopes d rule at b = d.kept rule at (fact.in_package me d.named (fact.by_scopes (subst (λ (ss : List ItemScope). ScopesBreak ss rule at) d.scopes_are b)))

-- ---- worlds

module _ (ms : List WorldMemberTree) (kept : IsKept (WorldBreaks ms)) where
  pub side_keeps : (side : Side) → IsKept (SideBreaks side ms)
  side_keeps Import rule at b = kept rule at (fact.by_imports b)
  side_keeps Export rule at b = kept rule at (fact.by_exports b)

  pub world_member_keeps : (x : WorldMemberTree) → Has ms x → IsKept (WorldMemberBreaks x)
  world_member_keeps x (k, there) rule at b = kept rule at (fact.WorldBreaks.by_member (record { place = k; one = x; there = there; breaks = b }))

  pub own_gates : (m : MemberTree) → Has ms (scope.member m) → AreGates m.attributes
  own_gates m has = gates_ready m.attributes (λ rule at b. world_member_keeps (scope.member m) has rule at (fact.MemberBreaks.by_gates b))

  pub listed_gates : (l : ListedTree) → Has ms (scope.listed l) → AreGates l.attributes
  listed_gates l has = gates_ready l.attributes (λ rule at b. world_member_keeps (scope.listed l) has rule at (fact.ListedBreaks.by_gates b))

  pub included_gates : (i : IncludedTree) → Has ms (scope.included i) → AreGates i.attributes
  included_gates i has = gates_ready i.attributes (λ rule at b. world_member_keeps (scope.included i) has rule at b)

  pub listed_members_keep : (l : ListedTree) (ns : List MemberTree) → Has ms (scope.listed l) → l.kind ≡ scope.ExternKind.interface ns → IsKept (MembersBreak ns)
  listed_members_keep l ns has is rule at b =
      world_member_keeps (scope.listed l) has rule at (fact.by_extern (subst (λ (k : scope.ExternKind). fact.ExternBreaks k rule at) (sym is) b))

-- ---- packages

module _ (scopes : List ItemScope) (kept : IsKept (ScopesBreak scopes)) where
  scope_keeps : (s : ItemScope) → Has scopes s → IsKept (ScopeBreaks s)
  scope_keeps s (k, there) rule at b = kept rule at (fact.by_scope (record { place = k; one = s; there = there; breaks = b }))

  pub members_keep : (i : InterfaceScope) → Has scopes (scope.ItemScope.interface i) → IsKept (MembersBreak i.members)
  members_keep i has rule at b = scope_keeps (scope.ItemScope.interface i) has rule at (fact.InterfaceBreaks.by_members b)

  pub interface_gates : (i : InterfaceScope) → Has scopes (scope.ItemScope.interface i) → AreGates i.attributes
  interface_gates i has = gates_ready i.attributes (λ rule at b. scope_keeps (scope.ItemScope.interface i) has rule at (fact.InterfaceBreaks.by_gates b))

  pub world_keeps : (w : WorldScope) → Has scopes (scope.world w) → IsKept (WorldBreaks w.members)
  world_keeps w has rule at b = scope_keeps (scope.world w) has rule at (fact.WorldItemBreaks.by_members b)

  pub world_gates : (w : WorldScope) → Has scopes (scope.world w) → AreGates w.attributes
  world_gates w has = gates_ready w.attributes (λ rule at b. scope_keeps (scope.world w) has rule at (fact.WorldItemBreaks.by_gates b))
