-- Members that aren't used from elsewhere: their types alone may break something.
use Rattle.std.proofs.Common.{◌≡◌, List, map, refl, subst}
use Rattle.wit_productions.specs.declared.names.Id.{Id}
use Rattle.wit_syntax.specs.Ast.{PackageNameTree, ToplevelUseTree}
use Rattle.wit_scopes.specs.declared.paths.Target.{Target}
use Rattle.wit_scopes.specs.declared.members.MemberKind.{MemberKind as Kind}
use Rattle.wit_scopes.specs.declared.members.MemberKind.TheVariants as kinds
use Rattle.wit_scopes.specs.Members.{MemberKind}
use Rattle.wit_scopes.specs.Scopes.{ItemScope, WorldMemberTree}
use Rattle.wit_type_names.specs.TypeNames.{names_in_member}
use Rattle.wit_scopes.specs.View.{member_kind}
use Rattle.wit_rules.specs.declared.fault.PackageFault.{PackageFault}
use Rattle.wit_rules.specs.Breaks.{IsKept, IsFaultOf, AnyBreaks}
use Rattle.wit_lookups.specs.Lookups.{TypesBreak, MemberKindBreaks, WorldMemberBreaks, ItemsBreak, FileBreaks, AsksBreak, asks_in, LookupsBreak, by_item, by_file, by_asks}
use Rattle.wit_lookups.specs.Names.{Name, known_names}

module _ (scopes : List ItemScope) (types others : List Name) where
  pub own_kept : (k : Kind) → ((from : Target) (name : Id) → k ≡ kinds.Used from name → ⊥) → IsKept (TypesBreak types others (names_in_member (member_kind k))) → IsKept (MemberKindBreaks scopes types others (member_kind k))
  own_kept (kinds.Used f n) own h = absurd (own f n refl)
  own_kept (kinds.Defined d) own h = h
  own_kept (kinds.Function f) own h = h
  own_kept (kinds.Method r f) own h = h
  own_kept (kinds.Static r f) own h = h
  own_kept (kinds.Constructor r f) own h = h

  pub own_refused : (k : Kind) → ((from : Target) (name : Id) → k ≡ kinds.Used from name → ⊥) → (fault : PackageFault) → IsFaultOf (TypesBreak types others (names_in_member (member_kind k))) fault → IsFaultOf (MemberKindBreaks scopes types others (member_kind k)) fault
  own_refused (kinds.Used f n) own fault h = absurd (own f n refl)
  own_refused (kinds.Defined d) own fault h = h
  own_refused (kinds.Function f) own fault h = h
  own_refused (kinds.Method r f) own fault h = h
  own_refused (kinds.Static r f) own fault h = h
  own_refused (kinds.Constructor r f) own fault h = h

-- the same of names that are equal
pub same_kept : (scopes : List ItemScope) (t u o p : List Name) (k : MemberKind) → t ≡ u → o ≡ p → IsKept (MemberKindBreaks scopes t o k) → IsKept (MemberKindBreaks scopes u p k)
same_kept scopes t u o p k types others h =
    subst (λ (z : List Name). IsKept (MemberKindBreaks scopes u z k)) others (subst (λ (z : List Name). IsKept (MemberKindBreaks scopes z o k)) types h)

pub same_refused : (scopes : List ItemScope) (t u o p : List Name) (k : MemberKind) (fault : PackageFault) → t ≡ u → o ≡ p → IsFaultOf (MemberKindBreaks scopes t o k) fault → IsFaultOf (MemberKindBreaks scopes u p k) fault
same_refused scopes t u o p k fault types others h =
    subst (λ (z : List Name). IsFaultOf (MemberKindBreaks scopes u z k) fault) others (subst (λ (z : List Name). IsFaultOf (MemberKindBreaks scopes z o k) fault) types h)

pub same_world_kept : (scopes : List ItemScope) (known t u o p : List Name) (m : WorldMemberTree) → t ≡ u → o ≡ p → IsKept (WorldMemberBreaks scopes known t o m) → IsKept (WorldMemberBreaks scopes known u p m)
same_world_kept scopes known t u o p m types others h =
    subst (λ (z : List Name). IsKept (WorldMemberBreaks scopes known u z m)) others (subst (λ (z : List Name). IsKept (WorldMemberBreaks scopes known z o m)) types h)

pub same_world_refused : (scopes : List ItemScope) (known t u o p : List Name) (m : WorldMemberTree) (fault : PackageFault) → t ≡ u → o ≡ p → IsFaultOf (WorldMemberBreaks scopes known t o m) fault → IsFaultOf (WorldMemberBreaks scopes known u p m) fault
same_world_refused scopes known t u o p m fault types others h =
    subst (λ (z : List Name). IsFaultOf (WorldMemberBreaks scopes known u z m) fault) others (subst (λ (z : List Name). IsFaultOf (WorldMemberBreaks scopes known z o m) fault) types h)

-- a package of which no part breaks anything
pub lookups_kept : (me : PackageNameTree) (uses : List (List ToplevelUseTree)) (scopes : List ItemScope) → IsKept (ItemsBreak scopes (map known_names uses)) → IsKept (AnyBreaks (FileBreaks me scopes) uses) → IsKept (AsksBreak (asks_in scopes)) → IsKept (LookupsBreak me uses scopes)
lookups_kept me uses scopes items tops asks rule at (by_item b) = items rule at b
lookups_kept me uses scopes items tops asks rule at (by_file b) = tops rule at b
lookups_kept me uses scopes items tops asks rule at (by_asks b) = asks rule at b
