-- What stands in a world under a label.
use Rattle.std.proofs.Common.{◌≡◌, List, refl}
use Rattle.wit_foreign.specs.Passed.wit_scopes-Members.{MemberTree}
use Rattle.wit_foreign.specs.Passed.wit_scopes-Scopes as scope
use Rattle.wit_foreign.specs.Passed.wit_scopes-Scopes.{ExternKind, ListedTree, WorldMemberTree, WorldScope}
use Rattle.wit_foreign.specs.Passed.wit_arena-Meaning.{Has}
use Rattle.wit_foreign.proofs.Passed.wit_arena-Lists.{has_none}
use Rattle.wit_resolved_scopes.specs.Texts.{InterfaceText, listed_text, extern_texts, member_texts, labelled_texts}
use Rattle.wit_readiness.proofs.Flat.{has_one, in_flat}

-- an interface that stands in a world is that of an import or export
pub record IsListed (w : WorldScope) (t : InterfaceText) : Type 0 where
  pub listed : ListedTree
  pub members : List MemberTree
  pub there : Has w.members (scope.listed listed)
  pub kind : listed.kind ≡ scope.ExternKind.interface members
  pub is : t ≡ listed_text w.name.text listed members

pub labelled_given : (w : WorldScope) (t : InterfaceText) → Has (labelled_texts w) t → IsListed w t
labelled_given w t h = by r.0 r.1 r.2
  where
    r : (x : WorldMemberTree) × Has w.members x × Has (member_texts w.name.text x) t
    r = in_flat (member_texts w.name.text) w.members t h

    listed : (l : ListedTree) → Has w.members (scope.listed l) → (k : ExternKind) → l.kind ≡ k → Has (extern_texts w.name.text l k) t → IsListed w t
    listed l here (scope.ExternKind.function f) e given = absurd (has_none t given)
    listed l here (scope.ExternKind.interface ns) e given = record { listed = l; members = ns; there = here; kind = e; is = has_one (listed_text w.name.text l ns) t given }
    listed l here (scope.item p) e given = absurd (has_none t given)

    by : (x : WorldMemberTree) → Has w.members x → Has (member_texts w.name.text x) t → IsListed w t
    by (scope.member m) here given = absurd (has_none t given)
    by (scope.listed l) here given = listed l here l.kind refl given
    by (scope.included i) here given = absurd (has_none t given)
