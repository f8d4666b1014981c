-- The types of a world and of the interfaces that stand in it are declared there.
use Rattle.std.proofs.Common.{List, inl, inr, sym, subst}
use Rattle.wit_scopes.specs.Members.{MemberTree}
use Rattle.wit_scopes.specs.Scopes as scope
use Rattle.wit_scopes.specs.Scopes.{ExternKind, ListedTree, WorldMemberTree, WorldScope, ItemScope}
use Rattle.wit_interfaces.specs.Passed.wit_orders-Needs.{types_of}
use Rattle.wit_interfaces.specs.Passed.wit_arena-Tree.{in_world}
use Rattle.wit_interfaces.specs.Passed.wit_arena-Meaning.{Has, Declares, world_declares, listed_declares}
use Rattle.wit_interfaces.specs.Passed.wit_arena-Standing.{IsOfType}
use Rattle.wit_interfaces.specs.Passed.wit_resolved_scopes-Texts.{InterfaceText, labelled_texts, own_members}
use Rattle.wit_interfaces.proofs.Passed.wit_resolved_scopes-Declaring.{type_among}
use Rattle.wit_readiness.proofs.Labelled.{labelled_given}
use Rattle.wit_readiness.proofs.Worlds.{own_cases}

module _ (scopes : List ItemScope) (w : WorldScope) (there : Has scopes (scope.world w)) where
  pub own_declared : (m : MemberTree) → Has (types_of (own_members w.members)) m → Declares scopes (in_world w.name.text) m.name.text m.kind
  own_declared m has =
      let t = type_among (own_members w.members) m has in
      elim (own_cases w.members m t.1) as (λ _. Declares scopes (in_world w.name.text) m.name.text m.kind) [
        | inl here ↦ world_declares w m there here
        | inr f ↦ absurd (subst IsOfType f.kind t.0)
      ]

  pub labelled_declared : (t : InterfaceText) → Has (labelled_texts w) t → (m : MemberTree) → Has (types_of t.members) m → Declares scopes t.place m.name.text m.kind
  labelled_declared t h m of =
      let g = labelled_given w t h in
      subst (λ (u : InterfaceText). Declares scopes u.place m.name.text m.kind) (sym g.is)
      (listed_declares w g.listed g.members m there g.there g.kind (type_among g.members m (subst (λ (u : InterfaceText). Has (types_of u.members) m) g.is of)).1)
