-- What the interfaces and worlds of a package break in their order, its scopes do.
use Rattle.std.proofs.Common.{◌≡◌, List, [], sym, subst}
use Rattle.wit_words.specs.declared.source_map.Span.{Span}
use Rattle.wit_rules.specs.declared.fault.PackageRule.{PackageRule}
use Rattle.wit_scopes.specs.Members.{MemberTree}
use Rattle.wit_scopes.specs.Scopes as scope
use Rattle.wit_scopes.specs.Scopes.{ExternKind, ListedTree, WorldMemberTree, InterfaceScope, WorldScope, ItemScope}
use Rattle.wit_arena.specs.Tree.{Place, in_interface, in_world, in_listed}
use Rattle.wit_arena.specs.Meaning.{Has}
use Rattle.wit_arena.proofs.Lists.{has_here}
use Rattle.wit_built_worlds.specs.Passed.wit_resolved_scopes-InArena.{Context}
use Rattle.wit_built_worlds.specs.Passed.wit_resolved_scopes-Texts.{InterfaceText, listed_text, extern_texts, member_texts, labelled_texts, own_members, interface_of, world_of, interfaces_of, worlds_of, AreItemsSorted}
use Rattle.wit_built_worlds.specs.Passed.wit_interfaces-Adding.{MembersBreak}
use Rattle.wit_built_worlds.proofs.Passed.wit_readiness-Flat.{in_flat, flat_has}
use Rattle.wit_built_worlds.proofs.Passed.wit_readiness-Interfaces.{interface_given}
use Rattle.wit_built_worlds.proofs.Passed.wit_readiness-Worlds.{world_given}
use Rattle.wit_built_worlds.proofs.Passed.wit_readiness-Labelled.{labelled_given}
use Rattle.wit_built_worlds.proofs.Passed.wit_readiness-Sorted.{item_among, item_sorted}
use Rattle.wit_built_worlds.specs.Adding.{WorldBreaks, by_own, by_labelled}
use Rattle.wit_package.specs.Faults.{IsScopeAt, interface_at, world_at, listed_at, OneScopeBreaks}
use Rattle.wit_package.specs.Built.{ItemsBreak, by_interfaces, by_worlds}

module _ (scopes sorted : List ItemScope) (are : AreItemsSorted scopes sorted) where
  pub interface_there : (i : InterfaceScope) → Has (interfaces_of sorted) i → Has scopes (scope.ItemScope.interface i)
  interface_there i has =
      let r = in_flat interface_of sorted i has in
      item_among scopes sorted are (scope.ItemScope.interface i) (subst (Has sorted) (interface_given r.0 i r.2) r.1)

  pub world_there : (w : WorldScope) → Has (worlds_of sorted) w → Has scopes (scope.world w)
  world_there w has =
      let r = in_flat world_of sorted w has in
      item_among scopes sorted are (scope.world w) (subst (Has sorted) (world_given r.0 w r.2) r.1)

  pub interface_in_order : (i : InterfaceScope) → Has scopes (scope.ItemScope.interface i) → Has (interfaces_of sorted) i
  interface_in_order i has = flat_has interface_of sorted (scope.ItemScope.interface i) i (item_sorted scopes sorted are (scope.ItemScope.interface i) has) (has_here i [])

  pub world_in_order : (w : WorldScope) → Has scopes (scope.world w) → Has (worlds_of sorted) w
  world_in_order w has = flat_has world_of sorted (scope.world w) w (item_sorted scopes sorted are (scope.world w) has) (has_here w [])

  module _ (c : Context) (scopes_are : c.scopes ≡ scopes) where
    -- ---- a scope that breaks a rule

    scope_breaks : (o : Place) (ms : List MemberTree) → IsScopeAt scopes o ms → (rule : PackageRule) (at : Span) → MembersBreak c o ms rule at → OneScopeBreaks c.me c.scopes rule at
    scope_breaks o ms there rule at b = record { place = o; members = ms; there = subst (λ (ss : List ItemScope). IsScopeAt ss o ms) (sym scopes_are) there; breaks = b }

    text_breaks : (w : WorldScope) → Has scopes (scope.world w) → (t : InterfaceText) → Has (labelled_texts w) t → (rule : PackageRule) (at : Span) → MembersBreak c t.place t.members rule at → OneScopeBreaks c.me c.scopes rule at
    text_breaks w has t h rule at b =
        let g = labelled_given w t h in
        scope_breaks (in_listed w.name.text g.listed.side g.listed.name.text) g.members (listed_at w g.listed g.members has g.there g.kind) rule at (subst (λ (u : InterfaceText). MembersBreak c u.place u.members rule at) g.is b)

    world_breaks : (w : WorldScope) → Has scopes (scope.world w) → (rule : PackageRule) (at : Span) → WorldBreaks c w rule at → OneScopeBreaks c.me c.scopes rule at
    world_breaks w has rule at (by_own b) = scope_breaks (in_world w.name.text) (own_members w.members) (world_at w has) rule at b
    world_breaks w has rule at (by_labelled b) = text_breaks w has b.one (b.place, b.there) rule at b.breaks

    pub items_break : (rule : PackageRule) (at : Span) → ItemsBreak c (interfaces_of sorted) (worlds_of sorted) rule at → OneScopeBreaks c.me c.scopes rule at
    items_break rule at (by_interfaces b) = scope_breaks (in_interface b.one.name.text) b.one.members (interface_at b.one (interface_there b.one (b.place, b.there))) rule at b.breaks
    items_break rule at (by_worlds b) = world_breaks b.one (world_there b.one (b.place, b.there)) rule at b.breaks

    -- ---- the item in which a scope stands breaks it too

    broken_at : (o : Place) (ms : List MemberTree) → IsScopeAt scopes o ms → (rule : PackageRule) (at : Span) → MembersBreak c o ms rule at → ItemsBreak c (interfaces_of sorted) (worlds_of sorted) rule at
    broken_at o ms (interface_at i has) rule at b =
        let h = interface_in_order i has in
        by_interfaces (record { place = h.0; one = i; there = h.1; breaks = b })
    broken_at o ms (world_at w has) rule at b =
        let h = world_in_order w has in
        by_worlds (record { place = h.0; one = w; there = h.1; breaks = by_own b })
    broken_at o ms (listed_at w l ns has here e) rule at b =
        let h = world_in_order w has in
        let given : Has (member_texts w.name.text (scope.listed l)) (listed_text w.name.text l ns) = subst (λ (k : ExternKind). Has (extern_texts w.name.text l k) (listed_text w.name.text l ns)) (sym e) (has_here (listed_text w.name.text l ns) []) in
        let t = flat_has (member_texts w.name.text) w.members (scope.listed l) (listed_text w.name.text l ns) here given in
        by_worlds (record { place = h.0; one = w; there = h.1; breaks = by_labelled (record { place = t.0; one = listed_text w.name.text l ns; there = t.1; breaks = b }) })

    pub scopes_break : (rule : PackageRule) (at : Span) → OneScopeBreaks c.me c.scopes rule at → ItemsBreak c (interfaces_of sorted) (worlds_of sorted) rule at
    scopes_break rule at b = broken_at b.place b.members (subst (λ (ss : List ItemScope). IsScopeAt ss b.place b.members) scopes_are b.there) rule at b.breaks
