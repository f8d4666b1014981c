-- Worlds in their order are ready.
use Rattle.std.proofs.Common.{◌≡◌, ℕ, List, [], ◌∷◌, ◌++◌, ◌⊎◌, inl, inr, Some, None, map, take, refl, sym, subst, ap, ◌∙◌}
use Rattle.std.specs.Prelude.{slice_get, flat_map}
use Rattle.wit_words.specs.Slice.{Slice}
use Rattle.wit_items.specs.ItemTree.{FuncTree}
use Rattle.wit_foreign.specs.Passed.wit_syntax-Ast.{PackageNameTree, FileTree}
use Rattle.wit_foreign.specs.Passed.wit_scopes-declared-worlds-Side-TheVariants.{Import}
use Rattle.wit_foreign.specs.Passed.wit_scopes-Paths.{TargetTree, own, foreign, file_uses}
use Rattle.wit_foreign.specs.Passed.wit_scopes-Members.{MemberKind, MemberTree, function}
use Rattle.wit_foreign.specs.Passed.wit_scopes-Scopes as scope
use Rattle.wit_foreign.specs.Passed.wit_scopes-Scopes.{ExternKind, ListedTree, IncludedTree, WorldMemberTree, InterfaceScope, WorldScope, ItemScope}
use Rattle.wit_foreign.specs.Passed.wit_type_names-TypeNames.{names_in_func, names_in_member}
use Rattle.wit_foreign.specs.Passed.wit_rules-Labels.{member_label, side_labels}
use Rattle.wit_foreign.specs.Passed.wit_rules-Breaks.{IsKept}
use Rattle.wit_foreign.specs.Passed.wit_rules-Facts as fact
use Rattle.wit_foreign.specs.Passed.wit_rules-Facts.{WorldBreaks, IsDeclared}
use Rattle.wit_foreign.proofs.Passed.wit_rules-Apart.{givers_apart}
use Rattle.wit_foreign.specs.Passed.wit_lookups-declared-asks-Asked-TheVariants.{Interface, World}
use Rattle.wit_foreign.specs.Passed.wit_lookups-Lookups as look
use Rattle.wit_foreign.specs.Passed.wit_lookups-Lookups.{found_interface, found_world, PathBreaks, OwnMembersBreak, LookupsBreak, known_besides}
use Rattle.wit_foreign.specs.Passed.wit_lookups-Names.{Name, known_at, known_names, item_name, world_type_names, world_other_names}
use Rattle.wit_resolved_scopes.specs.Passed.wit_orders-Needs as order
use Rattle.wit_resolved_scopes.specs.Passed.wit_orders-Needs.{member_type, types_of, world_member_type, world_types, included_item}
use Rattle.wit_foreign.specs.Passed.wit_arena-Meaning.{Has}
use Rattle.wit_foreign.proofs.Passed.wit_arena-Lists.{has_none, has_here, has_map}
use Rattle.wit_foreign.specs.Passed.wit_package_types-Fill.{member_names}
use Rattle.wit_foreign.specs.Passed.wit_package_types-Stability.{AreGates}
use Rattle.wit_foreign.specs.Needs.{NeedTree, path_needs, extern_needs, world_member_needs, item_needs, needs_in}
use Rattle.wit_resolved_scopes.specs.Each.{AreApartBy}
use Rattle.wit_resolved_scopes.specs.Scope.{all_names}
use Rattle.wit_resolved_scopes.specs.Texts.{world_of, interface_of, interfaces_of, worlds_of, AreItemsSorted, InterfaceText, listed_text, labelled_texts, listed_member, own_member, own_members, included_in}
use Rattle.wit_resolved_scopes.specs.Fit.{Foreign, IsUsedAmong, AreFitAmong, IsInterfaceReady, IsInterfaceAmong, IsWorldAmong, IsWorldReady, AreWorldsReady}
use Rattle.wit_readiness.specs.Readiness.{FindsForeign}
use Rattle.wit_readiness.proofs.Flat.{AtMostOne, has_one, in_flat, flat_has, flat_apart, given_at}
use Rattle.wit_readiness.proofs.Sorted.{item_among, item_sorted, needed_in_front, sorted_apart}
use Rattle.wit_readiness.proofs.Parts.{declared_kept, side_keeps, own_gates, listed_gates, included_gates, listed_members_keep, world_keeps, world_gates}
use Rattle.wit_readiness.proofs.Resources.{name_cases, resource_of, HasOwnType, WorldHasResources}
use Rattle.wit_readiness.proofs.Named.{type_label, type_one, type_alone, world_names_are}
use Rattle.wit_readiness.proofs.Found.{IsItem, interface_there, world_there, found_in, kind_found}
use Rattle.wit_readiness.proofs.Members.{functions_are_apart, use_leads, members_fit}
use Rattle.wit_readiness.proofs.Interfaces.{scopes_apart, item_keeps, scope_resources}
use Rattle.wit_readiness.proofs.Labelled.{labelled_given}
use Rattle.wit_readiness.proofs.Sides.{keys_are_apart, world_type_given, types_have_no_key}

-- ---- the members of a world's own

-- their types are the types of the world
listed_no_type : (l : ListedTree) (k : ExternKind) (types : List MemberTree) → flat_map member_type (listed_member l k ++ types) ≡ flat_map member_type types
listed_no_type l (scope.ExternKind.function f) types = refl
listed_no_type l (scope.ExternKind.interface ms) types = refl
listed_no_type l (scope.item t) types = refl

own_types : (ms : List WorldMemberTree) → types_of (own_members ms) ≡ world_types ms
own_types [] = refl
own_types (scope.member m ∷ ms) = ap (λ (ns : List MemberTree). member_type m ++ ns) (own_types ms)
own_types (scope.listed l ∷ ms) = listed_no_type l l.kind (own_members ms) ∙ own_types ms
own_types (scope.included i ∷ ms) = own_types ms

world_type_one : (x : WorldMemberTree) → AtMostOne (world_member_type x)
world_type_one (scope.member m) = type_one m.kind m
world_type_one (scope.listed l) = inl refl
world_type_one (scope.included i) = inl refl

world_types_apart : (ms : List WorldMemberTree) → IsKept (WorldBreaks ms) → AreApartBy (λ (m : MemberTree). m.name.text) (world_types ms)
world_types_apart ms kept =
    flat_apart world_member_type world_type_one (λ (m : MemberTree). m.name.text) ms
    (λ i j x z y w at_i at_j has_y has_w same.
    (let a = world_type_given ms kept x y has_y in
    let b = world_type_given ms kept z w has_w in
    givers_apart (side_labels Import) ms (λ rule at c. side_keeps ms kept Import rule at (fact.SideBreaks.by_labels c)) i j x z (member_label y) (member_label w) at_i at_j (ap (side_labels Import) a.0) (ap (side_labels Import) b.0)
    (type_label y.kind y.name a.1 ∙ same ∙ sym (type_label w.kind w.name b.1))))

-- a member that a world has, or a function that it imports or exports
pub record IsListedFunction (ms : List WorldMemberTree) (m : MemberTree) : Type 0 where
  pub item : ListedTree
  pub there : Has ms (scope.listed item)
  pub func : FuncTree
  pub item_kind : item.kind ≡ scope.ExternKind.function func
  pub kind : m.kind ≡ function func
  pub attributes : m.attributes ≡ item.attributes

listed_cases : (ms : List WorldMemberTree) (l : ListedTree) → Has ms (scope.listed l) → (m : MemberTree) (k : ExternKind) → l.kind ≡ k → Has (listed_member l k) m → IsListedFunction ms m
listed_cases ms l there m (scope.ExternKind.function f) e h =
    let one : m ≡ record { name = l.name; kind = function f; docs = l.docs; attributes = l.attributes; span = l.span } = has_one (record { name = l.name; kind = function f; docs = l.docs; attributes = l.attributes; span = l.span }) m h in
    record { item = l; there = there; func = f; item_kind = e; kind = ap (λ (z : MemberTree). z.kind) one; attributes = ap (λ (z : MemberTree). z.attributes) one }
listed_cases ms l there m (scope.ExternKind.interface ns) e h = absurd (has_none m h)
listed_cases ms l there m (scope.item t) e h = absurd (has_none m h)

pub own_cases : (ms : List WorldMemberTree) (m : MemberTree) → Has (own_members ms) m → Has ms (scope.member m) ⊎ IsListedFunction ms m
own_cases ms m h = by r.0 r.1 r.2
  where
    r : (x : WorldMemberTree) × Has ms x × Has (own_member x) m
    r = in_flat own_member ms m h

    by : (x : WorldMemberTree) → Has ms x → Has (own_member x) m → Has ms (scope.member m) ⊎ IsListedFunction ms m
    by (scope.member n) there has = inl (subst (λ (z : MemberTree). Has ms (scope.member z)) (sym (has_one n m has)) there)
    by (scope.listed l) there has = inr (listed_cases ms l there m l.kind refl has)
    by (scope.included i) there has = absurd (has_none m has)

-- the resource of a function is a type of the world
has_own_name : (ms : List WorldMemberTree) (r : Slice) → HasOwnType ms r → Has (member_names (world_types ms)) r.text
has_own_name ms r t =
    subst (Has (member_names (world_types ms))) t.named (has_map (λ (n : MemberTree). n.name.text) (world_types ms) t.type_is (flat_has world_member_type ms (scope.member t.type_is) t.type_is t.among (type_alone t.type_is.kind t.type_is t.of_type)))

-- ---- a world

-- each of its members has its names found
members_found : (scopes : List ItemScope) (known : List Name) (w : WorldScope) → IsKept (look.WorldBreaks scopes known w) → (x : WorldMemberTree) → Has w.members x
    → IsKept (look.WorldMemberBreaks scopes known (world_type_names w.members) (known_besides scopes known (world_other_names w.members)) x)
members_found scopes known w found x (k, at) rule place b = found rule place (record { place = k; one = x; there = at; breaks = b })

extern_found : (scopes : List ItemScope) (known : List Name) (w : WorldScope) → IsKept (look.WorldBreaks scopes known w) → (l : ListedTree) (k : ExternKind) → Has w.members (scope.listed l) → l.kind ≡ k
    → IsKept (look.ExternBreaks scopes known (world_type_names w.members) (known_besides scopes known (world_other_names w.members)) k)
extern_found scopes known w found l k has e =
    subst (λ (z : ExternKind). IsKept (look.ExternBreaks scopes known (world_type_names w.members) (known_besides scopes known (world_other_names w.members)) z)) e (members_found scopes known w found (scope.listed l) has)

-- what it asks of others the package asks
world_asks : (scopes : List ItemScope) (w : WorldScope) → Has scopes (scope.world w) → (x : WorldMemberTree) → Has w.members x → (n : NeedTree) → Has (world_member_needs x) n → Has (needs_in scopes) n
world_asks scopes w has x here n needed = flat_has item_needs scopes (scope.world w) n has (flat_has world_member_needs w.members x n here needed)

listed_asks : (scopes : List ItemScope) (w : WorldScope) → Has scopes (scope.world w) → (l : ListedTree) (k : ExternKind) → Has w.members (scope.listed l) → l.kind ≡ k → (n : NeedTree) → Has (extern_needs l.attributes k) n → Has (needs_in scopes) n
listed_asks scopes w has l k here e n needed = world_asks scopes w has (scope.listed l) here n (subst (λ (z : ExternKind). Has (extern_needs l.attributes z) n) (sym e) needed)

module _ (scopes : List ItemScope) (others : Foreign) (finds : FindsForeign scopes others) (is : List InterfaceScope) (among : (x : Name) (i : InterfaceScope) → IsItem scopes x (scope.ItemScope.interface i) → Has is i) (known : List Name) (w : WorldScope)
    (has : Has scopes (scope.world w)) (rules : IsKept (WorldBreaks w.members)) (found : IsKept (look.WorldBreaks scopes known w)) (resources : WorldHasResources w.members) where
  own_named : (m : MemberTree) → Has (own_members w.members) m → (x : Slice) → Has (all_names m.kind) x → Has (member_names (world_types w.members)) x.text
  own_named m here x named = by (own_cases w.members m here) (name_cases m.kind x named)
    where
      in_world : Has (world_type_names w.members) x.text → Has (member_names (world_types w.members)) x.text
      in_world h = subst (λ (ns : List Name). Has ns x.text) (world_names_are w.members) h

      by : Has w.members (scope.member m) ⊎ IsListedFunction w.members m → Has (resource_of m.kind) x ⊎ Has (names_in_member m.kind) x → Has (member_names (world_types w.members)) x.text
      by (inl there) (inl resource) = has_own_name w.members x (resources.own m there x resource)
      by (inl there) (inr in_types) = in_world (kind_found scopes (world_type_names w.members) (known_besides scopes known (world_other_names w.members)) m.kind (members_found scopes known w found (scope.member m) there) x in_types)
      by (inr f) (inl resource) = absurd (has_none x (subst (λ (k : MemberKind). Has (resource_of k) x) f.kind resource))
      by (inr f) (inr in_types) =
          in_world (found_in (world_type_names w.members) (known_besides scopes known (world_other_names w.members)) (names_in_func f.func) (extern_found scopes known w found f.item (scope.ExternKind.function f.func) f.there f.item_kind) x
          (subst (λ (k : MemberKind). Has (names_in_member k) x) f.kind in_types))

  own_have_gates : (m : MemberTree) → Has (own_members w.members) m → AreGates m.attributes
  own_have_gates m here = elim (own_cases w.members m here) as (λ _. AreGates m.attributes) [
    | inl there ↦ own_gates w.members rules m there
    | inr f ↦ subst AreGates (sym f.attributes) (listed_gates w.members rules f.item f.there)
  ]

  own_uses : (m : MemberTree) → Has (own_members w.members) m → IsUsedAmong is others m.kind
  own_uses m here = elim (own_cases w.members m here) as (λ _. IsUsedAmong is others m.kind) [
    | inl there ↦
        use_leads scopes others finds is (world_type_names w.members) (known_besides scopes known (world_other_names w.members)) m.attributes m.kind (members_found scopes known w found (scope.member m) there)
        (world_asks scopes w has (scope.member m) there) (λ x i named item. among x.text i item)
    | inr f ↦ subst (IsUsedAmong is others) (sym f.kind) tt
  ]

  own_fit : AreFitAmong is others (own_members w.members)
  own_fit = record {
    fit = record {
      types_apart = subst (AreApartBy (λ (m : MemberTree). m.name.text)) (sym (own_types w.members)) (world_types_apart w.members rules);
      named = λ m here x named. subst (λ (ns : List MemberTree). Has (member_names ns) x.text) (sym (own_types w.members)) (own_named m here x named);
      gates = own_have_gates;
    };
    uses = own_uses;
  }

  -- ---- interfaces that stand in it

  listed_ready : (l : ListedTree) (ns : List MemberTree) → Has w.members (scope.listed l) → l.kind ≡ scope.ExternKind.interface ns → IsInterfaceReady is others (listed_text w.name.text l ns)
  listed_ready l ns here e = record {
    members = members_fit scopes others finds is known ns (listed_members_keep w.members rules l ns here e) (resources.listed l ns here e) (extern_found scopes known w found l (scope.ExternKind.interface ns) here e)
        (listed_asks scopes w has l (scope.ExternKind.interface ns) here e) (λ x i named item. among x.text i item);
    functions_apart = functions_are_apart ns (listed_members_keep w.members rules l ns here e);
    gates = listed_gates w.members rules l here;
  }

  labelled_ready : (t : InterfaceText) → Has (labelled_texts w) t → IsInterfaceReady is others t
  labelled_ready t h = let g = labelled_given w t h in subst (IsInterfaceReady is others) (sym g.is) (listed_ready g.listed g.members g.there g.kind)

  -- ---- paths

  path_leads : (l : ListedTree) (t : TargetTree) → Has w.members (scope.listed l) → l.kind ≡ scope.item t → IsInterfaceAmong is others t
  path_leads l (own n) here e =
      let f = interface_there scopes n (extern_found scopes known w found l (scope.item (own n)) here e) in
      subst (Has (map (λ (i : InterfaceScope). i.name.text) is)) f.item.named (has_map (λ (i : InterfaceScope). i.name.text) is f.interface_is (among n.text f.interface_is f.item))
  path_leads l (foreign p n) here e =
      let need : NeedTree = record { «package» = p; item = n; asked = Interface; name = None; attributes = l.attributes } in
      finds.interfaces need (listed_asks scopes w has l (scope.item (foreign p n)) here e need (has_here need [])) refl

  -- the worlds in front of it are those that it includes
  include_leads : (ws : List WorldScope) → ((x : Slice) (v : WorldScope) → Has (order.item_needs (scope.world w)) x → IsItem scopes x.text (scope.world v) → Has ws v) → (i : IncludedTree) → Has w.members (scope.included i) → (t : TargetTree) → i.world ≡ t → IsWorldAmong ws others t
  include_leads ws in_front i here (own n) e =
      let f = world_there scopes n (subst (λ (t : TargetTree). IsKept (PathBreaks found_world scopes t)) e (members_found scopes known w found (scope.included i) here)) in
      let named : Has (order.item_needs (scope.world w)) n = flat_has included_item w.members (scope.included i) n here (subst (λ (t : TargetTree). Has (order.own_names t) n) (sym e) (has_here n [])) in
      subst (Has (map (λ (v : WorldScope). v.name.text) ws)) f.item.named (has_map (λ (v : WorldScope). v.name.text) ws f.world_is (in_front n f.world_is named f.item))
  include_leads ws in_front i here (foreign p n) e =
      let need : NeedTree = record { «package» = p; item = n; asked = World; name = None; attributes = i.attributes } in
      finds.worlds need (world_asks scopes w has (scope.included i) here need (subst (λ (t : TargetTree). Has (path_needs World None i.attributes t) need) (sym e) (has_here need []))) refl

  included_given : (x : WorldMemberTree) (i : IncludedTree) → Has (included_in x) i → x ≡ scope.included i
  included_given (scope.member m) i h = absurd (has_none i h)
  included_given (scope.listed l) i h = absurd (has_none i h)
  included_given (scope.included j) i h = ap (λ (z : IncludedTree). scope.included z) (sym (has_one j i h))

  pub world_ready : (ws : List WorldScope) → ((x : Slice) (v : WorldScope) → Has (order.item_needs (scope.world w)) x → IsItem scopes x.text (scope.world v) → Has ws v) → AreGates w.attributes → IsWorldReady is ws others w
  world_ready ws in_front gated = record {
    own = own_fit;
    labelled = labelled_ready;
    paths = path_leads;
    includes = λ i h.
        (let r = in_flat included_in w.members i h in
        let here : Has w.members (scope.included i) = subst (Has w.members) (included_given r.0 i r.2) r.1 in
        (include_leads ws in_front i here i.world refl, included_gates w.members rules i here));
    listed_gates = listed_gates w.members rules;
    gates = gated;
    keys_apart = keys_are_apart w.members rules;
    types_apart = λ m y has_m has_y same. types_have_no_key w.members rules m y (subst (λ (ns : List MemberTree). Has ns m) (own_types w.members) has_m) has_y same;
  }

-- ---- worlds in their order

world_one : (s : ItemScope) → AtMostOne (world_of s)
world_one (scope.ItemScope.interface i) = inl refl
world_one (scope.world w) = inr (w, refl)

pub world_given : (s : ItemScope) (w : WorldScope) → Has (world_of s) w → s ≡ scope.world w
world_given (scope.ItemScope.interface i) w h = absurd (has_none w h)
world_given (scope.world v) w h = ap (λ (z : WorldScope). scope.world z) (sym (has_one v w h))

module _ (files : List FileTree) (me : PackageNameTree) (scopes sorted : List ItemScope) (others : Foreign) (declared : IsDeclared files me scopes) (kept : IsKept (LookupsBreak me (file_uses files) scopes)) (are : AreItemsSorted scopes sorted) (finds : FindsForeign scopes others) where
  worlds_apart : AreApartBy (λ (w : WorldScope). w.name.text) (worlds_of sorted)
  worlds_apart =
      flat_apart world_of world_one (λ (w : WorldScope). w.name.text) sorted
      (λ i j s t a b at_i at_j has_a has_b same. sorted_apart scopes sorted are (scopes_apart scopes (declared_kept files me scopes declared)) i j s t at_i at_j
      (ap item_name (world_given s a has_a) ∙ same ∙ sym (ap item_name (world_given t b has_b))))

  -- each interface of the package is in the order
  interface_sorted : (x : Name) (i : InterfaceScope) → IsItem scopes x (scope.ItemScope.interface i) → Has (interfaces_of sorted) i
  interface_sorted x i item = flat_has interface_of sorted (scope.ItemScope.interface i) i (item_sorted scopes sorted are (scope.ItemScope.interface i) (item.place, item.there)) (has_here i [])

  each_ready : (n : ℕ) (w : WorldScope) → slice_get (worlds_of sorted) n ≡ Some w → IsWorldReady (interfaces_of sorted) (take n (worlds_of sorted)) others w
  each_ready n w at =
      let g = given_at world_of world_one sorted n w at in
      let here : slice_get sorted g.place ≡ Some (scope.world w) = g.there ∙ ap (λ (s : ItemScope). Some s) (world_given g.one_is w g.gives) in
      let has : Has scopes (scope.world w) = item_among scopes sorted are (scope.world w) (g.place, here) in
      world_ready scopes others finds (interfaces_of sorted) interface_sorted (known_at (map known_names (file_uses files)) w.file) w has (world_keeps scopes (declared_kept files me scopes declared) w has)
      (item_keeps files me scopes kept (scope.world w) has) (scope_resources files me scopes declared (scope.world w) has) (take n (worlds_of sorted))
      (λ x v named item.
      (let r = needed_in_front scopes sorted are g.place (scope.world w) x item.place (scope.world v) here named item.place_is item.there in
      g.before r.0 (scope.world v) v r.1 r.2 (has_here v [])))
      (world_gates scopes (declared_kept files me scopes declared) w has)

  pub worlds_ready : AreWorldsReady (interfaces_of sorted) others (worlds_of sorted)
  worlds_ready = record { apart = worlds_apart; each = each_ready }
