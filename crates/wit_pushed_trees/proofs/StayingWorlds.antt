-- What stays of a world's text stands in the graph under its label.
use Rattle.std.proofs.Common.{◌≡◌, ℕ, ◌+◌, zero, suc, Bool, true, false, List, [], ◌∷◌, ◌++◌, map, length, length-append, Some, None, is_some, inl, inr, refl, sym, subst, ap, ◌∙◌, arith, append_assoc, append-nil}
use Rattle.std.proofs.lemmas.Option.{same_Some, slice_get_within, slice_get-map}
use Rattle.std.specs.Prelude.{String, cond, option_map, slice_get, string_bytes, if◌then◌else◌}
use Rattle.std.specs.Map.{lookup}
use Rattle.std.specs.List.{AllZip}
use Rattle.wit_order.specs.Places.{Rows}
use Rattle.wit_items.specs.ItemTree.{AttributeTree}
use Rattle.wit_types.specs.declared.function.FunctionKind.{FunctionKind}
use Rattle.wit_types.specs.declared.function.FunctionKind.TheVariants as of
use Rattle.wit_types.specs.declared.interface.Interface.{Interface}
use Rattle.wit_types.specs.declared.interface.TypeOwner.{TypeOwner}
use Rattle.wit_types.specs.declared.interface.TypeOwner.TheVariants as belongs
use Rattle.wit_types.specs.declared.stability.Stability.{Stability}
use Rattle.wit_types.specs.declared.world.World.{World}
use Rattle.wit_types.specs.declared.world.WorldInclude.{WorldInclude}
use Rattle.wit_types.specs.declared.world.WorldItem.{WorldItem}
use Rattle.wit_types.specs.declared.world.WorldItem.TheVariants as item
use Rattle.wit_types.specs.declared.world_key.WorldKey.{WorldKey}
use Rattle.wit_types.specs.declared.world_key.WorldKey.TheVariants as key
use Rattle.wit_types.specs.WorldKey.{spelled, placed, known, known_eq-Decides, key_eq}
use Rattle.wit_types.specs.declared.«package».UnresolvedPackage.{UnresolvedPackage}
use Rattle.wit_syntax.specs.Ast.{FileTree}
use Rattle.wit_features.specs.Features.{FeatureSet, stays}
use Rattle.wit_offsets.specs.Offsets.{world_by, item_by, function_by, package_at, span_at}
use Rattle.wit_scopes.specs.declared.worlds.Side.TheVariants.{Import, Export}
use Rattle.wit_scopes.specs.Members.{MemberTree}
use Rattle.wit_scopes.specs.Scopes as scope
use Rattle.wit_scopes.specs.Scopes.{ExternKind, ListedTree, WorldMemberTree, WorldScope}
use Rattle.wit_orders.specs.Needs.{types_of}
use Rattle.wit_arena.specs.Tree.{Name, in_world}
use Rattle.wit_arena.specs.Meaning.{Has}
use Rattle.wit_arena.proofs.Lists.{has_none, has_left, has_right, has_map, get_more}
use Rattle.wit_well_formed.proofs.Passed.wit_readiness-Flat.{has_one}
use Rattle.wit_well_formed.specs.Passed.wit_resolved_scopes-Each.{Each}
use Rattle.wit_well_formed.specs.Passed.wit_resolved_scopes-InArena.{Context}
use Rattle.wit_well_formed.specs.Passed.wit_resolved_scopes-Texts.{own_members, side_members}
use Rattle.wit_well_formed.proofs.Passed.wit_resolved_scopes-Eaches.{each_left}
use Rattle.wit_well_formed.proofs.Passed.wit_resolved_scopes-Readying.{either}
use Rattle.wit_well_formed.specs.Passed.wit_worlds-Worlds.{IsTypeEntry, IsExternEntry, IsEntryOf, IsWorldIn}
use Rattle.wit_well_formed.specs.Passed.wit_package-Steps.{Resolves}
use Rattle.wit_moves.specs.Moved.{Places, resource_of, to}
use Rattle.wit_moves.specs.Worlds.{item_stays, moved_key, moved_entry, IsMovedItem, moved_interface, IsMovedSide}
use Rattle.wit_moves.specs.Plan.{OwnerPlaces, is_owner_placed}
use Rattle.wit_moves.specs.Interfaces.{function_stays}
use Rattle.wit_moves.specs.Moved.{is_placed}
use Rattle.wit_finding.specs.Own.{placed as own_places}
use Rattle.wit_copies.specs.Same.{IsSameKey, same_name, same_key_interface, IsSameItem, same_interface}
use Rattle.wit_sides.specs.Sides.{AreUnited, no_entries, first_of_its_key, key_again}
use Rattle.wit_graph.specs.Passed.wit_joined-Joined.{State as JoinedState, Includes, includes_none, includes_one}
use Rattle.wit_plans.specs.Moves.{IsMovedWorld}
use Rattle.wit_plans.specs.Plans.{IsPlanned, standing}
use Rattle.wit_plans.specs.declared.moves.MovedWorld.{MovedWorld}
use Rattle.wit_plans.specs.declared.plans.Sizes.{Sizes}
use Rattle.wit_graph.specs.Passed.wit_graph_worlds-Added.{IsAdded, AreAdded, none_added, one_added}
use Rattle.wit_graph.specs.Passed.wit_graph_worlds-Copies.{IsSameEntry}
use Rattle.wit_graph.specs.Passed.wit_graph_worlds-Worlds.{State}
use Rattle.wit_graph.specs.Passed.wit_graph_parts-Own.{asked, own_parts}
use Rattle.wit_well_formed.proofs.Passed.wit_interfaces-Behind.{get_right}
use Rattle.wit_reach.proofs.Growing.{get_same}
use Rattle.wit_pushed_trees.specs.Staying.{Stays}
use Rattle.wit_pushed_trees.specs.StayingWorlds.{Entry, ItemSort, a_type, item_sort, extern_sort, member_sort, HasKnown, HasNamed, extern_label, label_of, MemberStays, HasLabel, ListsSide, ListsSides, IsExternOf, IsItemOf, HasTypeItem, HasSide, HasSides, own_world}
use Rattle.wit_pushed_trees.proofs.StayingIncludes.{sort_moved_item, sort_same, KeepsKnown, left_known, left_named, IsIncludedIn, included_brings, brings_more}
use Rattle.wit_pushed_trees.specs.StayingInner.{HasInterfaceAt}
use Rattle.wit_pushed_trees.proofs.Staying.{IsOwn, entered, has_resource, moved_type, moved_resource, kept_has, own_placed, type_placed, function_kept}
use Rattle.std.specs.declared.alloc.Global.{Global}
use Rattle.std.proofs.lemmas.Slice.Eq.{bytes_eq-Decides}
use Rattle.wit_words.specs.declared.source_map.Span.{Span}
use Rattle.wit_order.specs.Order as order
use Rattle.wit_graph.proofs.Passed.wit_uses-Joining.{IsClear, clear_front, clash_of}

-- ---- a package to which files are resolved

no_interface : (i j : ℕ) → belongs.World i ≡ belongs.Interface j → ⊥
no_interface i j e = cc

-- a function that is of no resource
freestanding : (b : Bool) (k : FunctionKind) → k ≡ (if b then of.AsyncFreestanding else of.Freestanding) → resource_of k ≡ None
freestanding true k e = ap resource_of e
freestanding false k e = ap resource_of e

module _ (files : List FileTree) (p : UnresolvedPackage) (r : Resolves files p) (c : Context) (t : WorldScope) (k : ℕ) (w : World) (is : IsWorldIn c p.types t k w) where
  abbrev world_owner : TypeOwner
  world_owner = belongs.World k

  abbrev world_members : List MemberTree
  world_members = own_members t.members

  none_asked : IsOwn files p r world_owner
  none_asked j e = absurd (no_interface k j e)

  has_types : (m : MemberTree) → Has (types_of world_members) m → HasTypeItem p world_owner w.imports.entries m
  has_types m has =
      let e = entered files p r c (in_world t.name.text) world_owner none_asked world_members is.sorted is.are_sorted is.table is.types_are m has in
      let i = each_left (IsTypeEntry p.types) is.table is.type_entries is.type_entries_are e.number e.entry e.there in
      let here : Has is.type_entries (i.0.0, item.TypeItem e.entry.1 i.2.def.span) = (e.number, i.1 ∙ ap (λ (x : WorldItem). Some (i.0.0, x)) i.2.item) in
      record {
        key = i.0.0;
        type_id = e.entry.1;
        at = i.2.def.span;
        listed = subst (λ (es : List Entry). Has es (i.0.0, item.TypeItem e.entry.1 i.2.def.span)) (sym is.imports_are) (has_left is.type_entries is.other_imports (i.0.0, item.TypeItem e.entry.1 i.2.def.span) here);
        label = i.2.key ∙ ap spelled e.name;
        is = e.is;
      }

  extern_of : (l : ListedTree) (ek : ExternKind) (x : Name) (e : Entry) → extern_label l.name.text ek ≡ Some x → IsExternEntry c t.name.text p.types is.table l ek e → (known e.0 ≡ spelled x) × IsExternOf l.attributes ek e.1
  extern_of l (scope.ExternKind.function f) x e label i = (i.key ∙ ap spelled (same_Some l.name.text x label), (i.made, i.item, i.is.is.stability, freestanding f.is_async i.made.kind i.is.is.kind))
  extern_of l (scope.ExternKind.interface ns) x e label i = (i.key ∙ ap spelled (same_Some l.name.text x label), (i.id, i.stability, l.name.span, i.item, i.gates))
  extern_of l (scope.item target) x e label i = absurd cc

  item_of : (m : WorldMemberTree) (x : Name) (e : Entry) → label_of m ≡ Some x → IsEntryOf c t.name.text p.types is.table m e → (known e.0 ≡ spelled x) × IsItemOf p world_owner world_members m e.1
  item_of (scope.member m) x e label i =
      (i.key ∙ ap spelled (same_Some _ x label), (i.made, i.item, i.is.is.stability, has_resource files p r c (in_world t.name.text) world_owner none_asked world_members is.sorted is.are_sorted is.table is.types_are m.kind i.made i.is.is.kind))
  item_of (scope.listed l) x e label i = extern_of l l.kind x e label i
  item_of (scope.included n) x e label i = absurd i

  has_side : (xs : List WorldMemberTree) (es all : List Entry) → Each (IsEntryOf c t.name.text p.types is.table) xs es → ((e : Entry) → Has es e → Has all e) → HasSide p world_owner world_members xs all
  has_side xs es all each into m x (j, at) label =
      let e = each_left (IsEntryOf c t.name.text p.types is.table) xs es each j m at in
      let i = item_of m x e.0 label e.2 in
      record { key = e.0.0; item_is = e.0.1; listed = into e.0 (j, e.1); label = i.0; is = i.1 }

  pub resolved_sides : HasSides p world_owner t.members w
  resolved_sides = record {
    types = has_types;
    imports_are = has_side (side_members Import t.members) is.other_imports w.imports.entries is.lists_are.imports_are (λ e has. subst (λ (es : List Entry). Has es e) (sym is.imports_are) (has_right is.type_entries is.other_imports e has));
    exports_are = has_side (side_members Export t.members) w.exports.entries w.exports.entries is.lists_are.exports_are (λ e has. has);
  }

-- ---- places that move

module _ (p : UnresolvedPackage) (n : ℕ) (whose : TypeOwner) where
  abbrev moved : WorldItem → WorldItem
  moved = item_by (span_at n)

  moved_extern : (gates : List AttributeTree) (k : ExternKind) (i : WorldItem) → IsExternOf gates k i → IsExternOf gates k (moved i)
  moved_extern gates (scope.ExternKind.function f) i (g, e, s, none) = (function_by (span_at n) g, ap moved e, s, none)
  moved_extern gates (scope.ExternKind.interface ms) i (k, s, at, e, is) = (k, s, span_at n at, ap moved e, is)
  moved_extern gates (scope.item t) i h = h

  moved_item : (own : List MemberTree) (m : WorldMemberTree) (i : WorldItem) → IsItemOf p whose own m i → IsItemOf (package_at n p) whose own m (moved i)
  moved_item own (scope.member m) i (f, e, s, resource) = (function_by (span_at n) f, ap moved e, s, moved_resource p n whose own m.kind f resource)
  moved_item own (scope.listed l) i h = moved_extern l.attributes l.kind i h
  moved_item own (scope.included t) i h = h

  moved_side : (own : List MemberTree) (ms : List WorldMemberTree) (es : List Entry) → HasSide p whose own ms es → HasSide (package_at n p) whose own ms (map (λ (e : Entry). (e.0, moved e.1)) es)
  moved_side own ms es h m x has label = (
      let i = h m x has label in record {
        key = i.key;
        item_is = moved i.item_is;
        listed = has_map (λ (e : Entry). (e.0, moved e.1)) es (i.key, i.item_is) i.listed;
        label = i.label;
        is = moved_item own m i.item_is i.is;
      })

  pub moved_sides : (ms : List WorldMemberTree) (w : World) → HasSides p whose ms w → HasSides (package_at n p) whose ms (world_by (span_at n) w)
  moved_sides ms w h = record {
    types = λ m has. (
        let t = h.types m has in record {
          key = t.key;
          type_id = t.type_id;
          at = span_at n t.at;
          listed = has_map (λ (e : Entry). (e.0, moved e.1)) w.imports.entries (t.key, item.TypeItem t.type_id t.at) t.listed;
          label = t.label;
          is = moved_type p n whose m t.type_id t.is;
        });
    imports_are = moved_side (own_members ms) (side_members Import ms) w.imports.entries h.imports_are;
    exports_are = moved_side (own_members ms) (side_members Export ms) w.exports.entries h.exports_are;
  }

-- ---- what stays

-- an item stays under its label
moved_named : (features : FeatureSet) (places interfaces : Places) (old new : List Entry) → IsMovedSide features places interfaces old new → (k : WorldKey) (i : WorldItem) (x : Name) → Has old (k, i) → item_stays features places i ≡ true → known k ≡ spelled x
    → (j : WorldItem) × HasNamed new x j × IsMovedItem (to places) (to interfaces) i j
moved_named features places interfaces old new (kept, are, same) k i x has stay label =
    let w = kept_has (item_stays features places) (IsMovedItem (to places) (to interfaces)) old kept are k i has stay in
    (w.0, (moved_key (to interfaces) k, subst (λ (es : List Entry). Has es (moved_key (to interfaces) k, w.0)) (sym same) (has_map (moved_entry (to interfaces)) kept (k, w.0) w.1), by k label), w.2)
  where
    by : (l : WorldKey) → known l ≡ spelled x → known (moved_key (to interfaces) l) ≡ spelled x
    by (key.Name y) e = e
    by (key.Interface j) e = absurd (let bad : placed j ≡ spelled x = e in cc)

moved_label : (features : FeatureSet) (places interfaces : Places) (old new : List Entry) → IsMovedSide features places interfaces old new → (k : WorldKey) (i : WorldItem) (x : Name) (s : ItemSort) → Has old (k, i) → item_stays features places i ≡ true
    → known k ≡ spelled x → item_sort i ≡ s → HasLabel new x s
moved_label features places interfaces old new moved k i x s has stay label sort =
    let w = moved_named features places interfaces old new moved k i x has stay label in
    (w.0, w.1, sort_moved_item (to places) (to interfaces) i w.0 w.2 ∙ sort)

-- an interface goes where it stands
pub moved_at : (features : FeatureSet) (places interfaces : Places) (old new : List Entry) → IsMovedSide features places interfaces old new → (k : WorldKey) (id : ℕ) (gates : Stability) (at : Span) (x : Name) → Has old (k, item.Interface id gates at)
    → stays features gates ≡ true → known k ≡ spelled x → HasInterfaceAt new x (to interfaces id)
moved_at features places interfaces old new moved k id gates at x has stay label =
    let w = moved_named features places interfaces old new moved k (item.Interface id gates at) x has stay label in
    (gates, at, subst (HasNamed new x) (item_is w.0 w.2) w.1)
  where
    item_is : (i : WorldItem) → IsMovedItem (to places) (to interfaces) (item.Interface id gates at) i → i ≡ item.Interface (to interfaces id) gates at
    item_is i (moved_interface j g span) = refl

module _ (features : FeatureSet) (graph : List Interface) (sizes : Sizes) (foreign owners : OwnerPlaces) (p : UnresolvedPackage) (places : Places) (planned : IsPlanned features graph sizes foreign (own_parts p) owners places) where
  world_placed : length foreign.worlds ≡ (asked p).worlds → (k : ℕ) (w : World) → slice_get (own_parts p).worlds k ≡ Some w → stays features w.stability ≡ true → is_owner_placed owners (own_world p k) ≡ true
  world_placed so_many k w at stay =
      let gates : List Stability = map (λ (v : World). v.stability) (own_parts p).worlds in
      let gate : slice_get gates k ≡ Some w.stability = slice_get-map (λ (v : World). v.stability) (own_parts p).worlds k ∙ ap (option_map (λ (v : World). v.stability)) at in
      let there = own_placed features (record { places = foreign.worlds; next = sizes.worlds }) gates k w.stability gate in
      ap (λ (o : OwnerPlaces). is_placed o.worlds ((asked p).worlds + k)) planned.owners_are ∙ ap (λ (n : ℕ). is_placed (own_places features foreign.worlds sizes.worlds gates) (n + k)) (sym so_many) ∙ there ∙ stay

  module _ (whose : TypeOwner) (there : is_owner_placed owners whose ≡ true) (own : List MemberTree) where
    extern_kept : (gates : List AttributeTree) (k : ExternKind) (x y : Name) (i : WorldItem) → extern_label y k ≡ Some x → IsExternOf gates k i → Stays features gates → item_stays features places i ≡ true
    extern_kept gates (scope.ExternKind.function f) x y i label (g, e, s, none) keep = ap (item_stays features places) e ∙ whole
      where
        whole : function_stays features places g ≡ true
        whole = rw (keep g.stability s, none) refl
    extern_kept gates (scope.ExternKind.interface ms) x y i label (k, s, at, e, is) keep = ap (item_stays features places) e ∙ keep s is
    extern_kept gates (scope.item t) x y i label h keep = absurd (let bad : None ≡ Some x = label in cc)

    item_kept : (m : WorldMemberTree) (x : Name) (i : WorldItem) → label_of m ≡ Some x → IsItemOf p whose own m i → MemberStays features own m → item_stays features places i ≡ true
    item_kept (scope.member m) x i label (f, e, s, resource) keep = ap (item_stays features places) e ∙ function_kept features graph sizes foreign owners p places planned whose there own m f s resource keep
    item_kept (scope.listed l) x i label h keep = extern_kept l.attributes l.kind x l.name.text i label h keep
    item_kept (scope.included t) x i label h keep = absurd keep

    extern_is : (gates : List AttributeTree) (k : ExternKind) (x y : Name) (i : WorldItem) → extern_label y k ≡ Some x → IsExternOf gates k i → item_sort i ≡ extern_sort k
    extern_is gates (scope.ExternKind.function f) x y i label (g, e, s, none) = ap item_sort e
    extern_is gates (scope.ExternKind.interface ms) x y i label (k, s, at, e, is) = ap item_sort e
    extern_is gates (scope.item t) x y i label h = absurd (let bad : None ≡ Some x = label in cc)

    sort_is : (m : WorldMemberTree) (x : Name) (i : WorldItem) → label_of m ≡ Some x → IsItemOf p whose own m i → item_sort i ≡ member_sort m
    sort_is (scope.member m) x i label (f, e, s, resource) = ap item_sort e
    sort_is (scope.listed l) x i label h = extern_is l.attributes l.kind x l.name.text i label h
    sort_is (scope.included t) x i label h = absurd h

    side_kept : (ms : List WorldMemberTree) (old new : List Entry) → HasSide p whose own ms old → IsMovedSide features places owners.interfaces old new → ListsSide features own ms new
    side_kept ms old new h moved m x has label keep =
        let i = h m x has label in
        moved_label features places owners.interfaces old new moved i.key i.item_is x (member_sort m) i.listed (item_kept m x i.item_is label i.is keep) i.label (sort_is m x i.item_is label i.is)

  -- what stays of a world's members stands in it
  pub sides_kept : length foreign.worlds ≡ (asked p).worlds → (ms : List WorldMemberTree) (k : ℕ) (w : World) (m : MovedWorld) → slice_get (own_parts p).worlds k ≡ Some w → stays features w.stability ≡ true → HasSides p (own_world p k) ms w
      → IsMovedWorld features (standing owners places) w m → ListsSides features ms m.imports.items m.exports.items
  sides_kept so_many ms k w m at stay h moved = record {
    types = λ n has keep. (
        let t = h.types n has in
        moved_label features places owners.interfaces w.imports.entries m.imports.items moved.imports t.key (item.TypeItem t.type_id t.at) n.name.text a_type t.listed
        (type_placed features graph sizes foreign owners p places planned (own_world p k) there n t.type_id t.is keep) t.label refl);
    imports_are = side_kept (own_world p k) there (own_members ms) (side_members Import ms) w.imports.entries m.imports.items h.imports_are moved.imports;
    exports_are = side_kept (own_world p k) there (own_members ms) (side_members Export ms) w.exports.entries m.exports.items h.exports_are moved.exports;
  }
    where
      there : is_owner_placed owners (own_world p k) ≡ true
      there = world_placed so_many k w at stay

-- ---- with all that is included

-- an item under a label is on another side under the same, or one that says the same
abbrev pub KeepsLabels : List Entry → List Entry → Type 0
KeepsLabels old new = (x : Name) (i : WorldItem) → HasNamed old x i → (j : WorldItem) × HasNamed new x j × IsSameItem i j

label_kept : (old new : List Entry) → KeepsLabels old new → (x : Name) (s : ItemSort) → HasLabel old x s → HasLabel new x s
label_kept old new keeps x s (i, named, sort) = (let r = keeps x i named in (r.0, r.1, sort_same i r.0 r.2 ∙ sort))

pub interface_kept_at : (old new : List Entry) → KeepsLabels old new → (x : Name) (id : ℕ) → HasInterfaceAt old x id → HasInterfaceAt new x id
interface_kept_at old new keeps x id (gates, at, named) = (let r = keeps x (item.Interface id gates at) named in by r.0 r.1 r.2)
  where
    by : (i : WorldItem) → HasNamed new x i → IsSameItem (item.Interface id gates at) i → HasInterfaceAt new x id
    by i has (same_interface j g h span is) = (h, at, has)

pub sides_of : (features : FeatureSet) (ms : List WorldMemberTree) (imports exports more_imports more_exports : List Entry) → KeepsLabels imports more_imports → KeepsLabels exports more_exports → ListsSides features ms imports exports → ListsSides features ms more_imports more_exports
sides_of features ms imports exports more_imports more_exports a b h = record {
  types = λ m has keep. label_kept imports more_imports a m.name.text a_type (h.types m has keep);
  imports_are = λ m x has label keep. label_kept imports more_imports a x (member_sort m) (h.imports_are m x has label keep);
  exports_are = λ m x has label keep. label_kept exports more_exports b x (member_sort m) (h.exports_are m x has label keep);
}

entry_among : (es : List Entry) (e : Entry) → Has es e → order.Has es e
entry_among [] e has = absurd (has_none e has)
entry_among (x ∷ es) e (zero, at) = inl (sym (same_Some x e at))
entry_among (x ∷ es) e (suc k, at) = inr (entry_among es e (k, at))

-- the entry that a look-up finds
found : {V : Type 0} (test : WorldKey → Bool) (es : List (WorldKey × V)) → is_some (lookup test es) ≡ true → (k : WorldKey) × (v : V) × Has es (k, v) × (test k ≡ true)
found test [] e = absurd cc
found {V} test ((k, v) ∷ es) e = by (test k) refl e (found test es)
  where
    by : (b : Bool) → test k ≡ b → is_some (cond b (Some v) (lookup test es)) ≡ true → (is_some (lookup test es) ≡ true → (l : WorldKey) × (u : V) × Has es (l, u) × (test l ≡ true)) → (l : WorldKey) × (u : V) × Has ((k, v) ∷ es) (l, u) × (test l ≡ true)
    by true t h later = (k, v, (zero, refl), t)
    by false t h later = (let r = later h in (r.0, r.1, (suc r.2.0, r.2.1), r.3))

-- a plain name stands once where none clash
named_once : (es : List Entry) (y : String Global) (i : WorldItem) → is_some (lookup (key_eq (key.Name y)) es) ≡ true → IsClear (es ++ (key.Name y, i) ∷ []) → ⊥
named_once es y i again clear = (let f = found (key_eq (key.Name y)) es again in by f.0 f.1 f.2 f.3)
  where
    by : (k : WorldKey) (v : WorldItem) → Has es (k, v) → key_eq (key.Name y) k ≡ true → ⊥
    by (key.Name z) v has same = clash_of es y i z v (entry_among es (key.Name z, v) has) ((bytes_eq-Decides (string_bytes y) (string_bytes z)).0 same) clear
    by (key.Interface j) v has same = absurd cc

united_named : (es side : List Entry) → AreUnited key_eq es side → IsClear es → (y : String Global) (i : WorldItem) → Has es (key.Name y, i) → Has side (key.Name y, i)
united_named _ _ no_entries clear y i has = absurd (has_none (key.Name y, i) has)
united_named _ _ (first_of_its_key es side e united none) clear y i has = elim (either es (e ∷ []) (key.Name y, i) has) as (λ _. Has (side ++ e ∷ []) (key.Name y, i)) [
  | inl was ↦ has_left side (e ∷ []) (key.Name y, i) (united_named es side united (clear_front es (e ∷ []) clear) y i was)
  | inr last ↦ has_right side (e ∷ []) (key.Name y, i) last
]
united_named _ _ (key_again es side e united again) clear y i has = elim (either es (e ∷ []) (key.Name y, i) has) as (λ _. Has side (key.Name y, i)) [
  | inl was ↦ united_named es side united (clear_front es (e ∷ []) clear) y i was
  | inr last ↦
      let same : (key.Name y, i) ≡ e = has_one e (key.Name y, i) last in
      absurd (named_once es y i (subst (λ (d : Entry). is_some (lookup (key_eq d.0) es) ≡ true) (sym same) again) (subst (λ (d : Entry). IsClear (es ++ d ∷ [])) (sym same) clear))
]

-- so an item stays under its label where sides are united
united_labels : (es side : List Entry) → AreUnited key_eq es side → IsClear es → (x : Name) (i : WorldItem) → HasNamed es x i → HasNamed side x i
united_labels es side united clear x i (k, has, label) = (k, by k has label, label)
  where
    by : (l : WorldKey) → Has es (l, i) → known l ≡ spelled x → Has side (l, i)
    by (key.Name y) there is = united_named es side united clear y i there
    by (key.Interface j) there is = absurd (let bad : placed j ≡ spelled x = is in cc)

included_labels : (worlds : List World) (id : ℕ) (ns : List WorldInclude) (s t : JoinedState) → Includes worlds id ns s t → ((x : Name) (i : WorldItem) → HasNamed s.imports x i → HasNamed t.imports x i) × ((x : Name) (i : WorldItem) → HasNamed s.exports x i → HasNamed t.exports x i)
included_labels worlds id _ s _ (includes_none _) = (λ x i h. h, λ x i h. h)
included_labels worlds id _ s u (includes_one ns n _ t _ before (w, b, there, is, same)) =
    let r = included_labels worlds id ns s t before in (
      λ x i h. subst (λ (z : JoinedState). HasNamed z.imports x i) (sym same) (left_named t.imports b.imports.items x i (r.0 x i h)),
      λ x i h. subst (λ (z : JoinedState). HasNamed z.exports x i) (sym same) (left_named t.exports b.exports.items x i (r.1 x i h)),
    )

same_labels : (es fs : List Entry) → AllZip IsSameEntry es fs → KeepsLabels es fs
same_labels [] fs zip x i (k, has, label) = absurd (has_none (k, i) has)
same_labels (e ∷ es) [] zip x i h = absurd zip
same_labels (e ∷ es) (f ∷ fs) zip x i (k, (zero, at), label) =
    let same = same_Some e (k, i) at in
    (f.1, (f.0, (zero, refl), by e.0 f.0 zip.0.0 (ap (λ (d : Entry). known d.0) same ∙ label)), subst (λ (j : WorldItem). IsSameItem j f.1) (ap (λ (d : Entry). d.1) same) zip.0.1)
  where
    by : (a b : WorldKey) → IsSameKey a b → known a ≡ spelled x → known b ≡ spelled x
    by a b (same_name y z e) l = ap spelled e ∙ l
    by a b (same_key_interface j) l = l
same_labels (e ∷ es) (f ∷ fs) zip x i (k, (suc n, at), label) = (let r = same_labels es fs zip.1 x i (k, (n, at), label) in (r.0, (r.1.0, (suc r.1.1.0, r.1.1.1), r.1.2), r.2))

united_known : (es side : List Entry) → AreUnited key_eq es side → KeepsKnown es side
united_known _ _ no_entries x (k, i, has, label) = absurd (has_none (k, i) has)
united_known _ _ (first_of_its_key es side e united none) x (k, i, has, label) = elim (either es (e ∷ []) (k, i) has) as (λ _. HasKnown (side ++ e ∷ []) x) [
  | inl was ↦ left_known side (e ∷ []) x (united_known es side united x (k, i, was, label))
  | inr last ↦ (k, i, has_right side (e ∷ []) (k, i) last, label)
]
united_known _ _ (key_again es side e united some) x (k, i, has, label) = elim (either es (e ∷ []) (k, i) has) as (λ _. HasKnown side x) [
  | inl was ↦ united_known es side united x (k, i, was, label)
  | inr last ↦ (
      let f = found (key_eq e.0) es some in
      let same : known e.0 ≡ known f.0 = (known_eq-Decides (known e.0) (known f.0)).0 f.3 in
      let first : known e.0 ≡ x = ap (λ (d : Entry). known d.0) (sym (has_one e (k, i) last)) ∙ label in
      united_known es side united x (f.0, f.1, f.2, sym same ∙ first))
]

included_known : (worlds : List World) (id : ℕ) (ns : List WorldInclude) (s t : JoinedState) → Includes worlds id ns s t → KeepsKnown s.imports t.imports × KeepsKnown s.exports t.exports
included_known worlds id _ s _ (includes_none _) = (λ x h. h, λ x h. h)
included_known worlds id _ s u (includes_one ns n _ t _ before (w, b, there, is, same)) =
    let r = included_known worlds id ns s t before in (
      λ x h. subst (λ (z : JoinedState). HasKnown z.imports x) (sym same) (left_known t.imports b.imports.items x (r.0 x h)),
      λ x h. subst (λ (z : JoinedState). HasKnown z.exports x) (sym same) (left_known t.exports b.exports.items x (r.1 x h)),
    )

same_known : (es fs : List Entry) → AllZip IsSameEntry es fs → KeepsKnown es fs
same_known [] fs zip x (k, i, has, label) = absurd (has_none (k, i) has)
same_known (e ∷ es) [] zip x h = absurd zip
same_known (e ∷ es) (f ∷ fs) zip x (k, i, (zero, at), label) = (f.0, f.1, (zero, refl), by e.0 f.0 zip.0.0 (ap (λ (d : Entry). known d.0) (same_Some e (k, i) at) ∙ label))
  where
    by : (a b : WorldKey) → IsSameKey a b → known a ≡ x → known b ≡ x
    by a b (same_name y z e) l = ap spelled e ∙ l
    by a b (same_key_interface j) l = l
same_known (e ∷ es) (f ∷ fs) zip x (k, i, (suc j, at), label) = (let r = same_known es fs zip.1 x (k, i, (j, at), label) in (r.0, r.1, (suc r.2.0, r.2.1), r.3))

-- a world has what it has itself, and what those bring that it includes
pub record KeepsSides (worlds : List World) (m : MovedWorld) (w : World) : Type 0 where
  pub imports : KeepsKnown m.imports.items w.imports.entries
  pub exports : KeepsKnown m.exports.items w.exports.entries
  pub import_labels : KeepsLabels m.imports.items w.imports.entries
  pub export_labels : KeepsLabels m.exports.items w.exports.entries
  pub includes : (n : WorldInclude) → Has m.includes.items n → IsIncludedIn worlds n w

one_keeps : (interfaces : List Interface) (uses : Rows) (owner : ℕ) (m : MovedWorld) (s t : State) (a : IsAdded interfaces uses owner m s t) → KeepsSides s.worlds.listed m a.listed
one_keeps interfaces uses owner m s t a =
    let sides = a.is_joined.sides in
    let r = included_known s.worlds.listed (length s.worlds.listed) m.includes.items _ sides.joined sides.includes in
    let q = included_labels s.worlds.listed (length s.worlds.listed) m.includes.items _ sides.joined sides.includes in
    record {
      imports = λ x h. imports_keep x (r.0 x h);
      exports = λ x h. exports_keep x (r.1 x h);
      import_labels = λ x i h. import_labels_keep x i (q.0 x i h);
      export_labels = λ x i h. export_labels_keep x i (q.1 x i h);
      includes = λ n has. (
          let b = included_brings s.worlds.listed (length s.worlds.listed) m.includes.items _ sides.joined sides.includes n has in record {
            included = b.included;
            there = b.there;
            imports = brings_more n.names.items b.included.imports.entries sides.joined.imports a.listed.imports.entries b.imports (label_kept sides.joined.imports a.listed.imports.entries import_labels_keep) imports_keep;
            exports = brings_more n.names.items b.included.exports.entries sides.joined.exports a.listed.exports.entries b.exports (label_kept sides.joined.exports a.listed.exports.entries export_labels_keep) exports_keep;
          });
    }
  where
    import_labels_keep : KeepsLabels a.is_joined.sides.joined.imports a.listed.imports.entries
    import_labels_keep x i h = same_labels a.joined.imports.entries a.listed.imports.entries a.is_listed.imports x i (united_labels a.is_joined.sides.joined.imports a.joined.imports.entries a.is_joined.sides.imports_are.entries a.is_joined.sides.imports_are.distinct x i h)

    export_labels_keep : KeepsLabels a.is_joined.sides.joined.exports a.listed.exports.entries
    export_labels_keep x i h = same_labels a.joined.exports.entries a.listed.exports.entries a.is_listed.exports x i (united_labels a.is_joined.sides.joined.exports a.joined.exports.entries a.is_joined.sides.exports_are.entries a.is_joined.sides.exports_are.distinct x i h)

    imports_keep : KeepsKnown a.is_joined.sides.joined.imports a.listed.imports.entries
    imports_keep x h = same_known a.joined.imports.entries a.listed.imports.entries a.is_listed.imports x (united_known a.is_joined.sides.joined.imports a.joined.imports.entries a.is_joined.sides.imports_are.entries x h)

    exports_keep : KeepsKnown a.is_joined.sides.joined.exports a.listed.exports.entries
    exports_keep x h = same_known a.joined.exports.entries a.listed.exports.entries a.is_listed.exports x (united_known a.is_joined.sides.joined.exports a.joined.exports.entries a.is_joined.sides.exports_are.entries x h)

keeps_later : (worlds more : List World) (m : MovedWorld) (w : World) → KeepsSides worlds m w → KeepsSides (worlds ++ more) m w
keeps_later worlds more m w h = record {
  imports = h.imports;
  exports = h.exports;
  import_labels = h.import_labels;
  export_labels = h.export_labels;
  includes = λ n has. (
      let b = h.includes n has in record {
        included = b.included;
        there = get_same worlds more n.id (slice_get_within worlds n.id b.included b.there) ∙ b.there;
        imports = b.imports;
        exports = b.exports;
      });
}

-- each of some worlds is there behind the others
record AreThere (ms : List MovedWorld) (s t : State) : Type 0 where
  more : List World
  listed_are : t.worlds.listed ≡ s.worlds.listed ++ more
  so_many : length more ≡ length ms
  each : (j : ℕ) (m : MovedWorld) → slice_get ms j ≡ Some m → (w : World) × (slice_get more j ≡ Some w) × KeepsSides t.worlds.listed m w

all_there : (interfaces : List Interface) (uses : Rows) (owner : ℕ) (ms : List MovedWorld) (s t : State) → AreAdded interfaces uses owner ms s t → AreThere ms s t
all_there interfaces uses owner _ s _ (none_added _) = record { more = []; listed_are = sym (append-nil s.worlds.listed); so_many = refl; each = λ j m at. absurd cc }
all_there interfaces uses owner _ s u (one_added ms m _ t _ before a) =
    let r = all_there interfaces uses owner ms s t before in
    let size = r.so_many in
    let one = length-append r.more (a.listed ∷ []) in
    let all = length-append ms (m ∷ []) in
    record {
      more = r.more ++ a.listed ∷ [];
      listed_are = a.listed_are ∙ ap (λ (ws : List World). ws ++ a.listed ∷ []) r.listed_are ∙ append_assoc s.worlds.listed r.more (a.listed ∷ []);
      so_many = omega (arith, size, one, all);
      each = λ j n at. elim (get_more ms m n j at) as (λ _. (w : World) × (slice_get (r.more ++ a.listed ∷ []) j ≡ Some w) × KeepsSides u.worlds.listed n w) [
        | inl was ↦ (
            let o = r.each j n was in
            (o.0, get_same r.more (a.listed ∷ []) j (slice_get_within r.more j o.0 o.1) ∙ o.1, still n o.0 o.2))
        | inr last ↦ (
            let place : j ≡ length r.more + 0 = (let e = last.0 in omega (arith, e, size)) in
            let here : KeepsSides t.worlds.listed n a.listed = subst (λ (x : MovedWorld). KeepsSides t.worlds.listed x a.listed) (sym last.1) (one_keeps interfaces uses owner m t u a) in
            (a.listed, ap (slice_get (r.more ++ a.listed ∷ [])) place ∙ get_right r.more (a.listed ∷ []) 0 a.listed refl, still n a.listed here))
      ];
    }
  where
    still : (n : MovedWorld) (w : World) → KeepsSides t.worlds.listed n w → KeepsSides u.worlds.listed n w
    still n w h = subst (λ (ws : List World). KeepsSides ws n w) (sym a.listed_are) (keeps_later t.worlds.listed (a.listed ∷ []) n w h)

-- so is one of them
pub world_there : (interfaces : List Interface) (uses : Rows) (owner : ℕ) (ms : List MovedWorld) (s t : State) → AreAdded interfaces uses owner ms s t → (j : ℕ) (m : MovedWorld) → slice_get ms j ≡ Some m
    → (w : World) × (slice_get t.worlds.listed (length s.worlds.listed + j) ≡ Some w) × KeepsSides t.worlds.listed m w
world_there interfaces uses owner ms s t added j m at =
    let r = all_there interfaces uses owner ms s t added in
    let o = r.each j m at in
    (o.0, ap (λ (ws : List World). slice_get ws (length s.worlds.listed + j)) r.listed_are ∙ get_right s.worlds.listed r.more j o.0 o.1, o.2)
