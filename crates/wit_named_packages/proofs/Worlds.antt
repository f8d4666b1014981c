-- Worlds of a resolved package take types of others by use alone.
use Rattle.std.proofs.Common.{◌≡◌, ℕ, ◌+◌, List, [], inl, inr, Some, map, refl, sym, subst, ap, ◌∙◌}
use Rattle.std.proofs.lemmas.Option.{same_Some}
use Rattle.std.specs.Prelude.{slice_get, flat_map}
use Rattle.wit_order.specs.Order as order
use Rattle.wit_words.specs.declared.source_map.Span.{Span}
use Rattle.wit_types.specs.declared.kind.TypeDefKind.TheVariants as kind
use Rattle.wit_types.specs.declared.interface.TypeDef.{TypeDef}
use Rattle.wit_types.specs.declared.interface.TypeOwner.{TypeOwner}
use Rattle.wit_types.specs.declared.interface.TypeOwner.TheVariants as belongs
use Rattle.wit_types.specs.declared.world.World.{World}
use Rattle.wit_types.specs.declared.world.WorldItem.{WorldItem}
use Rattle.wit_types.specs.declared.world.WorldItem.TheVariants as item
use Rattle.wit_types.specs.declared.«package».UnresolvedPackage.{UnresolvedPackage}
use Rattle.wit_syntax.specs.Ast.{FileTree}
use Rattle.wit_scopes.specs.declared.worlds.Side.{Side}
use Rattle.wit_scopes.specs.declared.worlds.Side.TheVariants.{Import, Export}
use Rattle.wit_scopes.specs.Members.{MemberTree}
use Rattle.wit_scopes.specs.Scopes as scope
use Rattle.wit_scopes.specs.Scopes.{ExternKind, ListedTree, WorldMemberTree, WorldScope}
use Rattle.wit_arena.specs.Meaning.{Has}
use Rattle.wit_arena.specs.Table.{Entries}
use Rattle.wit_arena.specs.Tree.{Name, Place, in_world, Tree}
use Rattle.wit_arena.specs.Unfold.{owner_of}
use Rattle.wit_well_formed.proofs.Passed.wit_interfaces-Behind.{get_either}
use Rattle.wit_well_formed.specs.Passed.wit_resolved_scopes-Each.{Each}
use Rattle.wit_well_formed.specs.Passed.wit_resolved_scopes-InArena.{Context, IsTypeIn}
use Rattle.wit_well_formed.specs.Passed.wit_resolved_scopes-Texts.{worlds_of, side_members}
use Rattle.wit_well_formed.proofs.Passed.wit_resolved_scopes-Eaches.{each_right}
use Rattle.wit_well_formed.proofs.Passed.wit_resolved_scopes-Orders.{listed, placed}
use Rattle.wit_reach.specs.Deps.{IsDepOf}
use Rattle.wit_reach.specs.Ids.{item_ids, side_ids}
use Rattle.wit_reach.specs.Lists.{item_type, type_items}
use Rattle.wit_reach.specs.Types.{IsOfItem}
use Rattle.wit_reach.proofs.Holding.{has_mapped, mapped_has, has_flat, flat_has}
use Rattle.wit_named_graphs.specs.Passed.wit_uses-Uses.{TakesByUse}
use Rattle.wit_well_formed.specs.Passed.wit_worlds-Worlds.{Entry, IsTypeEntry, IsFunctionEntry, IsExternEntry, IsEntryOf, IsWorldIn}
use Rattle.wit_well_formed.specs.Passed.wit_package-Steps.{Resolves}
use Rattle.wit_named_packages.specs.Taking.{ResolvedWorldsTakeByUse}
use Rattle.wit_named_packages.proofs.Outside.{owner_at}
use Rattle.wit_named_packages.proofs.Scope.{takes, dep_named}
use Rattle.wit_named_packages.proofs.Members.{OutsideAt, type_tree, type_owner, type_outside, function_outside, IsScopeTree}
use Rattle.wit_named_packages.proofs.Packages.{s, me, owners, c, first_world, world_at, MayBeUsed, listed_type, placed_at, one_world, its_arena}

-- ---- items of a side

module _ (f : WorldItem → List ℕ) where
  -- an entry that gives an id
  record IsGiven (es : List Entry) (i : ℕ) : Type 0 where
    place : ℕ
    entry : Entry
    there : slice_get es place ≡ Some entry
    gives : order.Has (f entry.1) i

  given_by : (es : List Entry) (i : ℕ) → order.Has (flat_map f (map (λ (e : Entry). e.1) es)) i → IsGiven es i
  given_by es i h =
      let x = has_flat f (map (λ (e : Entry). e.1) es) i h in
      let e = has_mapped (λ (e : Entry). e.1) es x.0 x.1 in
      let at = placed es e.0 e.1 in
      record { place = at.0; entry = e.0; there = at.1; gives = subst (λ (b : WorldItem). order.Has (f b) i) (sym e.2) x.2 }

-- ---- what stands on a side besides types

module _ (cx : Context) (w : Name) (whose : TypeOwner) (a : List TypeDef) (sorted : List MemberTree) (table : Entries) (are : Each (IsTypeIn cx (in_world w) whose a) sorted table) (i : ℕ) where
  abbrev OutsideHere : Type 0
  OutsideHere = OutsideAt cx (in_world w) whose a sorted table are i

  entry_function : (m : MemberTree) (e : Entry) → IsFunctionEntry cx (in_world w) a table m e → order.Has (item_ids e.1) i → OutsideHere
  entry_function m e h has = function_outside cx (in_world w) whose a sorted table are m h.made h.is i (subst (λ (b : WorldItem). order.Has (item_ids b) i) h.item has)

  entry_extern : (l : ListedTree) (k : ExternKind) (e : Entry) → IsExternEntry cx w a table l k e → order.Has (item_ids e.1) i → OutsideHere
  entry_extern l (scope.ExternKind.function f) e h has = entry_function _ e h has
  entry_extern l (scope.ExternKind.interface ms) e h has = absurd (subst (λ (b : WorldItem). order.Has (item_ids b) i) h.item has)
  entry_extern l (scope.item t) e h has = absurd (subst (λ (b : WorldItem). order.Has (item_ids b) i) h.item has)

  entry_outside : (x : WorldMemberTree) (e : Entry) → IsEntryOf cx w a table x e → order.Has (item_ids e.1) i → OutsideHere
  entry_outside (scope.member m) e h has = entry_function m e h has
  entry_outside (scope.listed l) e h has = entry_extern l l.kind e h has
  entry_outside (scope.included n) e h has = absurd h

module _ (cx : Context) (w : Name) (a : List TypeDef) (table : Entries) (i : ℕ) where
  extern_no_type : (l : ListedTree) (k : ExternKind) (e : Entry) → IsExternEntry cx w a table l k e → order.Has (item_type e.1) i → ⊥
  extern_no_type l (scope.ExternKind.function f) e h has = subst (λ (b : WorldItem). order.Has (item_type b) i) h.item has
  extern_no_type l (scope.ExternKind.interface ms) e h has = subst (λ (b : WorldItem). order.Has (item_type b) i) h.item has
  extern_no_type l (scope.item t) e h has = subst (λ (b : WorldItem). order.Has (item_type b) i) h.item has

  entry_no_type : (x : WorldMemberTree) (e : Entry) → IsEntryOf cx w a table x e → order.Has (item_type e.1) i → ⊥
  entry_no_type (scope.member m) e h has = subst (λ (b : WorldItem). order.Has (item_type b) i) h.item has
  entry_no_type (scope.listed l) e h has = extern_no_type l l.kind e h has
  entry_no_type (scope.included n) e h has = h

  side_no_type : (side : Side) (ms : List WorldMemberTree) (es : List Entry) → Each (IsEntryOf cx w a table) (side_members side ms) es → (k : ℕ) (e : Entry) → slice_get es k ≡ Some e → order.Has (item_type e.1) i → ⊥
  side_no_type side ms es are k e at has = (let x = each_right (IsEntryOf cx w a table) (side_members side ms) es are k e at in entry_no_type x.0 e x.2 has)

-- ---- a world

module _ (files : List FileTree) (p : UnresolvedPackage) (r : Resolves files p) (n : ℕ) (v : World) (at : slice_get p.worlds n ≡ Some v) (m : ℕ) (w : WorldScope) (at_text : slice_get (worlds_of (s files p r).sorted) m ≡ Some w)
    (behind : n ≡ first_world files p r + m) (is : IsWorldIn (c files p r) p.types w (first_world files p r + m) v)
  where
    abbrev o : Place
    o = in_world w.name.text

    abbrev by : TypeOwner
    by = belongs.World (first_world files p r + m)

    abbrev Listed : ℕ → Type 0
    Listed i = order.Has (type_items v.imports.entries) i

    abbrev Outside : ℕ → Type 0
    Outside i = OutsideAt (c files p r) o by p.types is.sorted is.table is.types_are i

    -- a type entry gives a type of the table
    entry_type_in : (f : WorldItem → List ℕ) → ((j : ℕ) (z : Span) (i : ℕ) → order.Has (f (item.TypeItem j z)) i → i ≡ j) → (k : ℕ) (e : Entry) → slice_get is.type_entries k ≡ Some e → (i : ℕ) → order.Has (f e.1) i → (x : Name) × Has is.table (x, i)
    entry_type_in f only k e at_e i has =
        let t = each_right (IsTypeEntry p.types) is.table is.type_entries is.type_entries_are k e at_e in
        let one : i ≡ t.0.1 = only t.0.1 t.2.def.span i (subst (λ (b : WorldItem). order.Has (f b) i) t.2.item has) in
        (t.0.0, subst (λ (j : ℕ). Has is.table (t.0.0, j)) (sym one) (k, t.1))

    one_type : (j : ℕ) (z : Span) (i : ℕ) → order.Has (item_type (item.TypeItem j z)) i → i ≡ j
    one_type j z i h = elim h as (λ _. i ≡ j) [ inl e ↦ e | inr none ↦ absurd none ]

    one_id : (j : ℕ) (z : Span) (i : ℕ) → order.Has (item_ids (item.TypeItem j z)) i → i ≡ j
    one_id j z i h = elim h as (λ _. i ≡ j) [ inl e ↦ e | inr none ↦ absurd none ]

    in_table : (i : ℕ) → Listed i → (x : Name) × Has is.table (x, i)
    in_table i h =
        let g = given_by item_type v.imports.entries i h in
        elim (get_either is.type_entries is.other_imports g.place g.entry (subst (λ (es : List Entry). slice_get es g.place ≡ Some g.entry) is.imports_are g.there)) as (λ _. (x : Name) × Has is.table (x, i)) [
          | inl here ↦ entry_type_in item_type one_type g.place g.entry here i g.gives
          | inr later ↦ absurd (side_no_type (c files p r) w.name.text p.types is.table i Import w.members is.other_imports is.lists_are.imports_are later.0 g.entry later.2 g.gives)
        ]

    pub no_exported : (i : ℕ) → order.Has (type_items v.exports.entries) i → ⊥
    no_exported i h =
        let g = given_by item_type v.exports.entries i h in
        side_no_type (c files p r) w.name.text p.types is.table i Export w.members v.exports.entries is.lists_are.exports_are g.place g.entry g.there g.gives

    listed_owner : (i : ℕ) (x : TypeDef) → slice_get p.types i ≡ Some x → Listed i → x.owner ≡ by
    listed_owner i x at_x h = (let e = in_table i h in type_owner (c files p r) o by p.types is.sorted is.table is.types_are e.0 i e.1 x at_x)

    -- a type that is the world's is imported
    lists_own : (i : ℕ) (x : TypeDef) → slice_get p.types i ≡ Some x → x.owner ≡ by → Listed i
    lists_own i x at_x its =
        let l = listed_type files p r i x n at_x (its ∙ ap (λ (k : ℕ). belongs.World k) (sym behind)) in
        let same : l.0 ≡ v = same_Some l.0 v (sym l.1 ∙ at) in
        let has : Has v.imports.entries (l.2.0, item.TypeItem i l.2.1) = subst (λ (z : World). Has z.imports.entries (l.2.0, item.TypeItem i l.2.1)) same l.2.2 in
        flat_has item_type (map (λ (e : Entry). e.1) v.imports.entries) (item.TypeItem i l.2.1) i
        (mapped_has (λ (e : Entry). e.1) v.imports.entries (l.2.0, item.TypeItem i l.2.1) (listed v.imports.entries (l.2.0, item.TypeItem i l.2.1) has)) (inl refl)

    one_owner : (i : ℕ) (x : TypeDef) → slice_get p.types i ≡ Some x → (x.kind ≡ kind.Unknown → ⊥) → owner_of (owners files p r) x.owner ≡ Some (owner_at (me files p r) o) → x.owner ≡ by
    one_owner i x at_x not of = one_world files p r x.owner (owner_at (me files p r) o) m w at_text refl (placed_at files p r i x (owner_at (me files p r) o) at_x not of)

    scope_tree : (i : ℕ) → Listed i → (u : Tree) × IsScopeTree (c files p r) o by p.types is.sorted is.table is.types_are i u
    scope_tree i h = (let e = in_table i h in type_tree (c files p r) o by p.types is.sorted is.table is.types_are e.0 i e.1)

    side_outside : (side : Side) (es : List Entry) → Each (IsEntryOf (c files p r) w.name.text p.types is.table) (side_members side w.members) es → (i k : ℕ) (e : Entry) → slice_get es k ≡ Some e → order.Has (item_ids e.1) i → Outside i
    side_outside side es are i k e at_e has =
        let x = each_right (IsEntryOf (c files p r) w.name.text p.types is.table) (side_members side w.members) es are k e at_e in
        entry_outside (c files p r) w.name.text by p.types is.sorted is.table is.types_are i x.0 e x.2 has

    start_outside : (i : ℕ) → IsOfItem v i → Outside i
    start_outside i (inl h) =
        let g = given_by item_ids v.imports.entries i h in
        elim (get_either is.type_entries is.other_imports g.place g.entry (subst (λ (es : List Entry). slice_get es g.place ≡ Some g.entry) is.imports_are g.there)) as (λ _. Outside i) [
          | inl here ↦ (let e = entry_type_in item_ids one_id g.place g.entry here i g.gives in type_outside (c files p r) o by p.types is.sorted is.table is.types_are e.0 i e.1)
          | inr later ↦ side_outside Import is.other_imports is.lists_are.imports_are i later.0 g.entry later.2 g.gives
        ]
    start_outside i (inr h) = (let g = given_by item_ids v.exports.entries i h in side_outside Export v.exports.entries is.lists_are.exports_are i g.place g.entry g.there g.gives)

    world_takes : TakesByUse p.types by Listed (IsOfItem v)
    world_takes =
        takes (me files p r) (owners files p r) (MayBeUsed files p r) p.types (its_arena files p r) o by one_owner Listed lists_own (λ i h. (let t = scope_tree i h in (t.0, t.1.0, t.1.1))) (IsOfItem v) start_outside

    pub dep_of : (i j : ℕ) → Listed i → IsDepOf p.types i j → MayBeUsed files p r j
    dep_of =
        dep_named (me files p r) (owners files p r) (MayBeUsed files p r) p.types (its_arena files p r) o by one_owner Listed lists_own (λ i h. (let t = scope_tree i h in (t.0, t.1.0, t.1.1))) listed_owner

-- a world of another package has nothing
empty_takes : (a : List TypeDef) (whose : TypeOwner) (w : World) → w.imports.entries ≡ [] → w.exports.entries ≡ [] → TakesByUse a whose (order.Has (type_items w.imports.entries)) (IsOfItem w)
empty_takes a whose w imports exports = record { starts = λ s d begins at. absurd (none s begins); parts = λ s k i d e begins reach at open_it among at_e. absurd (none s begins); lists = λ s k d begins reach at its. absurd (none s begins) }
  where
    none : (i : ℕ) → IsOfItem w i → ⊥
    none i (inl h) = subst (λ (es : List Entry). order.Has (side_ids es) i) imports h
    none i (inr h) = subst (λ (es : List Entry). order.Has (side_ids es) i) exports h

pub worlds_take : ResolvedWorldsTakeByUse
worlds_take files p r n v at = elim (world_at files p r n v at) as (λ _. TakesByUse p.types (belongs.World n) (order.Has (type_items v.imports.entries)) (IsOfItem v)) [
  | inl none ↦ empty_takes p.types (belongs.World n) v none.0 none.1
  | inr own ↦
      subst (λ (k : ℕ). TakesByUse p.types (belongs.World k) (order.Has (type_items v.imports.entries)) (IsOfItem v)) (sym own.behind) (world_takes files p r n v at own.place own.text own.at_text own.behind own.is)
]
