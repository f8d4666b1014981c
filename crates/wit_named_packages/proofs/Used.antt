-- Interfaces of which a resolved package uses types, and those that its worlds import by a path, are of other packages or have names.
use Rattle.std.proofs.Common.{◌≡◌, ℕ, ◌+◌, ◌<◌, List, inl, inr, Some, length, map, refl, sym, subst, ap, ◌∙◌, arith}
use Rattle.std.proofs.lemmas.Option.{slice_get_within}
use Rattle.std.specs.Prelude.{slice_get}
use Rattle.wit_order.specs.Order as order
use Rattle.wit_types.specs.declared.interface.TypeDef.{TypeDef}
use Rattle.wit_types.specs.declared.world.World.{World}
use Rattle.wit_types.specs.declared.world.WorldItem.{WorldItem}
use Rattle.wit_types.specs.declared.world_key.WorldKey.{WorldKey}
use Rattle.wit_types.specs.declared.world_key.WorldKey.TheVariants as key
use Rattle.wit_types.specs.WorldKey.{spelled, known}
use Rattle.wit_types.specs.declared.«package».UnresolvedPackage.{UnresolvedPackage}
use Rattle.wit_syntax.specs.Ast.{FileTree}
use Rattle.wit_scopes.specs.declared.worlds.Side.TheVariants.{Import}
use Rattle.wit_scopes.specs.Paths.{TargetTree, own, foreign}
use Rattle.wit_scopes.specs.Scopes as scope
use Rattle.wit_scopes.specs.Scopes.{ExternKind, ListedTree, WorldMemberTree}
use Rattle.wit_arena.specs.Table.{Entries}
use Rattle.wit_arena.specs.Tree.{Name, in_interface, Owner}
use Rattle.wit_well_formed.proofs.Passed.wit_interfaces-Behind.{get_either}
use Rattle.wit_well_formed.specs.Passed.wit_resolved_scopes-Each.{Each}
use Rattle.wit_well_formed.specs.Passed.wit_resolved_scopes-InArena.{Context}
use Rattle.wit_well_formed.specs.Passed.wit_resolved_scopes-Texts.{InterfaceText, side_members}
use Rattle.wit_well_formed.proofs.Passed.wit_resolved_scopes-Eaches.{each_right}
use Rattle.wit_well_formed.proofs.Passed.wit_resolved_scopes-Orders.{placed}
use Rattle.wit_reach.specs.Deps.{AreUsed}
use Rattle.wit_reach.specs.Lists.{item_interface, item_types, type_items, listed as listed_key, listed_in}
use Rattle.wit_reach.proofs.Holding.{has_flat}
use Rattle.wit_reach.proofs.Lists.{has_parts}
use Rattle.wit_well_formed.specs.Passed.wit_worlds-Worlds.{Entry, target_owner, IsTypeEntry, IsExternEntry, IsEntryOf}
use Rattle.wit_well_formed.specs.Passed.wit_graph_parts-Own.{asked}
use Rattle.wit_well_formed.specs.Passed.wit_package-Resolved.{foreign_owners, owner_in}
use Rattle.wit_well_formed.specs.Passed.wit_package-Steps.{Resolves}
use Rattle.wit_well_formed.proofs.Passed.wit_package-Owning.{interface_owners_length}
use Rattle.wit_well_formed.proofs.Lists.{get_drop, got_mapped}
use Rattle.wit_named_packages.specs.Taking.{UsedInterfacesAreNamed}
use Rattle.wit_named_packages.proofs.Interfaces.{interface_dep}
use Rattle.wit_named_packages.proofs.Worlds.{dep_of, no_exported}
use Rattle.wit_named_packages.proofs.Packages.{s, me, c, first, texts, first_is, world_at, MayBeUsed, place_named}

-- ---- interfaces that are imported

-- nothing stands under its own name whose key is spelled
spelled_none : (k : WorldKey) (b : WorldItem) (x : Name) (j : ℕ) → known k ≡ spelled x → order.Has (listed_key (k, b)) j → ⊥
spelled_none (key.Name n) b x j e has = has
spelled_none (key.Interface i) b x j e has = absurd cc

placed_item : (k : WorldKey) (b : WorldItem) (j : ℕ) → order.Has (listed_key (k, b)) j → order.Has (item_interface b) j
placed_item (key.Name n) b j has = absurd has
placed_item (key.Interface i) b j has = has

-- an interface that a path names
record IsPathTo (cx : Context) (j : ℕ) : Type 0 where
  target : TargetTree
  owner : slice_get cx.owners.interfaces j ≡ Some (target_owner cx.me in_interface target)

module _ (cx : Context) (w : Name) (a : List TypeDef) (table : Entries) (j : ℕ) where
  extern_path : (l : ListedTree) (k : ExternKind) (e : Entry) → IsExternEntry cx w a table l k e → order.Has (listed_key e) j → IsPathTo cx j
  extern_path l (scope.ExternKind.function f) e h has = absurd (spelled_none e.0 e.1 _ j h.key has)
  extern_path l (scope.ExternKind.interface ms) e h has = absurd (spelled_none e.0 e.1 _ j h.key has)
  extern_path l (scope.item t) e h has =
      let here = subst (λ (b : WorldItem). order.Has (item_interface b) j) h.item (placed_item e.0 e.1 j has) in
      let one : j ≡ h.id = elim here as (λ _. j ≡ h.id) [ inl same ↦ same | inr none ↦ absurd none ] in
      record { target = t; owner = subst (λ (i : ℕ). slice_get cx.owners.interfaces i ≡ Some (target_owner cx.me in_interface t)) (sym one) h.owner }

  entry_path : (x : WorldMemberTree) (e : Entry) → IsEntryOf cx w a table x e → order.Has (listed_key e) j → IsPathTo cx j
  entry_path (scope.member m) e h has = absurd (spelled_none e.0 e.1 _ j h.key has)
  entry_path (scope.listed l) e h has = extern_path l l.kind e h has
  entry_path (scope.included n) e h has = absurd h

target_place : (cx : Context) (t : TargetTree) → (y : Name) × ((target_owner cx.me in_interface t).place ≡ in_interface y)
target_place cx (own n) = (n.text, refl)
target_place cx (foreign q n) = (n.text, refl)

module _ (files : List FileTree) (p : UnresolvedPackage) (r : Resolves files p) where
  -- that of another package is asked for, and that of its own has a name
  path_named : (j : ℕ) → IsPathTo (c files p r) j → MayBeUsed files p r j
  path_named j path =
      let others : List Owner = (foreign_owners (s files p r).items).interfaces in
      let so_many : first files p r ≡ length others = (s files p r).foreign_are.so_many_interfaces ∙ sym (interface_owners_length (s files p r).items) in
      elim (get_either others (map (λ (t : InterfaceText). owner_in (me files p r) t.place) (texts files p r)) j (target_owner (me files p r) in_interface path.target) path.owner) as (λ _. MayBeUsed files p r j) [
        | inl other ↦ inl (let within : j < length others = slice_get_within others j (target_owner (me files p r) in_interface path.target) other in omega (arith, within, so_many, first_is files p r))
        | inr o ↦
            let t = got_mapped (λ (t : InterfaceText). owner_in (me files p r) t.place) (texts files p r) o.0 (target_owner (me files p r) in_interface path.target) o.2 in
            let y = target_place (c files p r) path.target in
            let place : t.0.place ≡ in_interface y.0 = ap (λ (v : Owner). v.place) t.2 ∙ y.1 in
            let behind : first files p r + o.0 ≡ j = ap (λ (n : ℕ). n + o.0) so_many ∙ sym o.1 in
            subst (MayBeUsed files p r) behind (place_named files p r o.0 t.0 y.0 t.1 place)
      ]

  type_entry_none : (table : Entries) (es : List Entry) → Each (IsTypeEntry p.types) table es → (k : ℕ) (e : Entry) → slice_get es k ≡ Some e → (j : ℕ) → order.Has (listed_key e) j → ⊥
  type_entry_none table es are k e at j has = (let t = each_right (IsTypeEntry p.types) table es are k e at in spelled_none e.0 e.1 t.0.0 j t.2.key has)

  -- ---- a world

  imported_named : (n : ℕ) (v : World) → slice_get p.worlds n ≡ Some v → (j : ℕ) → order.Has (listed_in v.imports.entries) j → MayBeUsed files p r j
  imported_named n v at j h = elim (world_at files p r n v at) as (λ _. MayBeUsed files p r j) [
    | inl none ↦ absurd (subst (λ (es : List Entry). order.Has (listed_in es) j) none.0 h)
    | inr mine ↦
        let is = mine.is in
        let x = has_flat listed_key v.imports.entries j h in
        let q = placed v.imports.entries x.0 x.1 in
        elim (get_either is.type_entries is.other_imports q.0 x.0 (subst (λ (es : List Entry). slice_get es q.0 ≡ Some x.0) is.imports_are q.1)) as (λ _. MayBeUsed files p r j) [
          | inl here ↦ absurd (type_entry_none is.table is.type_entries is.type_entries_are q.0 x.0 here j x.2)
          | inr later ↦
              let y = each_right (IsEntryOf (c files p r) mine.text.name.text p.types is.table) (side_members Import mine.text.members) is.other_imports is.lists_are.imports_are later.0 x.0 later.2 in
              path_named j (entry_path (c files p r) mine.text.name.text p.types is.table j y.0 x.0 y.2 x.2)
        ]
  ]

  world_dep : (n : ℕ) (v : World) → slice_get p.worlds n ≡ Some v → (j : ℕ) → AreUsed p.types (item_types v) j → MayBeUsed files p r j
  world_dep n v at j (i, has, dep) = elim (world_at files p r n v at) as (λ _. MayBeUsed files p r j) [
    | inl none ↦ elim (has_parts (type_items v.imports.entries) (type_items v.exports.entries) i has) as (λ _. MayBeUsed files p r j) [
      | inl imported ↦ absurd (subst (λ (es : List Entry). order.Has (type_items es) i) none.0 imported)
      | inr exported ↦ absurd (subst (λ (es : List Entry). order.Has (type_items es) i) none.1 exported)
    ]
    | inr mine ↦ elim (has_parts (type_items v.imports.entries) (type_items v.exports.entries) i has) as (λ _. MayBeUsed files p r j) [
      | inl imported ↦ dep_of files p r n v at mine.place mine.text mine.at_text mine.behind mine.is i j imported dep
      | inr exported ↦ absurd (no_exported files p r n v at mine.place mine.text mine.at_text mine.behind mine.is i exported)
    ]
  ]

pub used_named : UsedInterfacesAreNamed
used_named files p r = record {
  in_interfaces = λ k j d at used. interface_dep files p r k d at used.0 j used.1 used.2;
  in_worlds = λ i j w at used. world_dep files p r ((asked p).worlds + i) w (get_drop (asked p).worlds p.worlds i w at) j used;
  imported = λ i j w at has. imported_named files p r ((asked p).worlds + i) w (get_drop (asked p).worlds p.worlds i w at) j has;
}
