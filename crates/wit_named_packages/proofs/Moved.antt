-- A package that is named stays so wherever its places are.
use Rattle.std.proofs.Common.{◌≡◌, ℕ, ◌+◌, true, List, [], ◌∷◌, ◌++◌, ◌⊎◌, inl, inr, Some, drop, map, refl, sym, subst, ap, ◌∙◌}
use Rattle.std.proofs.lemmas.List.{drop-map}
use Rattle.std.proofs.lemmas.Option.{slice_get-map}
use Rattle.std.specs.Prelude.{slice_get, option_map, string_bytes}
use Rattle.wit_order.specs.Order.{Has}
use Rattle.wit_words.specs.declared.source_map.Span.{Span}
use Rattle.wit_types.specs.declared.function.Function.{Function}
use Rattle.wit_types.specs.declared.kind.«Type».{«Type» as Ref}
use Rattle.wit_types.specs.declared.kind.«Type».TheVariants as ref
use Rattle.wit_types.specs.declared.kind.TypeDefKind.{TypeDefKind}
use Rattle.wit_types.specs.declared.kind.TypeDefKind.TheVariants as kind
use Rattle.wit_types.specs.declared.interface.Interface.{Interface}
use Rattle.wit_types.specs.declared.interface.TypeDef.{TypeDef}
use Rattle.wit_types.specs.declared.interface.TypeOwner.{TypeOwner}
use Rattle.wit_types.specs.declared.interface.TypeOwner.TheVariants as belongs
use Rattle.wit_types.specs.declared.world.World.{World}
use Rattle.wit_types.specs.declared.world.WorldInclude.{WorldInclude}
use Rattle.wit_types.specs.declared.world.WorldItem.{WorldItem}
use Rattle.wit_types.specs.declared.world.WorldItem.TheVariants as item
use Rattle.wit_types.specs.declared.world_key.WorldKey.{WorldKey}
use Rattle.wit_types.specs.declared.world_key.WorldKey.TheVariants as key
use Rattle.wit_offsets.specs.Offsets.{kind_by, type_def_by, interface_by, include_by, item_by, world_by, span_at}
use Rattle.wit_reach.specs.Deps.{is_of_interface, IsDepOf}
use Rattle.wit_reach.specs.Holding.{listed_types}
use Rattle.wit_reach.specs.Ids.{kind_ids, item_ids, side_ids}
use Rattle.wit_reach.specs.Lists.{item_type, item_interface, item_types, type_items, listed as listed_key, listed_in}
use Rattle.wit_reach.specs.Made.{is_open, IsMadeOfWithin}
use Rattle.wit_reach.specs.Paths.{Reaches}
use Rattle.wit_reach.specs.Types.{IsOfItem}
use Rattle.wit_reach.proofs.Holding.{has_mapped, alias_of, of_alias}
use Rattle.wit_reach.proofs.Seen.{path_over}
use Rattle.wit_well_formed.proofs.Passed.wit_resolved_scopes-Orders.{listed, placed}
use Rattle.wit_named_graphs.specs.Passed.wit_uses-Uses.{IsOwn, IsUse, TakesByUse, IsOfInterface}
use Rattle.wit_named_graphs.specs.Passed.wit_item_names-Plain.{AreUnderPlainNames, ArePlainIncludes}
use Rattle.wit_named_graphs.specs.Passed.wit_item_names-Used.{IsOwnNamed}
use Rattle.wit_well_formed.specs.Passed.wit_graph_parts-Own.{asked}
use Rattle.wit_well_formed.proofs.Lists.{got_mapped, got_behind}
use Rattle.wit_well_formed.proofs.Offsets.{items_are, same_ids, same_function, same_functions}
use Rattle.wit_well_formed.proofs.OffsetNames.{moved_named_apart, was, was_function, was_type, plain_side}
use Rattle.wit_named_packages.specs.Named.{MovedPackagesAreNamed}

abbrev Entry : Type 0
Entry = WorldKey × WorldItem

module _ (f : Span → Span) where
  -- ---- what types are made of

  module _ (types : List TypeDef) (by : TypeOwner) where
    abbrev moved_types : List TypeDef
    moved_types = map (type_def_by f) types

    made_within : (i j : ℕ) → IsMadeOfWithin by moved_types i j → IsMadeOfWithin by types i j
    made_within i j (d, at, open_it, has) =
        let o = got_mapped (type_def_by f) types i d at in (
          o.0,
          o.1,
          subst (λ (x : TypeDef). is_open by x.owner ≡ true) (sym o.2) open_it,
          subst (λ (is : List ℕ). Has is j) (same_ids f o.0.kind) (subst (λ (x : TypeDef). Has (kind_ids x.kind) j) (sym o.2) has),
        )

    moved_part : (listed more : ℕ → Type 0) → ((k : ℕ) → listed k → more k) → (k i : ℕ) (d e : TypeDef) → IsOwn by e.owner ⊎ IsUse listed k i d e → IsOwn by e.owner ⊎ IsUse more k i (type_def_by f d) (type_def_by f e)
    moved_part listed more wider k i d e (inl own) = inl own
    moved_part listed more wider k i d e (inr u) = inr (record { is_listed = wider k u.is_listed; kind_is = ap (kind_by f) u.kind_is; interface = u.interface; of = u.of })

    takes_still : (listed more start fewer : ℕ → Type 0) → ((k : ℕ) → listed k → more k) → ((k : ℕ) → fewer k → start k) → TakesByUse types by listed start → TakesByUse moved_types by more fewer
    takes_still listed more start fewer wider narrower takes = record {
      starts = λ s d begins at.
          (let o = got_mapped (type_def_by f) types s d at in
          subst (λ (x : TypeDef). IsOwn by x.owner) o.2 (takes.starts s o.0 (narrower s begins) o.1));
      parts = λ s k i d e begins reach at open_it has at_e.
          (let o = got_mapped (type_def_by f) types k d at in
          let u = got_mapped (type_def_by f) types i e at_e in
          let was_open : is_open by o.0.owner ≡ true = subst (λ (x : TypeDef). is_open by x.owner ≡ true) (sym o.2) open_it in
          let among : Has (kind_ids o.0.kind) i = subst (λ (is : List ℕ). Has is i) (same_ids f o.0.kind) (subst (λ (x : TypeDef). Has (kind_ids x.kind) i) (sym o.2) has) in
          let reached : Reaches (IsMadeOfWithin by types) s k = (reach.0, path_over (IsMadeOfWithin by moved_types) (IsMadeOfWithin by types) made_within s reach.0 k reach.1) in
          let part = moved_part listed more wider k i o.0 u.0 (takes.parts s k i o.0 u.0 (narrower s begins) reached o.1 was_open among u.1) in
          subst (λ (x : TypeDef). IsOwn by x.owner ⊎ IsUse more k i d x) u.2 (subst (λ (x : TypeDef). IsOwn by u.0.owner ⊎ IsUse more k i x (type_def_by f u.0)) o.2 part));
      lists = λ s k d begins reach at its.
          (let o = got_mapped (type_def_by f) types k d at in
          let reached : Reaches (IsMadeOfWithin by types) s k = (reach.0, path_over (IsMadeOfWithin by moved_types) (IsMadeOfWithin by types) made_within s reach.0 k reach.1) in
          wider k (takes.lists s k o.0 (narrower s begins) reached o.1 (ap (λ (x : TypeDef). x.owner) o.2 ∙ its)));
    }

  -- another name of a type was one
  alias_was : (k : TypeDefKind) (r : Ref) → kind_by f k ≡ kind.Alias r → k ≡ kind.Alias r
  alias_was (kind.Alias q) r e = e
  alias_was (kind.Record x) r e = absurd cc
  alias_was kind.Resource r e = absurd cc
  alias_was (kind.Handle x) r e = absurd cc
  alias_was (kind.Flags x) r e = absurd cc
  alias_was (kind.Tuple x) r e = absurd cc
  alias_was (kind.Variant x) r e = absurd cc
  alias_was (kind.Enum x) r e = absurd cc
  alias_was (kind.Option x) r e = absurd cc
  alias_was (kind.Result x) r e = absurd cc
  alias_was (kind.List x) r e = absurd cc
  alias_was (kind.FixedLengthList x n) r e = absurd cc
  alias_was (kind.Future x) r e = absurd cc
  alias_was (kind.Stream x) r e = absurd cc
  alias_was kind.Unknown r e = absurd cc

  dep_was : (types : List TypeDef) (i j : ℕ) → IsDepOf (map (type_def_by f) types) i j → IsDepOf types i j
  dep_was types i j (d, at, dep) =
      let o = got_mapped (type_def_by f) types i d at in
      let a = alias_of (map (type_def_by f) types) d j dep in
      let u = got_mapped (type_def_by f) types a.target a.of a.there in (
        o.0,
        o.1,
        of_alias types o.0 j
            (record {
              target = a.target;
              of = u.0;
              kind_is = alias_was o.0.kind (ref.Id a.target) (ap (λ (x : TypeDef). x.kind) o.2 ∙ a.kind_is);
              there = u.1;
              owner = ap (λ (x : TypeDef). x.owner) u.2 ∙ a.owner;
              other = ap (λ (x : TypeDef). is_of_interface j x.owner) o.2 ∙ a.other;
            }),
      )

  -- ---- items of worlds

  abbrev entry_by : Entry → Entry
  entry_by e = (e.0, item_by f e.1)

  same_type : (b : WorldItem) → item_type (item_by f b) ≡ item_type b
  same_type (item.Interface id stability span) = refl
  same_type (item.Function x) = refl
  same_type (item.TypeItem id span) = refl

  same_item : (b : WorldItem) → item_ids (item_by f b) ≡ item_ids b
  same_item (item.Interface id stability span) = refl
  same_item (item.Function x) = same_function f x
  same_item (item.TypeItem id span) = refl

  same_interface : (b : WorldItem) → item_interface (item_by f b) ≡ item_interface b
  same_interface (item.Interface id stability span) = refl
  same_interface (item.Function x) = refl
  same_interface (item.TypeItem id span) = refl

  same_key : (k : WorldKey) (b : WorldItem) → listed_key (k, item_by f b) ≡ listed_key (k, b)
  same_key (key.Name n) b = refl
  same_key (key.Interface i) b = same_interface b

  same_types : (es : List Entry) → type_items (map entry_by es) ≡ type_items es
  same_types [] = refl
  same_types (e ∷ es) = (let p = same_type e.1 in let q = same_types es in λ i. (p i) ++ (q i))

  same_side : (es : List Entry) → side_ids (map entry_by es) ≡ side_ids es
  same_side [] = refl
  same_side (e ∷ es) = (let p = same_item e.1 in let q = same_side es in λ i. (p i) ++ (q i))

  same_listed : (es : List Entry) → listed_in (map entry_by es) ≡ listed_in es
  same_listed [] = refl
  same_listed (e ∷ es) = (let p = same_key e.0 e.1 in let q = same_listed es in λ i. (p i) ++ (q i))

  same_item_types : (w : World) → item_types (world_by f w) ≡ item_types w
  same_item_types w = (let p = same_types w.imports.entries in let q = same_types w.exports.entries in λ i. (p i) ++ (q i))

  of_item : (w : World) (i : ℕ) → IsOfItem (world_by f w) i → IsOfItem w i
  of_item w i (inl h) = inl (subst (λ (is : List ℕ). Has is i) (same_side w.imports.entries) h)
  of_item w i (inr h) = inr (subst (λ (is : List ℕ). Has is i) (same_side w.exports.entries) h)

  of_interface : (d : Interface) (i : ℕ) → IsOfInterface (interface_by f d) i → IsOfInterface d i
  of_interface d i (inl h) = inl h
  of_interface d i (inr h) = inr (subst (λ (is : List ℕ). Has is i) (same_functions f d.functions.entries) h)

  under_plain : (types : List TypeDef) (es : List Entry) → AreUnderPlainNames types es → AreUnderPlainNames (map (type_def_by f) types) (map entry_by es)
  under_plain types es h = record {
    plain = plain_side f es h.plain;
    functions = λ x g has.
        (let o = was f es (key.Name x) (item.Function g) has in
        let y = was_function f o.before g o.is in
        ap (λ (z : Function). string_bytes z.name) y.2 ∙ h.functions x y.0 (subst (λ (b : WorldItem). Has es (key.Name x, b)) y.1 o.has));
    types_are = λ x id s has.
        (let o = was f es (key.Name x) (item.TypeItem id s) has in
        let y = was_type f o.before id s o.is in
        let t = h.types_are x id y.0 (subst (λ (b : WorldItem). Has es (key.Name x, b)) y.1 o.has) in
        (type_def_by f t.0, t.1, slice_get-map (type_def_by f) types id ∙ ap (option_map (type_def_by f)) t.2, t.3, t.4));
  }

  plain_includes : (w : World) → ArePlainIncludes w.includes.items → ArePlainIncludes (world_by f w).includes.items
  plain_includes w h i has n has_n =
      let r = has_mapped (include_by f) w.includes.items i (subst (λ (is : List WorldInclude). Has is i) (items_are (include_by f) w.includes) has) in
      h r.0 r.1 n (subst (λ (j : WorldInclude). Has j.names.items n) (sym r.2) has_n)

  -- ---- interfaces that have names

  own_named : (others from : ℕ) (is : List Interface) (j : ℕ) → IsOwnNamed others (drop from is) j → IsOwnNamed others (drop from (map (interface_by f) is)) j
  own_named others from is j (inl other) = inl other
  own_named others from is j (inr (k, d, x, e, at, named)) =
      inr (k, interface_by f d, x, e, subst (λ (ds : List Interface). slice_get ds k ≡ Some (interface_by f d)) (sym (drop-map (interface_by f) from is)) (slice_get-map (interface_by f) (drop from is) k ∙ ap (option_map (interface_by f)) at), named)

pub moved : MovedPackagesAreNamed
moved p n h =
    record {
      interfaces_take = λ k d at.
          (let o = got_behind (interface_by (span_at n)) (asked p).interfaces p.interfaces k d at in
          subst (λ (x : Interface). TakesByUse (map (type_def_by (span_at n)) p.types) (belongs.Interface ((asked p).interfaces + k)) (Has (listed_types x)) (IsOfInterface x)) o.2
          (takes_still (span_at n) p.types (belongs.Interface ((asked p).interfaces + k)) (Has (listed_types o.0)) (Has (listed_types o.0)) (IsOfInterface o.0) (IsOfInterface (interface_by (span_at n) o.0)) (λ i listed_i. listed_i)
          (of_interface (span_at n) o.0) (h.interfaces_take k o.0 o.1)));
      worlds_take = λ k w at.
          (let o = got_behind (world_by (span_at n)) (asked p).worlds p.worlds k w at in
          subst (λ (x : World). TakesByUse (map (type_def_by (span_at n)) p.types) (belongs.World ((asked p).worlds + k)) (Has (type_items x.imports.entries)) (IsOfItem x)) o.2
          (takes_still (span_at n) p.types (belongs.World ((asked p).worlds + k)) (Has (type_items o.0.imports.entries)) (Has (type_items (world_by (span_at n) o.0).imports.entries)) (IsOfItem o.0) (IsOfItem (world_by (span_at n) o.0))
          (λ i listed_i. subst (λ (is : List ℕ). Has is i) (sym (same_types (span_at n) o.0.imports.entries)) listed_i) (of_item (span_at n) o.0) (h.worlds_take k o.0 o.1)));
      apart = record {
        apart = moved_named_apart p n h.apart.apart;
        names = λ i d x at named. (let o = got_behind (interface_by (span_at n)) (asked p).interfaces p.interfaces i d at in h.apart.names i o.0 x o.1 (ap (λ (y : Interface). y.name) o.2 ∙ named));
      };
      used = record {
        in_interfaces = λ k j d at used.
            (let o = got_behind (interface_by (span_at n)) (asked p).interfaces p.interfaces k d at in
            own_named (span_at n) (asked p).interfaces (asked p).interfaces p.interfaces j
            (h.used.in_interfaces k j o.0 o.1 (used.0, subst (λ (x : Interface). Has (listed_types x) used.0) (sym o.2) used.1, dep_was (span_at n) p.types used.0 j used.2)));
        in_worlds = λ i j w at used.
            (let o = got_behind (world_by (span_at n)) (asked p).worlds p.worlds i w at in
            own_named (span_at n) (asked p).interfaces (asked p).interfaces p.interfaces j
            (h.used.in_worlds i j o.0 o.1
            (used.0, subst (λ (is : List ℕ). Has is used.0) (same_item_types (span_at n) o.0) (subst (λ (x : World). Has (item_types x) used.0) (sym o.2) used.1), dep_was (span_at n) p.types used.0 j used.2)));
        imported = λ i j w at has.
            (let o = got_behind (world_by (span_at n)) (asked p).worlds p.worlds i w at in
            own_named (span_at n) (asked p).interfaces (asked p).interfaces p.interfaces j
            (h.used.imported i j o.0 o.1 (subst (λ (is : List ℕ). Has is j) (same_listed (span_at n) o.0.imports.entries) (subst (λ (x : World). Has (listed_in x.imports.entries) j) (sym o.2) has))));
      };
      plain = λ w has.
          (let at = placed (drop (asked p).worlds (map (world_by (span_at n)) p.worlds)) w has in
          let o = got_behind (world_by (span_at n)) (asked p).worlds p.worlds at.0 w at.1 in
          subst (λ (x : World). AreUnderPlainNames (map (type_def_by (span_at n)) p.types) x.imports.entries) o.2
          (under_plain (span_at n) p.types o.0.imports.entries (h.plain o.0 (listed (drop (asked p).worlds p.worlds) o.0 (at.0, o.1)))));
      renames = λ w has.
          (let at = placed (drop (asked p).worlds (map (world_by (span_at n)) p.worlds)) w has in
          let o = got_behind (world_by (span_at n)) (asked p).worlds p.worlds at.0 w at.1 in
          subst (λ (x : World). ArePlainIncludes x.includes.items) o.2 (plain_includes (span_at n) o.0 (h.renames o.0 (listed (drop (asked p).worlds p.worlds) o.0 (at.0, o.1)))));
    }
