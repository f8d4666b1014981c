-- Packages to which files are resolved have owners, those of their texts.
use Rattle.std.proofs.Common.{◌≡◌, ◌<◌, ℕ, ◌+◌, List, ◌++◌, map, length, length-append, Option, Some, None, inl, inr, refl, sym, subst, ap, ◌∙◌, arith}
use Rattle.std.proofs.lemmas.List.{length-map}
use Rattle.std.proofs.lemmas.Option.{same_Some, slice_get_within, slice_get-map}
use Rattle.std.specs.Prelude.{String, option_map, flat_map, string_bytes, slice_get}
use Rattle.std.specs.declared.alloc.Global.{Global}
use Rattle.wit_syntax.specs.Ast.{FileTree}
use Rattle.wit_types.specs.declared.interface.Interface.{Interface}
use Rattle.wit_types.specs.declared.«package».UnresolvedPackage.{UnresolvedPackage}
use Rattle.wit_types.specs.declared.world.World.{World}
use Rattle.wit_offsets.specs.Offsets.{interface_by, world_by, span_at}
use Rattle.wit_scopes.specs.Scopes.{WorldScope, InterfaceScope}
use Rattle.wit_arena.specs.Tree.{Name, in_interface, in_world, PackageText, Owner}
use Rattle.wit_arena.specs.Unfold.{Owners}
use Rattle.wit_arena.specs.Meaning.{Has, package_text}
use Rattle.wit_arena.proofs.Lists.{has_none, map_has}
use Rattle.wit_well_formed.specs.Passed.wit_foreign-Items.{interfaces_in, worlds_in}
use Rattle.wit_well_formed.proofs.Passed.wit_interfaces-Behind.{get_either, get_right}
use Rattle.wit_well_formed.proofs.Passed.wit_readiness-Flat.{in_flat, has_one}
use Rattle.wit_reach.proofs.Holding.{got}
use Rattle.wit_well_formed.specs.Passed.wit_resolved_scopes-Texts.{InterfaceText, interfaces_of, interface_text, listed_text, member_texts, extern_texts, labelled_texts, interface_texts, worlds_of}
use Rattle.wit_scopes.specs.Scopes as scope
use Rattle.wit_scopes.specs.Scopes.{ItemScope, WorldMemberTree, ListedTree, ExternKind}
use Rattle.wit_well_formed.specs.Passed.wit_package-Resolved.{IsResolved, foreign_owners, owner_in, context_of}
use Rattle.wit_well_formed.specs.Passed.wit_package-Steps.{Resolves}
use Rattle.wit_well_formed.proofs.Passed.wit_package-Owning.{interface_owners_length, world_owners_length}
use Rattle.wit_well_formed.proofs.Belonging.{counted, worlds_are_counted}
use Rattle.wit_well_formed.proofs.Lists.{get_drop, got_behind}
use Rattle.wit_graph.specs.Passed.wit_graph_parts-Own.{asked, own_parts}
use Rattle.wit_pushed_trees.specs.Asked.{text_of}
use Rattle.wit_pushed_trees.specs.Owned.{ResolvedPackagesHaveOwners, MovedPackagesHaveOwners}
use Rattle.wit_pushed_trees.proofs.Apart.{no_world_place}
use Rattle.wit_pushed_trees.proofs.Asking.{text_is, resolved_ask, moved_ask}

-- ---- texts of interfaces

listed_name : (w : Name) (l : ListedTree) (k : ExternKind) (t : InterfaceText) → Has (extern_texts w l k) t → t.name ≡ None
listed_name w l (scope.ExternKind.function f) t has = absurd (has_none t has)
listed_name w l (scope.ExternKind.interface ms) t has = ap (λ (x : InterfaceText). x.name) (has_one (listed_text w l ms) t has)
listed_name w l (scope.item i) t has = absurd (has_none t has)

member_name : (w : Name) (m : WorldMemberTree) (t : InterfaceText) → Has (member_texts w m) t → t.name ≡ None
member_name w (scope.member m) t has = absurd (has_none t has)
member_name w (scope.listed l) t has = listed_name w l l.kind t has
member_name w (scope.included i) t has = absurd (has_none t has)

-- one that has a name is that of an interface of its own
pub named_text : (sorted : List ItemScope) (k : ℕ) (t : InterfaceText) (x : Name) → slice_get (interface_texts sorted) k ≡ Some t → t.name ≡ Some x → (i : InterfaceScope) × Has (interfaces_of sorted) i × (t ≡ interface_text i)
named_text sorted k t x at named = elim (get_either (map interface_text (interfaces_of sorted)) (flat_map labelled_texts (worlds_of sorted)) k t at) as (λ _. (i : InterfaceScope) × Has (interfaces_of sorted) i × (t ≡ interface_text i)) [
  | inl own ↦ map_has interface_text (interfaces_of sorted) t (k, own)
  | inr labelled ↦
      let w = in_flat labelled_texts (worlds_of sorted) t (labelled.0, labelled.2) in
      let m = in_flat (member_texts w.0.name.text) w.0.members t w.2 in
      absurd (let none : None ≡ Some x = sym (member_name w.0.name.text m.0 t m.2) ∙ named in cc)
]

-- and stands under it
pub named_place : (sorted : List ItemScope) (k : ℕ) (t : InterfaceText) (x : Name) → slice_get (interface_texts sorted) k ≡ Some t → t.name ≡ Some x → t.place ≡ in_interface x
named_place sorted k t x at named =
    let i = named_text sorted k t x at named in
    let name : Some i.0.name.text ≡ Some x = sym (ap (λ (y : InterfaceText). y.name) i.2) ∙ named in
    ap (λ (y : InterfaceText). y.place) i.2 ∙ ap in_interface (same_Some i.0.name.text x name)

-- ---- a package

pub name_in : (d : Interface) (x : String Global) (n : Option Name) → option_map string_bytes d.name ≡ n → d.name ≡ Some x → n ≡ Some (string_bytes x)
name_in d x n e is = sym e ∙ ap (option_map string_bytes) is

module _ (files : List FileTree) (p : UnresolvedPackage) (r : Resolves files p) where
  abbrev s : IsResolved files p
  s = r.resolved

  abbrev me : PackageText
  me = package_text s.me

  abbrev owners : Owners
  owners = (context_of s.me files s.items s.sorted).owners

  pub asked_interfaces : length s.foreign_interfaces ≡ length (foreign_owners s.items).interfaces
  asked_interfaces = s.foreign_are.so_many_interfaces ∙ sym (interface_owners_length s.items)

  -- the interface of a text is whose the text says
  pub text_owned : (k : ℕ) (t : InterfaceText) → slice_get (interface_texts s.sorted) k ≡ Some t → slice_get owners.interfaces (length s.foreign_interfaces + k) ≡ Some (owner_in me t.place)
  text_owned k t at =
      let own : List Owner = map (λ (u : InterfaceText). owner_in me u.place) (interface_texts s.sorted) in
      let here : slice_get own k ≡ Some (owner_in me t.place) = slice_get-map (λ (u : InterfaceText). owner_in me u.place) (interface_texts s.sorted) k ∙ ap (option_map (λ (u : InterfaceText). owner_in me u.place)) at in
      ap (λ (m : ℕ). slice_get owners.interfaces (m + k)) asked_interfaces ∙ get_right (foreign_owners s.items).interfaces own k (owner_in me t.place) here

  asked_worlds : length s.foreign_worlds ≡ length (foreign_owners s.items).worlds
  asked_worlds = s.foreign_are.so_many_worlds ∙ sym (world_owners_length s.items)

  own_interface : (k : ℕ) (d : Interface) (x : String Global) → slice_get (own_parts p).interfaces k ≡ Some d → d.name ≡ Some x
      → slice_get owners.interfaces ((asked p).interfaces + k) ≡ Some (record { package_text = text_of p.name; place = in_interface (string_bytes x) })
  own_interface k d x at named =
      let n : ℕ = (asked p).interfaces + k in
      let behind : slice_get (s.foreign_interfaces ++ s.own_interfaces) n ≡ Some d = subst (λ (ds : List Interface). slice_get ds n ≡ Some d) s.interfaces_are (get_drop (asked p).interfaces p.interfaces k d at) in
      elim (get_either s.foreign_interfaces s.own_interfaces n d behind) as (λ _. slice_get owners.interfaces n ≡ Some (record { package_text = text_of p.name; place = in_interface (string_bytes x) })) [
        | inl other ↦ absurd (
            let within : n < length s.foreign_interfaces = slice_get_within s.foreign_interfaces n d other in
            let so_many : length s.foreign_interfaces ≡ interfaces_in s.items = s.foreign_are.so_many_interfaces in
            let most = counted files p r in
            omega (arith, within, so_many, most))
        | inr own ↦
            let within : own.0 < length s.own_interfaces = slice_get_within s.own_interfaces own.0 d own.2 in
            let size = s.own_interfaces_are.so_many in
            let t = got (interface_texts s.sorted) own.0 (omega (arith, within, size)) in
            let is = s.own_interfaces_are.each own.0 t.0 d t.1 own.2 in
            let place : t.0.place ≡ in_interface (string_bytes x) = named_place s.sorted own.0 t.0 (string_bytes x) t.1 (name_in d x t.0.name is.is.name named) in
            ap (slice_get owners.interfaces) own.1 ∙ text_owned own.0 t.0 t.1 ∙ rw (place, text_is s.me p.name s.name) refl
      ]

  own_world : (k : ℕ) (w : World) → slice_get (own_parts p).worlds k ≡ Some w → slice_get owners.worlds ((asked p).worlds + k) ≡ Some (record { package_text = text_of p.name; place = in_world (string_bytes w.name) })
  own_world k w at =
      let n : ℕ = (asked p).worlds + k in
      let behind : slice_get (s.foreign_worlds ++ s.own_worlds) n ≡ Some w = subst (λ (ws : List World). slice_get ws n ≡ Some w) s.worlds_are (get_drop (asked p).worlds p.worlds k w at) in
      elim (get_either s.foreign_worlds s.own_worlds n w behind) as (λ _. slice_get owners.worlds n ≡ Some (record { package_text = text_of p.name; place = in_world (string_bytes w.name) })) [
        | inl other ↦ absurd (
            let within : n < length s.foreign_worlds = slice_get_within s.foreign_worlds n w other in
            let so_many : length s.foreign_worlds ≡ worlds_in s.items = s.foreign_are.so_many_worlds in
            let most = worlds_are_counted files p r in
            omega (arith, within, so_many, most))
        | inr own ↦
            let within : own.0 < length s.own_worlds = slice_get_within s.own_worlds own.0 w own.2 in
            let size = s.own_worlds_are.so_many in
            let t = got (worlds_of s.sorted) own.0 (omega (arith, within, size)) in
            let is = s.own_worlds_are.each own.0 t.0 w t.1 own.2 in
            let here : slice_get (map (λ (v : WorldScope). owner_in me (in_world v.name.text)) (worlds_of s.sorted)) own.0 ≡ Some (owner_in me (in_world t.0.name.text)) =
            slice_get-map (λ (v : WorldScope). owner_in me (in_world v.name.text)) (worlds_of s.sorted) own.0 ∙ ap (option_map (λ (v : WorldScope). owner_in me (in_world v.name.text))) t.1 in
            ap (slice_get owners.worlds) (own.1 ∙ ap (λ (m : ℕ). m + own.0) asked_worlds)
            ∙ get_right (foreign_owners s.items).worlds (map (λ (v : WorldScope). owner_in me (in_world v.name.text)) (worlds_of s.sorted)) own.0 (owner_in me (in_world t.0.name.text)) here
            ∙ rw (sym is.name, text_is s.me p.name s.name) refl
      ]

  interfaces_owned : length owners.interfaces ≡ length p.interfaces
  interfaces_owned =
      let all = length-append (foreign_owners s.items).interfaces (map (λ (t : InterfaceText). owner_in me t.place) (interface_texts s.sorted)) in
      let own = length-map (interface_texts s.sorted) (λ (t : InterfaceText). owner_in me t.place) in
      let size = s.own_interfaces_are.so_many in
      let so_many = asked_interfaces in
      let parts = length-append s.foreign_interfaces s.own_interfaces in
      let is : length p.interfaces ≡ length (s.foreign_interfaces ++ s.own_interfaces) = ap length s.interfaces_are in
      omega (arith, all, own, size, so_many, parts, is)

  worlds_owned : length owners.worlds ≡ length p.worlds
  worlds_owned =
      let all = length-append (foreign_owners s.items).worlds (map (λ (v : WorldScope). owner_in me (in_world v.name.text)) (worlds_of s.sorted)) in
      let own = length-map (worlds_of s.sorted) (λ (v : WorldScope). owner_in me (in_world v.name.text)) in
      let size = s.own_worlds_are.so_many in
      let so_many = asked_worlds in
      let parts = length-append s.foreign_worlds s.own_worlds in
      let is : length p.worlds ≡ length (s.foreign_worlds ++ s.own_worlds) = ap length s.worlds_are in
      omega (arith, all, own, size, so_many, parts, is)

  no_worlds : (k : ℕ) (w : Owner) (x : Name) → slice_get owners.interfaces ((asked p).interfaces + k) ≡ Some w → w.place ≡ in_world x → ⊥
  no_worlds k w x at e =
      let own : List Owner = map (λ (t : InterfaceText). owner_in me t.place) (interface_texts s.sorted) in
      elim (get_either (foreign_owners s.items).interfaces own ((asked p).interfaces + k) w at) as (λ _. ⊥) [
        | inl other ↦
            let within : (asked p).interfaces + k < length (foreign_owners s.items).interfaces = slice_get_within (foreign_owners s.items).interfaces ((asked p).interfaces + k) w other in
            let so_many : length s.foreign_interfaces ≡ interfaces_in s.items = s.foreign_are.so_many_interfaces in
            let most = counted files p r in
            let all = asked_interfaces in
            absurd (omega (arith, within, so_many, most, all))
        | inr here ↦
            let t = map_has (λ (t : InterfaceText). owner_in me t.place) (interface_texts s.sorted) w (here.0, here.2) in
            no_world_place s.sorted t.1.0 t.0 x t.1.1 (ap (λ (o : Owner). o.place) (sym t.2) ∙ e)
      ]

pub resolved_owners : ResolvedPackagesHaveOwners
resolved_owners files p r = record {
  so_many_interfaces = interfaces_owned files p r;
  so_many_worlds = worlds_owned files p r;
  interfaces_are = own_interface files p r;
  worlds_are = own_world files p r;
  no_worlds = no_worlds files p r;
  asks = resolved_ask files p r;
}

-- ---- moved

pub moved_owners : MovedPackagesHaveOwners
moved_owners owners p n are = record {
  so_many_interfaces = are.so_many_interfaces ∙ sym (length-map p.interfaces (interface_by (span_at n)));
  so_many_worlds = are.so_many_worlds ∙ sym (length-map p.worlds (world_by (span_at n)));
  interfaces_are = λ k d x at named. (
      let o = got_behind (interface_by (span_at n)) (asked p).interfaces p.interfaces k d at in
      are.interfaces_are k o.0 x o.1 (ap (λ (e : Interface). e.name) o.2 ∙ named));
  worlds_are = λ k w at. (
      let o = got_behind (world_by (span_at n)) (asked p).worlds p.worlds k w at in
      subst (λ (x : World). slice_get owners.worlds ((asked p).worlds + k) ≡ Some (record { package_text = text_of p.name; place = in_world (string_bytes x.name) })) o.2 (are.worlds_are k o.0 o.1));
  no_worlds = are.no_worlds;
  asks = moved_ask owners p n are.asks;
}
