-- Whose the types of a resolved package are.
use Rattle.std.proofs.Common.{◌≡◌, ℕ, zero, suc, ◌+◌, ◌<◌, ◌≤◌, List, [], ◌∷◌, ◌⊎◌, inl, inr, Some, None, length, drop, map, refl, sym, subst, ap, ◌∙◌, arith}
use Rattle.std.proofs.lemmas.Option.{same_Some, slice_get-map, slice_get_within}
use Rattle.std.specs.Prelude.{slice_get, flat_map, option_map, String, string_bytes}
use Rattle.std.specs.declared.alloc.Global.{Global}
use Rattle.wit_types.specs.declared.kind.TypeDefKind.TheVariants as kind
use Rattle.wit_types.specs.declared.interface.Interface.{Interface}
use Rattle.wit_types.specs.declared.interface.TypeDef.{TypeDef}
use Rattle.wit_types.specs.declared.interface.TypeOwner.{TypeOwner}
use Rattle.wit_types.specs.declared.interface.TypeOwner.TheVariants as belongs
use Rattle.wit_types.specs.declared.world.World.{World}
use Rattle.wit_types.specs.declared.world.WorldItem.TheVariants as item
use Rattle.wit_types.specs.declared.«package».UnresolvedPackage.{UnresolvedPackage}
use Rattle.wit_syntax.specs.Ast.{FileTree}
use Rattle.wit_scopes.specs.Scopes.{WorldScope, package_scopes}
use Rattle.wit_arena.specs.Arena.{IsUnnamed}
use Rattle.wit_arena.specs.Shape.{ShapeTree, kind_shape}
use Rattle.wit_arena.specs.Table.{Entries}
use Rattle.wit_arena.specs.Tree.{Name, PackageText, in_interface, in_world, in_listed, Owner}
use Rattle.wit_arena.specs.Meaning.{Has, package_text}
use Rattle.wit_arena.specs.Unfold.{Owners, owner_of, IsWhole}
use Rattle.wit_arena.proofs.Lists.{has_map, map_has, has_none}
use Rattle.wit_arena.proofs.Unfolding.{option_map_some}
use Rattle.wit_well_formed.specs.Passed.wit_foreign-Items.{interfaces_in, worlds_in}
use Rattle.wit_well_formed.proofs.Passed.wit_foreign-Numbers.{interface_below}
use Rattle.wit_well_formed.specs.Passed.wit_interfaces-Interfaces.{IsInterfaceIn}
use Rattle.wit_well_formed.specs.Passed.wit_interfaces-Listed.{IsListedAt, HasType, ImportsType}
use Rattle.wit_well_formed.proofs.Passed.wit_interfaces-Behind.{get_either, get_right}
use Rattle.wit_well_formed.specs.Passed.wit_resolved_scopes-Each.{AreApartBy}
use Rattle.wit_well_formed.specs.Passed.wit_resolved_scopes-InArena.{Context}
use Rattle.wit_well_formed.specs.Passed.wit_resolved_scopes-Texts.{InterfaceText, interface_text, labelled_texts, interfaces_of, worlds_of, interface_texts}
use Rattle.wit_well_formed.proofs.Passed.wit_readiness-Flat.{in_flat}
use Rattle.wit_well_formed.proofs.Passed.wit_readiness-Labelled.{labelled_given}
use Rattle.wit_well_formed.specs.Passed.wit_worlds-Worlds.{Entry, IsWorldIn}
use Rattle.wit_named_graphs.specs.Passed.wit_item_names-Used.{IsOwnNamed}
use Rattle.wit_well_formed.specs.Passed.wit_graph_parts-Own.{asked, own_parts}
use Rattle.wit_well_formed.specs.Passed.wit_package-TopUses.{files_need}
use Rattle.wit_well_formed.specs.Passed.wit_package-Resolved.{foreign_owners, owner_in, owners_of, context_of, own_texts, IsResolved}
use Rattle.wit_well_formed.specs.Passed.wit_package-Steps.{Resolves}
use Rattle.wit_well_formed.proofs.Passed.wit_package-Owning.{interface_owners_length, world_owners_length}
use Rattle.wit_reach.proofs.Holding.{got}
use Rattle.wit_well_formed.proofs.Apart.{text_place, texts_apart}
use Rattle.wit_well_formed.proofs.Belonging.{counted, no_more}
use Rattle.wit_well_formed.proofs.Counted.{interface_item, world_item}
use Rattle.wit_well_formed.proofs.Lists.{get_drop}
use Rattle.wit_well_formed.proofs.NamesWithin.{world_type, nameless_are_forms}
use Rattle.wit_well_formed.proofs.Order.{no_world}
use Rattle.wit_well_formed.proofs.Whole.{ready, world_kept}
use Rattle.wit_named_packages.proofs.Outside.{given, owner_at}
use Rattle.wit_named_packages.proofs.Members.{type_known}
use Rattle.wit_named_packages.proofs.Scope.{IsUsedOf, IsArena}

-- what stands behind the first of a list
drop_get : {X : Type 0} (n : ℕ) (xs : List X) (k : ℕ) (x : X) → slice_get xs (n + k) ≡ Some x → slice_get (drop n xs) k ≡ Some x
drop_get {X} zero xs k x h = (let e : 0 + k ≡ k = omega arith in subst (λ (m : ℕ). slice_get xs m ≡ Some x) e h)
drop_get (suc n) [] k x h = absurd cc
drop_get {X} (suc n) (y ∷ xs) k x h = (let e : suc n + k ≡ suc (n + k) = omega arith in drop_get n xs k x (subst (λ (m : ℕ). slice_get (y ∷ xs) m ≡ Some x) e h))

-- a type that an interface has is in its table
pub interface_type : (c : Context) (a : List TypeDef) (t : InterfaceText) (id : ℕ) (d : Interface) (is : IsInterfaceIn c a t id d) (i : ℕ) → HasType d i → (x : Name) × Has is.table (x, i)
interface_type c a t id d is i (x, has) =
    (string_bytes x, subst (λ (es : Entries). Has es (string_bytes x, i)) is.is.types (has_map (λ (e : String Global × ℕ). (string_bytes e.0, e.1)) d.types.entries (x, i) has))

module _ (files : List FileTree) (p : UnresolvedPackage) (r : Resolves files p) where
  abbrev pub s : IsResolved files p
  s = r.resolved

  abbrev pub me : PackageText
  me = package_text s.me

  abbrev pub owners : Owners
  owners = owners_of me s.items s.sorted

  abbrev pub c : Context
  c = context_of s.me files s.items s.sorted

  abbrev pub first : ℕ
  first = length s.foreign_interfaces

  abbrev pub first_world : ℕ
  first_world = length s.foreign_worlds

  abbrev pub texts : List InterfaceText
  texts = interface_texts s.sorted

  -- as many as are asked of others stand first
  pub first_is : first ≡ (asked p).interfaces
  first_is =
      let few = no_more files p r in
      let many = counted files p r in
      let so_many : first ≡ interfaces_in s.items = s.foreign_are.so_many_interfaces in
      omega (arith, few, many, so_many)

  pub texts_differ : AreApartBy text_place texts
  texts_differ = texts_apart s.sorted (world_kept files p r) (ready files p r).interfaces.apart (ready files p r).worlds.apart

  -- ---- interfaces and worlds of its own

  pub record IsOwnInterface (j : ℕ) (d : Interface) : Type 0 where
    pub place : ℕ
    pub text : InterfaceText
    pub at_text : slice_get texts place ≡ Some text
    pub own_at : slice_get s.own_interfaces place ≡ Some d
    pub behind : j ≡ first + place
    pub is : IsInterfaceIn c p.types text (first + place) d

  pub interface_at : (j : ℕ) (d : Interface) → slice_get p.interfaces j ≡ Some d → (d.types.entries ≡ []) ⊎ IsOwnInterface j d
  interface_at j d at = elim (get_either s.foreign_interfaces s.own_interfaces j d (subst (λ (ds : List Interface). slice_get ds j ≡ Some d) s.interfaces_are at)) as (λ _. (d.types.entries ≡ []) ⊎ IsOwnInterface j d) [
    | inl other ↦
        let within : j < first = slice_get_within s.foreign_interfaces j d other in
        let so_many : first ≡ interfaces_in s.items = s.foreign_are.so_many_interfaces in
        let one = interface_item (files_need s.me files) s.items s.items_are j (omega (arith, within, so_many)) in
        inl (s.foreign_are.interfaces one.0 j d one.1 other).types
    | inr o ↦
        let within : o.0 < length s.own_interfaces = slice_get_within s.own_interfaces o.0 d o.2 in
        let size : length s.own_interfaces ≡ length texts = s.own_interfaces_are.so_many in
        let t = got texts o.0 (omega (arith, within, size)) in
        inr (record { place = o.0; text = t.0; at_text = t.1; own_at = o.2; behind = o.1; is = s.own_interfaces_are.each o.0 t.0 d t.1 o.2 })
  ]

  -- behind those that are asked for
  pub own_interface : (k : ℕ) (d : Interface) → slice_get (own_parts p).interfaces k ≡ Some d → (t : InterfaceText) × (slice_get texts k ≡ Some t) × IsInterfaceIn c p.types t (first + k) d
  own_interface k d at =
      let behind = get_drop (asked p).interfaces p.interfaces k d at in
      elim (get_either s.foreign_interfaces s.own_interfaces ((asked p).interfaces + k) d (subst (λ (ds : List Interface). slice_get ds ((asked p).interfaces + k) ≡ Some d) s.interfaces_are behind)) as (λ _. (t : InterfaceText) × (slice_get texts k ≡ Some t) × IsInterfaceIn c p.types t (first + k) d) [
        | inl other ↦ absurd (let within : (asked p).interfaces + k < first = slice_get_within s.foreign_interfaces ((asked p).interfaces + k) d other in omega (arith, within, first_is))
        | inr o ↦
            let e : (asked p).interfaces + k ≡ first + o.0 = o.1 in
            let one : o.0 ≡ k = omega (arith, e, first_is) in
            let here : slice_get s.own_interfaces k ≡ Some d = subst (λ (n : ℕ). slice_get s.own_interfaces n ≡ Some d) one o.2 in
            let within : k < length s.own_interfaces = slice_get_within s.own_interfaces k d here in
            let size : length s.own_interfaces ≡ length texts = s.own_interfaces_are.so_many in
            let t = got texts k (omega (arith, within, size)) in
            (t.0, t.1, s.own_interfaces_are.each k t.0 d t.1 here)
      ]

  pub record IsOwnWorld (v : ℕ) (d : World) : Type 0 where
    pub place : ℕ
    pub text : WorldScope
    pub at_text : slice_get (worlds_of s.sorted) place ≡ Some text
    pub behind : v ≡ first_world + place
    pub is : IsWorldIn c p.types text (first_world + place) d

  pub world_at : (v : ℕ) (d : World) → slice_get p.worlds v ≡ Some d → ((d.imports.entries ≡ []) × (d.exports.entries ≡ [])) ⊎ IsOwnWorld v d
  world_at v d at = elim (get_either s.foreign_worlds s.own_worlds v d (subst (λ (ds : List World). slice_get ds v ≡ Some d) s.worlds_are at)) as (λ _. ((d.imports.entries ≡ []) × (d.exports.entries ≡ [])) ⊎ IsOwnWorld v d) [
    | inl other ↦
        let within : v < first_world = slice_get_within s.foreign_worlds v d other in
        let so_many : first_world ≡ worlds_in s.items = s.foreign_are.so_many_worlds in
        let one = world_item (files_need s.me files) s.items s.items_are v (omega (arith, within, so_many)) in
        let is = s.foreign_are.worlds one.0 v d one.1 other in
        inl (is.imports, is.exports)
    | inr o ↦
        let within : o.0 < length s.own_worlds = slice_get_within s.own_worlds o.0 d o.2 in
        let size : length s.own_worlds ≡ length (worlds_of s.sorted) = s.own_worlds_are.so_many in
        let w = got (worlds_of s.sorted) o.0 (omega (arith, within, size)) in
        inr (record { place = o.0; text = w.0; at_text = w.1; behind = o.1; is = s.own_worlds_are.each o.0 w.0 d w.1 o.2 })
  ]

  -- ---- interfaces that may be used

  abbrev pub MayBeUsed : ℕ → Type 0
  MayBeUsed j = IsOwnNamed (asked p).interfaces (own_parts p).interfaces j

  text_name : (k : ℕ) (t : InterfaceText) (y : Name) → slice_get texts k ≡ Some t → t.place ≡ in_interface y → (x : Name) × (t.name ≡ Some x)
  text_name k t y at e = elim (get_either (map interface_text (interfaces_of s.sorted)) (flat_map labelled_texts (worlds_of s.sorted)) k t at) as (λ _. (x : Name) × (t.name ≡ Some x)) [
    | inl a ↦ (let i = map_has interface_text (interfaces_of s.sorted) t (k, a) in (i.0.name.text, ap (λ (u : InterfaceText). u.name) i.2))
    | inr b ↦
        let v = in_flat labelled_texts (worlds_of s.sorted) t (b.0, b.2) in
        let g = labelled_given v.0 t v.2 in
        let f : in_listed v.0.name.text g.listed.side g.listed.name.text ≡ in_interface y = sym (ap text_place g.is) ∙ e in
        absurd cc
  ]

  -- the package's own have names where they stand by themselves
  pub place_named : (k : ℕ) (t : InterfaceText) (y : Name) → slice_get texts k ≡ Some t → t.place ≡ in_interface y → MayBeUsed (first + k)
  place_named k t y at e =
      let within : k < length texts = slice_get_within texts k t at in
      let size : length s.own_interfaces ≡ length texts = s.own_interfaces_are.so_many in
      let d = got s.own_interfaces k (omega (arith, within, size)) in
      let is = s.own_interfaces_are.each k t d.0 at d.1 in
      let named = text_name k t y at e in
      let x = option_map_some (λ (z : String Global). string_bytes z) d.0.name named.0 (is.is.name ∙ named.1) in
      inr (k, d.0, x.0, ap (λ (n : ℕ). n + k) first_is, own_there k d.0 d.1, x.1)
    where
      own_there : (k : ℕ) (d : Interface) → slice_get s.own_interfaces k ≡ Some d → slice_get (own_parts p).interfaces k ≡ Some d
      own_there k d h =
          let all : slice_get p.interfaces (first + k) ≡ Some d = ap (λ (ds : List Interface). slice_get ds (first + k)) s.interfaces_are ∙ get_right s.foreign_interfaces s.own_interfaces k d h in
          drop_get (asked p).interfaces p.interfaces k d (subst (λ (n : ℕ). slice_get p.interfaces (n + k) ≡ Some d) first_is all)

  -- ---- whose a type is

  pub data IsPlaced (o : TypeOwner) (w : Owner) : Type 0 where
    in_interfaces : (k : ℕ) (t : InterfaceText) → slice_get texts k ≡ Some t → o ≡ belongs.Interface (first + k) → w ≡ owner_at me t.place → IsPlaced o w
    in_worlds : (k : ℕ) (v : WorldScope) → slice_get (worlds_of s.sorted) k ≡ Some v → o ≡ belongs.World (first_world + k) → w ≡ owner_at me (in_world v.name.text) → IsPlaced o w

  interface_owner : (k : ℕ) (t : InterfaceText) → slice_get texts k ≡ Some t → slice_get owners.interfaces (first + k) ≡ Some (owner_at me t.place)
  interface_owner k t at =
      let so_many : first ≡ length (foreign_owners s.items).interfaces = s.foreign_are.so_many_interfaces ∙ sym (interface_owners_length s.items) in
      let here : slice_get (map (λ (t : InterfaceText). owner_in me t.place) texts) k ≡ Some (owner_at me t.place) = slice_get-map (λ (t : InterfaceText). owner_in me t.place) texts k ∙ ap (option_map (λ (t : InterfaceText). owner_in me t.place)) at in
      subst (λ (n : ℕ). slice_get owners.interfaces (n + k) ≡ Some (owner_at me t.place)) (sym so_many) (get_right (foreign_owners s.items).interfaces (map (λ (t : InterfaceText). owner_in me t.place) texts) k (owner_at me t.place) here)

  world_owner : (k : ℕ) (v : WorldScope) → slice_get (worlds_of s.sorted) k ≡ Some v → slice_get owners.worlds (first_world + k) ≡ Some (owner_at me (in_world v.name.text))
  world_owner k v at =
      let so_many : first_world ≡ length (foreign_owners s.items).worlds = s.foreign_are.so_many_worlds ∙ sym (world_owners_length s.items) in
      let here : slice_get (map (λ (v : WorldScope). owner_in me (in_world v.name.text)) (worlds_of s.sorted)) k ≡ Some (owner_at me (in_world v.name.text)) =
      slice_get-map (λ (v : WorldScope). owner_in me (in_world v.name.text)) (worlds_of s.sorted) k ∙ ap (option_map (λ (v : WorldScope). owner_in me (in_world v.name.text))) at in
      subst (λ (n : ℕ). slice_get owners.worlds (n + k) ≡ Some (owner_at me (in_world v.name.text))) (sym so_many) (get_right (foreign_owners s.items).worlds (map (λ (v : WorldScope). owner_in me (in_world v.name.text)) (worlds_of s.sorted)) k (owner_at me (in_world v.name.text)) here)

  -- an own type is a form, or one of the table of its scope
  pub data IsOwnType (i : ℕ) (d : TypeDef) : Type 0 where
    a_form : (k : ShapeTree) → IsUnnamed k d → IsOwnType i d
    of_interface : (j : ℕ) (f : Interface) (o : IsOwnInterface j f) → d.owner ≡ belongs.Interface j → (x : Name) → Has o.is.table (x, i) → IsOwnType i d
    of_world : (v : ℕ) (f : World) (o : IsOwnWorld v f) → d.owner ≡ belongs.World v → (x : Name) → Has o.is.table (x, i) → IsOwnType i d

  own_listed : (i : ℕ) (d : TypeDef) (o : TypeOwner) → d.owner ≡ o → IsListedAt c (own_texts s.sorted) p.types p.interfaces p.worlds i d o → IsOwnType i d
  own_listed i d belongs.None e (o, ms, scope, form) = a_form form.shape form.unnamed
  own_listed i d (belongs.Interface j) e (f, at, has) = elim (interface_at j f at) as (λ _. IsOwnType i d) [
    | inl none ↦ absurd (has_none (has.0, i) (subst (λ (es : List (String Global × ℕ)). Has es (has.0, i)) none has.1))
    | inr o ↦ (let h = interface_type c p.types o.text (first + o.place) f o.is i has in of_interface j f o e h.0 h.1)
  ]
  own_listed i d (belongs.World v) e (f, at, has) = elim (world_at v f at) as (λ _. IsOwnType i d) [
    | inl none ↦ absurd (has_none (has.0, item.TypeItem i has.1) (subst (λ (es : List Entry). Has es (has.0, item.TypeItem i has.1)) none.0 has.2))
    | inr o ↦ (let h = world_type c p.types o.text (first_world + o.place) f o.is i has in of_world v f o e h.0 h.1)
  ]

  -- one of those of which nothing is known is of an interface of another package
  unknown_used : (i : ℕ) (d : TypeDef) → slice_get s.unknown i ≡ Some d → (d.kind ≡ kind.Unknown) × IsUsedOf MayBeUsed d
  unknown_used i d other =
      let within : i < length s.unknown = slice_get_within s.unknown i d other in
      let so_many = s.unknown_are.so_many_types in
      let e = got s.names i (omega (arith, within, so_many)) in
      let known = s.unknown_are.each i e.0 e.1 in
      let one : known.def ≡ d = same_Some known.def d (sym known.type_at ∙ other) in
      let below : known.interface < interfaces_in s.items = interface_below (files_need s.me files) s.items s.items_are e.0.0.0 known.interface known.item in
      let so_few : interfaces_in s.items ≤ (asked p).interfaces = counted files p r in
      (ap (λ (y : TypeDef). y.kind) (sym one) ∙ known.is.kind, record { interface = known.interface; of = ap (λ (y : TypeDef). y.owner) (sym one) ∙ known.is.owner; named = inl (omega (arith, below, so_few)) })

  -- another is its own
  either_type : (i : ℕ) (d : TypeDef) → slice_get p.types i ≡ Some d → ((d.kind ≡ kind.Unknown) × IsUsedOf MayBeUsed d) ⊎ IsOwnType i d
  either_type i d at = elim (s.listed i d at) as (λ _. ((d.kind ≡ kind.Unknown) × IsUsedOf MayBeUsed d) ⊎ IsOwnType i d) [ inl other ↦ inl (unknown_used i d other) | inr is ↦ inr (own_listed i d d.owner refl is) ]

  -- a type of a world is imported there
  pub listed_type : (i : ℕ) (d : TypeDef) (v : ℕ) → slice_get p.types i ≡ Some d → d.owner ≡ belongs.World v → (f : World) × (slice_get p.worlds v ≡ Some f) × ImportsType f i
  listed_type i d v at of = elim (s.listed i d at) as (λ _. (f : World) × (slice_get p.worlds v ≡ Some f) × ImportsType f i) [
    | inl other ↦ absurd (let u = unknown_used i d other in let no : belongs.World v ≡ belongs.Interface u.1.interface = sym of ∙ u.1.of in cc)
    | inr is ↦ subst (IsListedAt c (own_texts s.sorted) p.types p.interfaces p.worlds i d) of is
  ]

  whole_given : IsWhole owners (given me) p.types
  whole_given = s.whole (given me)

  own_known : (i : ℕ) (d : TypeDef) → slice_get p.types i ≡ Some d → IsOwnType i d → d.kind ≡ kind.Unknown → ⊥
  own_known i d at (a_form k is) e = (let no : None ≡ Some k = sym (ap kind_shape e) ∙ is.kind in cc)
  own_known i d at (of_interface j f o its x has) e =
      type_known c o.text.place (belongs.Interface (first + o.place)) p.types o.is.scope.sorted o.is.table o.is.scope.types_are whole_given x i has d at e
  own_known i d at (of_world v f o its x has) e = type_known c (in_world o.text.name.text) (belongs.World (first_world + o.place)) p.types o.is.sorted o.is.table o.is.types_are whole_given x i has d at e

  own_placed : (i : ℕ) (d : TypeDef) (w : Owner) → IsOwnType i d → owner_of owners d.owner ≡ Some w → IsPlaced d.owner w
  own_placed i d w (a_form k is) of = absurd (let no : None ≡ Some w = sym (ap (owner_of owners) is.owner) ∙ of in cc)
  own_placed i d w (of_interface j f o its x has) of =
      let here : d.owner ≡ belongs.Interface (first + o.place) = its ∙ ap belongs.Interface o.behind in
      in_interfaces o.place o.text o.at_text here (same_Some w (owner_at me o.text.place) (sym of ∙ ap (owner_of owners) here ∙ interface_owner o.place o.text o.at_text))
  own_placed i d w (of_world v f o its x has) of =
      let here : d.owner ≡ belongs.World (first_world + o.place) = its ∙ ap belongs.World o.behind in
      in_worlds o.place o.text o.at_text here (same_Some w (owner_at me (in_world o.text.name.text)) (sym of ∙ ap (owner_of owners) here ∙ world_owner o.place o.text o.at_text))

  pub placed_at : (i : ℕ) (d : TypeDef) (w : Owner) → slice_get p.types i ≡ Some d → (d.kind ≡ kind.Unknown → ⊥) → owner_of owners d.owner ≡ Some w → IsPlaced d.owner w
  placed_at i d w at not of = elim (either_type i d at) as (λ _. IsPlaced d.owner w) [ inl other ↦ absurd (not other.0) | inr own ↦ own_placed i d w own of ]

  placed_mine : (o : TypeOwner) (w : Owner) → IsPlaced o w → w.package_text ≡ me
  placed_mine o w (in_interfaces k t at is same) = ap (λ (v : Owner). v.package_text) same
  placed_mine o w (in_worlds k v at is same) = ap (λ (v : Owner). v.package_text) same

  placed_used : (d : TypeDef) (y : Name) (w : Owner) → w ≡ owner_at me (in_interface y) → IsPlaced d.owner w → IsUsedOf MayBeUsed d
  placed_used d y w e (in_interfaces k t at is same) = record { interface = first + k; of = is; named = place_named k t y at (ap (λ (v : Owner). v.place) (sym same ∙ e)) }
  placed_used d y w e (in_worlds k v at is same) = absurd (let no : in_world v.name.text ≡ in_interface y = ap (λ (v : Owner). v.place) (sym same ∙ e) in cc)

  -- what belongs to the owner of an interface belongs to the interface
  pub one_interface : (o : TypeOwner) (w : Owner) (m : ℕ) (t : InterfaceText) → slice_get texts m ≡ Some t → w ≡ owner_at me t.place → IsPlaced o w → o ≡ belongs.Interface (first + m)
  one_interface o w m t at e (in_interfaces k u at_u is same) = is ∙ ap (λ (n : ℕ). belongs.Interface (first + n)) (texts_differ k m u t at_u at (ap (λ (v : Owner). v.place) (sym same ∙ e)))
  one_interface o w m t at e (in_worlds k v at_v is same) = absurd (no_world (package_scopes s.me files) s.sorted s.are_sorted m t at v.name.text (ap (λ (v : Owner). v.place) (sym e ∙ same)))

  -- and so it is of a world
  pub one_world : (o : TypeOwner) (w : Owner) (m : ℕ) (v : WorldScope) → slice_get (worlds_of s.sorted) m ≡ Some v → w ≡ owner_at me (in_world v.name.text) → IsPlaced o w → o ≡ belongs.World (first_world + m)
  one_world o w m v at e (in_interfaces k u at_u is same) = absurd (no_world (package_scopes s.me files) s.sorted s.are_sorted k u at_u v.name.text (ap (λ (v : Owner). v.place) (sym same ∙ e)))
  one_world o w m v at e (in_worlds k u at_u is same) =
      let places : in_world u.name.text ≡ in_world v.name.text = ap (λ (v : Owner). v.place) (sym same ∙ e) in
      let names : u.name.text ≡ v.name.text = cc in
      is ∙ ap (λ (n : ℕ). belongs.World (first_world + n)) ((ready files p r).worlds.apart k m u v at_u at names)

  pub its_arena : IsArena me owners MayBeUsed p.types
  its_arena = record {
    whole = whole_given;
    forms = nameless_are_forms files p r;
    unknown = λ i d at e. (elim (either_type i d at) as (λ _. IsUsedOf MayBeUsed d) [ inl other ↦ other.1 | inr own ↦ absurd (own_known i d at own e) ]);
    mine = λ i d w at not of. placed_mine d.owner w (placed_at i d w at not of);
    used = λ i d y at not of. placed_used d y (owner_at me (in_interface y)) refl (placed_at i d (owner_at me (in_interface y)) at not of);
  }
