-- Names within each type and each function of a resolved package differ.
use Rattle.std.proofs.Common.{◌≡◌, ℕ, ◌+◌, ◌<◌, List, [], ◌∷◌, inl, inr, length, Some, None, String, map, refl, sym, subst, ap, ◌∙◌, arith}
use Rattle.std.proofs.lemmas.Option.{same_Some, slice_get-map, slice_get_within}
use Rattle.std.specs.Prelude.{slice_get, flat_map, option_map, string_bytes}
use Rattle.std.specs.declared.alloc.Global.{Global}
use Rattle.wit_words.specs.declared.source_map.Span.{Span}
use Rattle.wit_types.specs.declared.function.Function.{Function}
use Rattle.wit_types.specs.declared.kind.TypeDefKind.{TypeDefKind}
use Rattle.wit_types.specs.declared.kind.TypeDefKind.TheVariants as kinds
use Rattle.wit_types.specs.declared.interface.Interface.{Interface}
use Rattle.wit_types.specs.declared.interface.TypeDef.{TypeDef}
use Rattle.wit_types.specs.declared.interface.TypeOwner.{TypeOwner}
use Rattle.wit_types.specs.declared.interface.TypeOwner.TheVariants as belongs
use Rattle.wit_types.specs.declared.world.World.{World}
use Rattle.wit_types.specs.declared.world.WorldItem.{WorldItem}
use Rattle.wit_types.specs.declared.world.WorldItem.TheVariants as item
use Rattle.wit_types.specs.declared.world_key.WorldKey.{WorldKey}
use Rattle.wit_types.specs.declared.«package».UnresolvedPackage.{UnresolvedPackage}
use Rattle.wit_package.specs.Passed.wit_syntax-Ast.{FileTree}
use Rattle.wit_package.specs.Passed.wit_scopes-declared-worlds-Side.{Side}
use Rattle.wit_package.specs.Passed.wit_scopes-declared-worlds-Side-TheVariants.{Import, Export}
use Rattle.wit_package.specs.Passed.wit_scopes-Members.{MemberTree}
use Rattle.wit_package.specs.Passed.wit_scopes-Scopes as scope
use Rattle.wit_package.specs.Passed.wit_scopes-Scopes.{ExternKind, ListedTree, WorldMemberTree, WorldScope, ItemScope, package_scopes}
use Rattle.wit_package.specs.Passed.wit_rules-Breaks.{IsKept, NamesBreak}
use Rattle.wit_package.specs.Passed.wit_rules-Facts as fact
use Rattle.wit_package.specs.Passed.wit_rules-Facts.{MembersBreak, ScopesBreak, WorldBreaks}
use Rattle.wit_package.specs.Passed.wit_rules-Labels.{names_within}
use Rattle.wit_package.specs.Passed.wit_arena-Tree.{Name, Place, in_world}
use Rattle.wit_package.specs.Passed.wit_arena-Table.{Entries}
use Rattle.wit_package.specs.Passed.wit_arena-Meaning.{Has}
use Rattle.wit_package.specs.Passed.wit_arena-Shape.{ShapeTree}
use Rattle.wit_package.specs.Passed.wit_arena-Arena.{IsUnnamed}
use Rattle.wit_package.specs.Passed.wit_arena-Standing.{Stands}
use Rattle.wit_package.proofs.Passed.wit_arena-Lists.{has_none, has_map}
use Rattle.wit_package.specs.Passed.wit_foreign-Items.{interfaces_in, worlds_in}
use Rattle.wit_package.specs.Passed.wit_interfaces-Interfaces.{IsInterfaceIn}
use Rattle.wit_package.specs.Passed.wit_interfaces-Listed.{IsListedAt, HasType, ImportsType}
use Rattle.wit_package.proofs.Passed.wit_interfaces-Behind.{get_either}
use Rattle.wit_package.specs.Passed.wit_resolved_scopes-Each as pairs
use Rattle.wit_package.specs.Passed.wit_resolved_scopes-InArena.{Context, IsTypeIn, IsFunctionIn}
use Rattle.wit_package.specs.Passed.wit_resolved_scopes-Scope.{member_function, functions_among}
use Rattle.wit_package.specs.Passed.wit_resolved_scopes-Texts.{InterfaceText, interface_texts, worlds_of, side_member, side_members}
use Rattle.wit_package.proofs.Passed.wit_resolved_scopes-Eaches.{each_right}
use Rattle.wit_package.proofs.Passed.wit_readiness-Flat.{in_flat}
use Rattle.wit_package.proofs.Passed.wit_readiness-Named.{function_given}
use Rattle.wit_package.proofs.Passed.wit_readiness-Parts.{world_keeps, world_member_keeps}
use Rattle.wit_package.specs.Passed.wit_worlds-Worlds.{Entry, IsTypeEntry, IsExternEntry, IsEntryOf, IsWorldIn}
use Rattle.wit_labels.specs.Labels.{HasLabelsApart, HasParametersApart, HaveParametersApart, functions_in, IsInterfaceApart, IsItemApart, IsSideApart, IsWorldApart}
use Rattle.wit_labels.proofs.Every.{each_join, each_of}
use Rattle.wit_package.specs.TopUses.{files_need}
use Rattle.wit_package.specs.Resolved.{IsResolved, owners_of, context_of, own_texts}
use Rattle.wit_package.specs.Steps.{Resolves}
use Rattle.wit_package.proofs.Scoping.{world_there}
use Rattle.wit_reach.proofs.Holding.{got}
use Rattle.wit_well_formed.specs.Within.{NamesWithinAreApart, NamelessTypesAreForms}
use Rattle.wit_well_formed.proofs.Nameless.{by_name}
use Rattle.wit_well_formed.proofs.Lists.{got_mapped}
use Rattle.wit_well_formed.proofs.Counted.{interface_item, world_item}
use Rattle.wit_well_formed.proofs.Names.{scopes_keep, text_keeps}
use Rattle.wit_well_formed.proofs.Labels.{member_keeps, standing_apart, form_apart}
use Rattle.wit_well_formed.proofs.Parameters.{function_apart, side_given, entry_apart}

-- ---- entries of worlds

type_entries_apart : (a : List TypeDef) (table : Entries) (es : List Entry) → pairs.Each (IsTypeEntry a) table es → IsSideApart es
type_entries_apart a [] [] h = tt
type_entries_apart a [] (e ∷ es) h = absurd h
type_entries_apart a (t ∷ ts) [] h = absurd h
type_entries_apart a (t ∷ ts) (e ∷ es) h = (subst IsItemApart (sym h.0.item) tt, type_entries_apart a ts es h.1)

module _ (c : Context) (w : WorldScope) (kept : IsKept (WorldBreaks w.members)) (a : List TypeDef) (table : Entries) where
  side_apart : (side : Side) (es : List Entry) → pairs.Each (IsEntryOf c w.name.text a table) (side_members side w.members) es → IsSideApart es
  side_apart side es are =
      each_of (λ (e : Entry). IsItemApart e.1) es
      (λ k e at.
      (let x = each_right (IsEntryOf c w.name.text a table) (side_members side w.members) es are k e at in
      let m = in_flat (side_member side) w.members x.0 (k, x.1) in
      let same : x.0 ≡ m.0 = side_given side m.0 x.0 m.2 in
      entry_apart c w.name.text a table x.0 e (subst (λ (z : WorldMemberTree). IsKept (fact.WorldMemberBreaks z)) (sym same) (world_member_keeps w.members kept m.0 m.1)) x.2))

world_apart : (c : Context) (w : WorldScope) → IsKept (WorldBreaks w.members) → (a : List TypeDef) (id : ℕ) (d : World) → IsWorldIn c a w id d → IsWorldApart d
world_apart c w kept a id d is = record {
  imports =
      subst IsSideApart (sym is.imports_are)
      (each_join (λ (e : Entry). IsItemApart e.1) is.type_entries is.other_imports (type_entries_apart a is.table is.type_entries is.type_entries_are)
      (side_apart c w kept a is.table Import is.other_imports is.lists_are.imports_are));
  exports = side_apart c w kept a is.table Export d.exports.entries is.lists_are.exports_are;
}

-- ---- types of worlds

-- what stands on a side besides is no type
module _ (c : Context) (w : Name) (a : List TypeDef) (table : Entries) (k : WorldKey) (i : ℕ) (s : Span) where
  extern_type : (l : ListedTree) (e : ExternKind) → IsExternEntry c w a table l e (k, item.TypeItem i s) → ⊥
  extern_type l (scope.ExternKind.function f) h = (let e : item.TypeItem i s ≡ item.Function h.made = h.item in cc)
  extern_type l (scope.ExternKind.interface ms) h = (let e : item.TypeItem i s ≡ item.Interface h.id h.stability l.name.span = h.item in cc)
  extern_type l (scope.item t) h = (let e : item.TypeItem i s ≡ item.Interface h.id h.stability l.name.span = h.item in cc)

  pub entry_type : (x : WorldMemberTree) → IsEntryOf c w a table x (k, item.TypeItem i s) → ⊥
  entry_type (scope.member m) h = (let e : item.TypeItem i s ≡ item.Function h.made = h.item in cc)
  entry_type (scope.listed l) h = extern_type l l.kind h
  entry_type (scope.included n) h = h

-- a type that a world imports is in its table
pub world_type : (c : Context) (a : List TypeDef) (w : WorldScope) (id : ℕ) (d : World) (is : IsWorldIn c a w id d) (i : ℕ) → ImportsType d i → (x : Name) × Has is.table (x, i)
world_type c a w id d is i (k, s, (n, at)) =
    elim (get_either is.type_entries is.other_imports n (k, item.TypeItem i s) (subst (λ (es : List Entry). slice_get es n ≡ Some (k, item.TypeItem i s)) is.imports_are at)) as (λ _. (x : Name) × Has is.table (x, i)) [
      | inl here ↦
          let t = each_right (IsTypeEntry a) is.table is.type_entries is.type_entries_are n (k, item.TypeItem i s) here in
          let e : item.TypeItem i s ≡ item.TypeItem t.0.1 t.2.def.span = t.2.item in
          let same : t.0.1 ≡ i = cc in
          (t.0.0, subst (λ (j : ℕ). Has is.table (t.0.0, j)) same (n, t.1))
      | inr o ↦
          let x = each_right (IsEntryOf c w.name.text a is.table) (side_members Import w.members) is.other_imports is.lists_are.imports_are o.0 (k, item.TypeItem i s) o.2 in
          absurd (entry_type c w.name.text a is.table k i s x.0 x.2)
    ]

-- ---- types of a scope

-- what holds of each type that stands for what its name means
module _ (c : Context) (a : List TypeDef) (P : TypeDef → Type 0) (named : (o : Place) (x : Name) (i : ℕ) (d : TypeDef) → slice_get a i ≡ Some d → option_map string_bytes d.name ≡ Some x → Stands c.me c.scopes by_name c.owners a o x i → P d) where
  table_each : (o : Place) (whose : TypeOwner) (sorted : List MemberTree) (table : Entries) → pairs.Each (IsTypeIn c o whose a) sorted table → (x : Name) (i : ℕ) → Has table (x, i) → (d : TypeDef) → slice_get a i ≡ Some d → P d
  table_each o whose sorted table are x i (k, at) d at_d =
      let m = each_right (IsTypeIn c o whose a) sorted table are k (x, i) at in
      let is = m.2 in
      let same : is.def ≡ d = same_Some is.def d (sym is.there ∙ at_d) in
      subst P same (named o m.0.name.text i is.def is.there is.is.name (is.means by_name))

  interface_type : (t : InterfaceText) (id : ℕ) (f : Interface) → IsInterfaceIn c a t id f → (i : ℕ) → HasType f i → (d : TypeDef) → slice_get a i ≡ Some d → P d
  interface_type t id f is i (x, has) =
      table_each t.place (belongs.Interface id) is.scope.sorted is.table is.scope.types_are (string_bytes x) i
      (subst (λ (es : Entries). Has es (string_bytes x, i)) is.is.types (has_map (λ (e : String Global × ℕ). (string_bytes e.0, e.1)) f.types.entries (x, i) has))

  imported_type : (w : WorldScope) (id : ℕ) (v : World) → IsWorldIn c a w id v → (i : ℕ) → ImportsType v i → (d : TypeDef) → slice_get a i ≡ Some d → P d
  imported_type w id v is i imports =
      let h = world_type c a w id v is i imports in
      table_each (in_world w.name.text) (belongs.World id) is.sorted is.table is.types_are h.0 i h.1

-- ---- functions of an interface

interface_apart : (c : Context) (a : List TypeDef) (t : InterfaceText) (id : ℕ) (d : Interface) → IsKept (MembersBreak t.members) → IsInterfaceIn c a t id d → IsInterfaceApart d
interface_apart c a t id d kept is =
    each_of HasParametersApart (functions_in d.functions.entries)
    (λ k f at.
    (let m = each_right (IsFunctionIn c t.place a is.table) (functions_among t.members) is.functions is.scope.functions_are k f (subst (λ (fs : List Function). slice_get fs k ≡ Some f) is.is.functions at) in
    let n = in_flat member_function t.members m.0 (k, m.1) in
    let same : m.0 ≡ n.0 = (function_given n.0.kind n.0 m.0 n.2).1 in
    function_apart is.table m.0 f
    (subst (λ (z : MemberTree). IsKept (NamesBreak (names_within z.kind z.name))) (sym same) (λ rule at b. member_keeps t.members kept n.0 n.1 rule at (fact.MemberBreaks.by_names b))) m.2.is))

-- ---- all of a package

module _ (files : List FileTree) (p : UnresolvedPackage) (r : Resolves files p) where
  abbrev s : IsResolved files p
  s = r.resolved

  abbrev c : Context
  c = context_of s.me files s.items s.sorted

  kept : IsKept (ScopesBreak (package_scopes s.me files))
  kept = scopes_keep files p r

  -- an interface of another package is empty, others are the package's own
  pub of_interfaces : (P : Interface → Type 0) → ((d : Interface) → d.types.entries ≡ [] → d.functions.entries ≡ [] → P d)
      → ((k : ℕ) (t : InterfaceText) (d : Interface) → slice_get (interface_texts s.sorted) k ≡ Some t → IsInterfaceIn c p.types t (length s.foreign_interfaces + k) d → P d) → (n : ℕ) (d : Interface) → slice_get p.interfaces n ≡ Some d → P d
  of_interfaces P empty own n d at = elim (get_either s.foreign_interfaces s.own_interfaces n d (subst (λ (ds : List Interface). slice_get ds n ≡ Some d) s.interfaces_are at)) as (λ _. P d) [
    | inl other ↦
        let within : n < length s.foreign_interfaces = slice_get_within s.foreign_interfaces n d other in
        let so_many : length s.foreign_interfaces ≡ interfaces_in s.items = s.foreign_are.so_many_interfaces in
        let one = interface_item (files_need s.me files) s.items s.items_are n (omega (arith, within, so_many)) in
        let is = s.foreign_are.interfaces one.0 n d one.1 other in
        empty d is.types is.functions
    | inr o ↦
        let within : o.0 < length s.own_interfaces = slice_get_within s.own_interfaces o.0 d o.2 in
        let size = s.own_interfaces_are.so_many in
        let t = got (interface_texts s.sorted) o.0 (omega (arith, within, size)) in
        own o.0 t.0 d t.1 (s.own_interfaces_are.each o.0 t.0 d t.1 o.2)
  ]

  -- so are worlds
  pub of_worlds_at : (P : ℕ → World → Type 0) → ((n : ℕ) (d : World) → d.imports.entries ≡ [] → d.exports.entries ≡ [] → d.includes.items ≡ [] → P n d)
      → ((k : ℕ) (w : WorldScope) (d : World) → slice_get (worlds_of s.sorted) k ≡ Some w → IsWorldIn c p.types w (length s.foreign_worlds + k) d → P (length s.foreign_worlds + k) d)
      → (n : ℕ) (d : World) → slice_get p.worlds n ≡ Some d → P n d
  of_worlds_at P empty own n d at = elim (get_either s.foreign_worlds s.own_worlds n d (subst (λ (ds : List World). slice_get ds n ≡ Some d) s.worlds_are at)) as (λ _. P n d) [
    | inl other ↦
        let within : n < length s.foreign_worlds = slice_get_within s.foreign_worlds n d other in
        let so_many : length s.foreign_worlds ≡ worlds_in s.items = s.foreign_are.so_many_worlds in
        let one = world_item (files_need s.me files) s.items s.items_are n (omega (arith, within, so_many)) in
        let is = s.foreign_are.worlds one.0 n d one.1 other in
        empty n d is.imports is.exports is.includes
    | inr o ↦
        let within : o.0 < length s.own_worlds = slice_get_within s.own_worlds o.0 d o.2 in
        let size : length s.own_worlds ≡ length (worlds_of s.sorted) = s.own_worlds_are.so_many in
        let w = got (worlds_of s.sorted) o.0 (omega (arith, within, size)) in
        subst (λ (m : ℕ). P m d) (sym o.1) (own o.0 w.0 d w.1 (s.own_worlds_are.each o.0 w.0 d w.1 o.2))
  ]

  pub of_worlds : (P : World → Type 0) → ((d : World) → d.imports.entries ≡ [] → d.exports.entries ≡ [] → d.includes.items ≡ [] → P d)
      → ((k : ℕ) (w : WorldScope) (d : World) → slice_get (worlds_of s.sorted) k ≡ Some w → IsWorldIn c p.types w (length s.foreign_worlds + k) d → P d) → (n : ℕ) (d : World) → slice_get p.worlds n ≡ Some d → P d
  of_worlds P empty own = of_worlds_at (λ _ d. P d) (λ n d imports exports includes. empty d imports exports includes) own

  world_kept : (k : ℕ) (w : WorldScope) → slice_get (worlds_of s.sorted) k ≡ Some w → IsKept (WorldBreaks w.members)
  world_kept k w at = world_keeps (package_scopes s.me files) kept w (world_there (package_scopes s.me files) s.sorted s.are_sorted w (k, at))

  -- ---- types

  -- what holds of each type of which nothing is known but its name, of each form, and of each that stands for what its name means
  module _ (P : TypeDef → Type 0) (unknown : (x : Name) (d : TypeDef) → option_map string_bytes d.name ≡ Some x → d.kind ≡ kinds.Unknown → P d) (form : (k : ShapeTree) (d : TypeDef) → IsUnnamed k d → P d)
      (named : (o : Place) (x : Name) (i : ℕ) (d : TypeDef) → slice_get p.types i ≡ Some d → option_map string_bytes d.name ≡ Some x → Stands c.me c.scopes by_name c.owners p.types o x i → P d)
    where
      each_listed : (i : ℕ) (d : TypeDef) (o : TypeOwner) → slice_get p.types i ≡ Some d → IsListedAt c (own_texts s.sorted) p.types p.interfaces p.worlds i d o → P d
      each_listed i d belongs.None at (o, ms, scope, is) = form is.shape d is.unnamed
      each_listed i d (belongs.Interface j) at (f, at_f, has) =
          of_interfaces (λ (f : Interface). HasType f i → P d) (λ f none _ h. absurd (has_none (h.0, i) (subst (λ (es : List (String Global × ℕ)). Has es (h.0, i)) none h.1)))
          (λ k t f at_t is h. interface_type c p.types P named t (length s.foreign_interfaces + k) f is i h d at) j f at_f has
      each_listed i d (belongs.World j) at (v, at_v, has) =
          of_worlds (λ (v : World). ImportsType v i → P d) (λ v none _ _ h. absurd (has_none (h.0, item.TypeItem i h.1) (subst (λ (es : List Entry). Has es (h.0, item.TypeItem i h.1)) none h.2)))
          (λ k w v at_w is h. imported_type c p.types P named w (length s.foreign_worlds + k) v is i h d at) j v at_v has

      each_unknown : (i : ℕ) (d : TypeDef) → slice_get s.unknown i ≡ Some d → P d
      each_unknown i d at =
          let within : i < length s.unknown = slice_get_within s.unknown i d at in
          let so_many = s.unknown_are.so_many_types in
          let e = got s.names i (omega (arith, within, so_many)) in
          let known = s.unknown_are.each i e.0 e.1 in
          let one : known.def ≡ d = same_Some known.def d (sym known.type_at ∙ at) in
          subst P one (unknown known.name.text known.def known.is.name known.is.kind)

      each_type : (i : ℕ) (d : TypeDef) → slice_get p.types i ≡ Some d → P d
      each_type i d at = elim (s.listed i d at) as (λ _. P d) [ inl other ↦ each_unknown i d other | inr is ↦ each_listed i d d.owner at is ]

  type_apart : (i : ℕ) (d : TypeDef) → slice_get p.types i ≡ Some d → HasLabelsApart d.kind
  type_apart =
      each_type (λ (d : TypeDef). HasLabelsApart d.kind) (λ x d name none. subst HasLabelsApart (sym none) refl) (λ k d is. form_apart d.kind k is.kind)
      (λ o x i d at name stands. standing_apart c.me c.scopes c.owners p.types o x i d kept (s.whole by_name) at name stands)

  nameless_form : (i : ℕ) (d : TypeDef) → slice_get p.types i ≡ Some d → d.name ≡ None → (k : ShapeTree) × IsUnnamed k d
  nameless_form =
      each_type (λ (d : TypeDef). d.name ≡ None → (k : ShapeTree) × IsUnnamed k d) (λ x d name _ none. absurd (let e : None ≡ Some x = sym (ap (option_map string_bytes) none) ∙ name in cc)) (λ k d is none. (k, is))
      (λ o x i d at name stands none. absurd (let e : None ≡ Some x = sym (ap (option_map string_bytes) none) ∙ name in cc))

  -- ---- functions

  each_interface : (n : ℕ) (d : Interface) → slice_get p.interfaces n ≡ Some d → IsInterfaceApart d
  each_interface =
      of_interfaces IsInterfaceApart (λ d _ none. subst (λ (es : List (String Global × Function)). HaveParametersApart (functions_in es)) (sym none) tt)
      (λ k t d at is. interface_apart c p.types t (length s.foreign_interfaces + k) d (text_keeps (package_scopes s.me files) s.sorted kept s.are_sorted t (k, at)) is)

  each_world : (n : ℕ) (d : World) → slice_get p.worlds n ≡ Some d → IsWorldApart d
  each_world =
      of_worlds IsWorldApart (λ d imports exports _. record { imports = subst IsSideApart (sym imports) tt; exports = subst IsSideApart (sym exports) tt })
      (λ k w d at is. world_apart c w (world_kept k w at) p.types (length s.foreign_worlds + k) d is)

pub within_apart : NamesWithinAreApart
within_apart files p r = record {
  labels = each_of (λ (d : TypeDef). HasLabelsApart d.kind) p.types (type_apart files p r);
  interfaces_apart = each_of IsInterfaceApart p.interfaces (each_interface files p r);
  worlds_apart = each_of IsWorldApart p.worlds (each_world files p r);
}

pub nameless_are_forms : NamelessTypesAreForms
nameless_are_forms files p r i d at none = nameless_form files p r i d at none
