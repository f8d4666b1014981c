-- What has a plain name in a world of a resolved package stands under it, once on each side.
use Rattle.std.proofs.Common.{◌≡◌, ℕ, suc, ◌+◌, ◌<◌, List, [], ◌∷◌, ◌++◌, inl, inr, length, Some, String, refl, sym, subst, ap, ◌∙◌, arith}
use Rattle.std.proofs.lemmas.Bool.{cases_lt}
use Rattle.std.proofs.lemmas.Option.{same_Some}
use Rattle.std.specs.Prelude.{slice_get, option_map, string_bytes}
use Rattle.std.specs.declared.alloc.Global.{Global}
use Rattle.wit_order.specs.Order as order
use Rattle.wit_words.specs.Slice.{Slice}
use Rattle.wit_words.specs.declared.source_map.Span.{Span}
use Rattle.wit_types.specs.declared.function.Function.{Function}
use Rattle.wit_types.specs.declared.interface.TypeDef.{TypeDef}
use Rattle.wit_types.specs.declared.interface.TypeOwner.TheVariants as belongs
use Rattle.wit_types.specs.declared.world.World.{World}
use Rattle.wit_types.specs.declared.world.WorldItem.{WorldItem}
use Rattle.wit_types.specs.declared.world.WorldItem.TheVariants as item
use Rattle.wit_types.specs.declared.world_key.WorldKey.{WorldKey}
use Rattle.wit_types.specs.declared.world_key.WorldKey.TheVariants as key
use Rattle.wit_types.specs.WorldKey.{Known, spelled, placed as placed_at, known}
use Rattle.wit_types.specs.declared.«package».UnresolvedPackage.{UnresolvedPackage}
use Rattle.wit_package.specs.Passed.wit_scopes-declared-worlds-Side.{Side}
use Rattle.wit_package.specs.Passed.wit_scopes-declared-worlds-Side-TheVariants.{Import, Export}
use Rattle.wit_package.specs.Passed.wit_scopes-Members.{MemberTree}
use Rattle.wit_package.specs.Passed.wit_scopes-Scopes as scope
use Rattle.wit_package.specs.Passed.wit_scopes-Scopes.{ExternKind, ListedTree, WorldMemberTree, InterfaceScope, WorldScope}
use Rattle.wit_package.specs.Passed.wit_rules-Labels.{full_name}
use Rattle.wit_package.specs.Passed.wit_orders-Needs.{types_of}
use Rattle.wit_package.specs.Passed.wit_arena-Tree.{Name, in_world}
use Rattle.wit_package.specs.Passed.wit_arena-Table.{Entries}
use Rattle.wit_package.specs.Passed.wit_arena-Meaning.{Has}
use Rattle.wit_package.proofs.Passed.wit_interfaces-Behind.{get_either}
use Rattle.wit_package.specs.Passed.wit_resolved_scopes-Each.{Each, AreApartBy}
use Rattle.wit_package.specs.Passed.wit_resolved_scopes-Fit.{Foreign, IsWorldReady}
use Rattle.wit_package.specs.Passed.wit_resolved_scopes-InArena.{Context, IsTypeIn}
use Rattle.wit_package.specs.Passed.wit_resolved_scopes-Texts as text
use Rattle.wit_package.specs.Passed.wit_resolved_scopes-Texts.{KeyText, plain, own_members, side_members, key_text}
use Rattle.wit_package.proofs.Passed.wit_resolved_scopes-Eaches.{each_right}
use Rattle.wit_package.proofs.Passed.wit_resolved_scopes-Orders.{placed, sorted_has, sorted_distinct}
use Rattle.wit_package.specs.Passed.wit_worlds-Worlds.{Entry, IsTypeEntry, IsExternEntry, IsEntryOf, IsWorldIn}
use Rattle.wit_labels.specs.Types.{IsOwnType, IsOwnItem, HasOwnTypes}
use Rattle.wit_labels.specs.Plain.{ArePlainApart, AreUnderTheirNames, IsWorldUnderItsNames}
use Rattle.wit_package.specs.Resolved.{IsResolved, context_of}
use Rattle.wit_package.specs.Steps.{Resolves}
use Rattle.wit_well_formed.specs.Plain.{WorldsAreUnderTheirNames, AreOwnTypes, WorldsHaveOwnTypes}
use Rattle.wit_well_formed.proofs.NamesWithin.{entry_type, of_worlds_at, of_worlds}
use Rattle.wit_well_formed.proofs.Whole.{ready}

-- ---- plain names that are apart

abbrev AreKeysApart : List Entry → Type 0
AreKeysApart es = (i j : ℕ) (x y : String Global) (b d : WorldItem) → slice_get es i ≡ Some (key.Name x, b) → slice_get es j ≡ Some (key.Name y, d) → string_bytes x ≡ string_bytes y → i ≡ j

keys_later : (e : Entry) (es : List Entry) → AreKeysApart (e ∷ es) → AreKeysApart es
keys_later e es h i j x y b d at_i at_j same = (let n : suc i ≡ suc j = h (suc i) (suc j) x y b d at_i at_j same in omega (arith, n))

keys_apart : (es : List Entry) → AreKeysApart es → ArePlainApart es
keys_apart [] h = tt
keys_apart ((key.Name x, b) ∷ es) h = (
  λ y d has same.
      (let p = placed es (key.Name y, d) has in
      let n : 0 ≡ suc p.0 = h 0 (suc p.0) x y b d refl p.1 same in
      absurd (omega (arith, n))),
  keys_apart es (keys_later (key.Name x, b) es h),
)
keys_apart ((key.Interface m, b) ∷ es) h = keys_apart es (keys_later (key.Interface m, b) es h)

keys_behind : (es fs : List Entry) → AreKeysApart es → AreKeysApart fs
    → ((x y : String Global) (b d : WorldItem) → Has es (key.Name x, b) → Has fs (key.Name y, d) → string_bytes x ≡ string_bytes y → ⊥) → AreKeysApart (es ++ fs)
keys_behind es fs first second between i j x y b d at_i at_j same =
    elim (get_either es fs i (key.Name x, b) at_i) as (λ _. i ≡ j) [
      | inl here ↦ elim (get_either es fs j (key.Name y, d) at_j) as (λ _. i ≡ j) [
        | inl there ↦ first i j x y b d here there same
        | inr there ↦ absurd (between x y b d (i, here) (there.0, there.2) same)
      ]
      | inr here ↦ elim (get_either es fs j (key.Name y, d) at_j) as (λ _. i ≡ j) [
        | inl there ↦ absurd (between y x d b (j, there) (here.0, here.2) (sym same))
        | inr there ↦
            let n : here.0 ≡ there.0 = second here.0 there.0 x y b d here.2 there.2 same in
            let u : i ≡ length es + here.0 = here.1 in
            let v : j ≡ length es + there.0 = there.1 in
            omega (arith, n, u, v)
      ]
    ]

same_text : (x : String Global) (n : Name) → known (key.Name x) ≡ spelled n → string_bytes x ≡ n
same_text x n e = (let s : spelled (string_bytes x) ≡ spelled n = e in cc)

-- ---- what stands on a side

module _ (c : Context) (w : WorldScope) (a : List TypeDef) (table : Entries) where
  abbrev pub IsEntry : WorldMemberTree → Entry → Type 0
  IsEntry = IsEntryOf c w.name.text a table

  -- a member is known by the plain name of its entry
  extern_named : (l : ListedTree) (k : ExternKind) (x : String Global) (b : WorldItem) → IsExternEntry c w.name.text a table l k (key.Name x, b) → text.extern_key l.name k ≡ plain (string_bytes x)
  extern_named l (scope.ExternKind.function f) x b h = ap plain (sym (same_text x l.name.text h.key))
  extern_named l (scope.ExternKind.interface ms) x b h = ap plain (sym (same_text x l.name.text h.key))
  extern_named l (scope.item t) x b h = absurd (let e : spelled (string_bytes x) ≡ placed_at h.id = h.key in cc)

  pub entry_named : (m : WorldMemberTree) (x : String Global) (b : WorldItem) → IsEntry m (key.Name x, b) → key_text m ≡ plain (string_bytes x)
  entry_named (scope.member m) x b h = ap plain (sym (same_text x (full_name m.kind m.name) h.key))
  entry_named (scope.listed l) x b h = extern_named l l.kind x b h
  entry_named (scope.included i) x b h = absurd h

  -- a function has that name
  extern_function : (l : ListedTree) (k : ExternKind) (x : String Global) (f : Function) → IsExternEntry c w.name.text a table l k (key.Name x, item.Function f) → string_bytes f.name ≡ string_bytes x
  extern_function l (scope.ExternKind.function t) x f h =
      let e : item.Function f ≡ item.Function h.made = h.item in
      let same : f ≡ h.made = cc in
      ap (λ (g : Function). string_bytes g.name) same ∙ h.is.is.name ∙ sym (same_text x l.name.text h.key)
  extern_function l (scope.ExternKind.interface ms) x f h = absurd (let e : item.Function f ≡ item.Interface h.id h.stability l.name.span = h.item in cc)
  extern_function l (scope.item t) x f h = absurd (let e : item.Function f ≡ item.Interface h.id h.stability l.name.span = h.item in cc)

  entry_function : (m : WorldMemberTree) (x : String Global) (f : Function) → IsEntry m (key.Name x, item.Function f) → string_bytes f.name ≡ string_bytes x
  entry_function (scope.member m) x f h =
      let e : item.Function f ≡ item.Function h.made = h.item in
      let same : f ≡ h.made = cc in
      ap (λ (g : Function). string_bytes g.name) same ∙ h.is.is.name ∙ sym (same_text x (full_name m.kind m.name) h.key)
  entry_function (scope.listed l) x f h = extern_function l l.kind x f h
  entry_function (scope.included i) x f h = absurd h

  module _ (side : Side) (es : List Entry) (are : Each IsEntry (side_members side w.members) es) where
    side_apart : AreApartBy key_text (side_members side w.members) → AreKeysApart es
    side_apart apart i j x y b d at_i at_j same =
        let m = each_right IsEntry (side_members side w.members) es are i (key.Name x, b) at_i in
        let n = each_right IsEntry (side_members side w.members) es are j (key.Name y, d) at_j in
        apart i j m.0 n.0 m.1 n.1 (entry_named m.0 x b m.2 ∙ ap plain same ∙ sym (entry_named n.0 y d n.2))

    side_functions : (x : String Global) (f : Function) → Has es (key.Name x, item.Function f) → string_bytes f.name ≡ string_bytes x
    side_functions x f (k, at) = (let m = each_right IsEntry (side_members side w.members) es are k (key.Name x, item.Function f) at in entry_function m.0 x f m.2)

    side_no_types : (x : String Global) (id : ℕ) (s : Span) → Has es (key.Name x, item.TypeItem id s) → ⊥
    side_no_types x id s (k, at) =
        let m = each_right IsEntry (side_members side w.members) es are k (key.Name x, item.TypeItem id s) at in
        entry_type c w.name.text a table (key.Name x) id s m.0 m.2

-- ---- types that stand on a side

item_own : (a : List TypeDef) (w : ℕ) (x : String Global) (b : WorldItem) → ((i : ℕ) (s : Span) → b ≡ item.TypeItem i s → IsOwnType a w x i) → IsOwnItem a w x b
item_own a w x (item.Interface id stability span) h = tt
item_own a w x (item.Function f) h = tt
item_own a w x (item.TypeItem id span) h = h id span refl

all_own : (a : List TypeDef) (w : ℕ) (es : List Entry) → ((x : String Global) (i : ℕ) (s : Span) → order.Has es (key.Name x, item.TypeItem i s) → IsOwnType a w x i) → HasOwnTypes a w es
all_own a w [] h = tt
all_own a w ((key.Name x, b) ∷ es) h =
    (item_own a w x b (λ i s is. h x i s (inl (ap (λ (z : WorldItem). (key.Name x, z)) (sym is)))), all_own a w es (λ y i s has. h y i s (inr has)))
all_own a w ((key.Interface j, b) ∷ es) h = (tt, all_own a w es (λ y i s has. h y i s (inr has)))

-- ---- a world

module _ (c : Context) (w : WorldScope) (is : List InterfaceScope) (ws : List WorldScope) (others : Foreign) (fit : IsWorldReady is ws others w) (a : List TypeDef) (id : ℕ) (d : World) (here : IsWorldIn c a w id d) where
  -- a type that is listed is that of a member
  pub record IsListedType (n : ℕ) (x : String Global) (b : WorldItem) : Type 0 where
    pub entry : Name × ℕ
    pub listed : IsTypeEntry a entry (key.Name x, b)
    pub member_is : MemberTree
    pub there : slice_get here.sorted n ≡ Some member_is
    pub type_is : IsTypeIn c (in_world w.name.text) (belongs.World id) a member_is entry
    pub named : string_bytes x ≡ member_is.name.text

  pub type_entry : (n : ℕ) (x : String Global) (b : WorldItem) → slice_get here.type_entries n ≡ Some (key.Name x, b) → IsListedType n x b
  type_entry n x b at =
      let t = each_right (IsTypeEntry a) here.table here.type_entries here.type_entries_are n (key.Name x, b) at in
      let m = each_right (IsTypeIn c (in_world w.name.text) (belongs.World id) a) here.sorted here.table here.types_are n t.0 t.1 in
      record { entry = t.0; listed = t.2; member_is = m.0; there = m.1; type_is = m.2; named = same_text x t.0.0 t.2.key ∙ m.2.name }

  types_apart : AreKeysApart here.type_entries
  types_apart i j x y b e at_i at_j same =
      let m = type_entry i x b at_i in
      let n = type_entry j y e at_j in
      let names : m.member_is.name.text ≡ n.member_is.name.text = sym m.named ∙ same ∙ n.named in
      let distinct = sorted_distinct (types_of (own_members w.members)) here.sorted here.are_sorted fit.own.fit.types_apart in
      elim (cases_lt i j) as (λ _. i ≡ j) [
        | inl less ↦ absurd (distinct i j m.member_is n.member_is m.there n.there names less)
        | inr past ↦ elim (cases_lt j i) as (λ _. i ≡ j) [ inl more ↦ absurd (distinct j i n.member_is m.member_is n.there m.there (sym names) more) | inr not_more ↦ omega (arith, past, not_more) ]
      ]

  none_between : (x y : String Global) (b e : WorldItem) → Has here.type_entries (key.Name x, b) → Has here.other_imports (key.Name y, e) → string_bytes x ≡ string_bytes y → ⊥
  none_between x y b e (i, at_i) (j, at_j) same =
      let m = type_entry i x b at_i in
      let n = each_right (IsEntry c w a here.table) (side_members Import w.members) here.other_imports here.lists_are.imports_are j (key.Name y, e) at_j in
      fit.types_apart m.member_is n.0 (sorted_has (types_of (own_members w.members)) here.sorted here.are_sorted m.member_is (i, m.there)) (j, n.1)
      (entry_named c w a here.table n.0 y e n.2 ∙ ap plain (sym same ∙ m.named))

  abbrev all_imports : List Entry
  all_imports = here.type_entries ++ here.other_imports

  imported_function : (x : String Global) (f : Function) → order.Has all_imports (key.Name x, item.Function f) → string_bytes f.name ≡ string_bytes x
  imported_function x f has =
      let p = placed all_imports (key.Name x, item.Function f) has in
      elim (get_either here.type_entries here.other_imports p.0 (key.Name x, item.Function f) p.1) as (λ _. string_bytes f.name ≡ string_bytes x) [
        | inl first ↦ absurd (let m = type_entry p.0 x (item.Function f) first in let e : item.Function f ≡ item.TypeItem m.entry.1 m.listed.def.span = m.listed.item in cc)
        | inr o ↦ side_functions c w a here.table Import here.other_imports here.lists_are.imports_are x f (o.0, o.2)
      ]

  own_type : (x : String Global) (i : ℕ) (s : Span) → order.Has all_imports (key.Name x, item.TypeItem i s) → IsOwnType a id x i
  own_type x i s has =
      let p = placed all_imports (key.Name x, item.TypeItem i s) has in
      elim (get_either here.type_entries here.other_imports p.0 (key.Name x, item.TypeItem i s) p.1) as (λ _. IsOwnType a id x i) [
        | inl first ↦
            let m = type_entry p.0 x (item.TypeItem i s) first in
            let e : item.TypeItem i s ≡ item.TypeItem m.entry.1 m.listed.def.span = m.listed.item in
            let same : m.entry.1 ≡ i = cc in
            let is = m.type_is in
            record { def = is.def; there = subst (λ (j : ℕ). slice_get a j ≡ Some is.def) same is.there; name = is.is.name ∙ ap (λ (n : Name). Some n) (sym m.named); owner = is.is.owner }
        | inr o ↦ absurd (side_no_types c w a here.table Import here.other_imports here.lists_are.imports_are x i s (o.0, o.2))
      ]

  imported_type : (x : String Global) (i : ℕ) (s : Span) → order.Has all_imports (key.Name x, item.TypeItem i s) → (t : TypeDef) × (slice_get a i ≡ Some t) × (option_map string_bytes t.name ≡ Some (string_bytes x))
  imported_type x i s has = (let t = own_type x i s has in (t.def, t.there, t.name))

  own_types : AreOwnTypes a id d
  own_types = record {
    imports = subst (HasOwnTypes a id) (sym here.imports_are) (all_own a id all_imports own_type);
    exports = all_own a id d.exports.entries (λ x i s has. absurd (side_no_types c w a here.table Export d.exports.entries here.lists_are.exports_are x i s (placed d.exports.entries (key.Name x, item.TypeItem i s) has)));
  }

  under_its_names : IsWorldUnderItsNames a d
  under_its_names = record {
    imports =
        subst (AreUnderTheirNames a) (sym here.imports_are)
        (record {
          apart =
              keys_apart all_imports
              (keys_behind here.type_entries here.other_imports types_apart (side_apart c w a here.table Import here.other_imports here.lists_are.imports_are (fit.keys_apart Import)) none_between);
          functions = imported_function;
          types_are = imported_type;
        });
    exports = record {
      apart = keys_apart d.exports.entries (side_apart c w a here.table Export d.exports.entries here.lists_are.exports_are (fit.keys_apart Export));
      functions = λ x f has. side_functions c w a here.table Export d.exports.entries here.lists_are.exports_are x f (placed d.exports.entries (key.Name x, item.Function f) has);
      types_are = λ x i s has. absurd (side_no_types c w a here.table Export d.exports.entries here.lists_are.exports_are x i s (placed d.exports.entries (key.Name x, item.TypeItem i s) has));
    };
  }

-- ---- all of a package

pub worlds_are_under_their_names : WorldsAreUnderTheirNames
worlds_are_under_their_names files p r v has =
    let s = r.resolved in
    let at = placed p.worlds v has in
    of_worlds files p r (IsWorldUnderItsNames p.types)
    (λ d imports exports _. record {
      imports = subst (AreUnderTheirNames p.types) (sym imports) (record { apart = tt; functions = λ x f h. absurd h; types_are = λ x i s h. absurd h });
      exports = subst (AreUnderTheirNames p.types) (sym exports) (record { apart = tt; functions = λ x f h. absurd h; types_are = λ x i s h. absurd h });
    })
    (λ k w d at_w is. under_its_names (context_of s.me files s.items s.sorted) w _ _ _ ((ready files p r).worlds.each k w at_w) p.types (length s.foreign_worlds + k) d is) at.0 v at.1

pub worlds_have_own_types : WorldsHaveOwnTypes
worlds_have_own_types files p r n v at =
    let s = r.resolved in
    of_worlds_at files p r (AreOwnTypes p.types) (λ m d imports exports _. record { imports = subst (HasOwnTypes p.types m) (sym imports) tt; exports = subst (HasOwnTypes p.types m) (sym exports) tt })
    (λ k w d at_w is. own_types (context_of s.me files s.items s.sorted) w _ _ _ ((ready files p r).worlds.each k w at_w) p.types (length s.foreign_worlds + k) d is) n v at
