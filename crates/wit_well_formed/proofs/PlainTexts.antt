-- Names of packages of texts have none of the marks that stand between names.
use Rattle.std.proofs.Common.{◌≡◌, ℕ, ◌+◌, ◌<◌, ◌≤◌, List, [], ◌∷◌, ◌++◌, inl, inr, length, drop, take, Option, Some, None, String, map, refl, sym, subst, ap, ◌∙◌, arith}
use Rattle.std.proofs.lemmas.Option.{same_Some, slice_get-map, slice_get_within}
use Rattle.std.specs.Prelude.{slice_get, flat_map, option_map, string_bytes}
use Rattle.std.specs.List.{AllByRecursion as Every}
use Rattle.std.specs.declared.alloc.Global.{Global}
use Rattle.wit_words.specs.Slice.{Slice}
use Rattle.wit_words.specs.Sources.{SourceText, total}
use Rattle.wit_order.specs.Order as order
use Rattle.wit_types.specs.declared.interface.Interface.{Interface}
use Rattle.wit_types.specs.declared.interface.TypeDef.{TypeDef}
use Rattle.wit_types.specs.declared.world.World.{World}
use Rattle.wit_types.specs.declared.world.IncludeName.{IncludeName}
use Rattle.wit_types.specs.declared.world.WorldInclude.{WorldInclude}
use Rattle.wit_types.specs.declared.world.WorldItem.{WorldItem}
use Rattle.wit_types.specs.declared.world_key.WorldKey.{WorldKey}
use Rattle.wit_types.specs.declared.world_key.WorldKey.TheVariants as key
use Rattle.wit_types.specs.declared.«package».UnresolvedPackage.{UnresolvedPackage}
use Rattle.wit_package.specs.Passed.wit_syntax-Ast.{IncludeNameTree, FileTree}
use Rattle.wit_package.specs.Passed.wit_scopes-declared-worlds-Side.{Side}
use Rattle.wit_package.specs.Passed.wit_scopes-declared-worlds-Side-TheVariants.{Import, Export}
use Rattle.wit_package.specs.Passed.wit_scopes-Members.{MemberTree}
use Rattle.wit_package.specs.Passed.wit_scopes-Scopes as scope
use Rattle.wit_package.specs.Passed.wit_scopes-Scopes.{ExternKind, ListedTree, IncludedTree, WorldMemberTree, InterfaceScope, WorldScope, ItemScope, package_scopes}
use Rattle.wit_package.specs.Passed.wit_rules-Labels.{full_name}
use Rattle.wit_package.specs.Passed.wit_orders-Needs.{member_type, types_of}
use Rattle.wit_package.specs.Passed.wit_arena-Tree.{Name}
use Rattle.wit_package.specs.Passed.wit_arena-Table.{Entries}
use Rattle.wit_package.specs.Passed.wit_arena-Meaning.{Has}
use Rattle.wit_package.proofs.Passed.wit_arena-Lists.{has_none, map_has}
use Rattle.wit_package.specs.Passed.wit_foreign-Items.{interfaces_in}
use Rattle.wit_package.proofs.Passed.wit_interfaces-Behind.{get_either}
use Rattle.wit_package.specs.Passed.wit_nested-Nested.{own_files, nested_files}
use Rattle.wit_package.specs.Passed.wit_resolved_scopes-Each.{Each}
use Rattle.wit_package.specs.Passed.wit_resolved_scopes-Fit.{Foreign, IsWorldReady}
use Rattle.wit_package.specs.Passed.wit_resolved_scopes-InArena.{Context}
use Rattle.wit_package.specs.Passed.wit_resolved_scopes-Texts as text
use Rattle.wit_package.specs.Passed.wit_resolved_scopes-Texts.{InterfaceText, interface_text, labelled_texts, interfaces_of, worlds_of, interface_texts, KeyText, plain, path, listed_member, own_member, own_members, side_member, side_members, included_in, includes_of, key_text}
use Rattle.wit_package.proofs.Passed.wit_resolved_scopes-Eaches.{each_right}
use Rattle.wit_package.proofs.Passed.wit_resolved_scopes-Orders.{listed, placed, sorted_has}
use Rattle.wit_package.proofs.Passed.wit_readiness-Flat.{in_flat, has_one}
use Rattle.wit_package.proofs.Passed.wit_readiness-Labelled.{labelled_given}
use Rattle.wit_package.proofs.Passed.wit_readiness-Named.{type_label, type_given}
use Rattle.wit_package.specs.Passed.wit_worlds-Worlds.{Entry, written_name, include_name, IsIncludeOf, IsEntryOf, IsWorldIn}
use Rattle.wit_labels.specs.Passed.wit_plain_texts-Plain.{IsPlain}
use Rattle.wit_labels.specs.Passed.wit_plain_texts-Trees.{IsPlainName, IsPlainFile}
use Rattle.wit_labels.specs.Passed.wit_plain_texts-Law.{NamesOfTextsArePlain}
use Rattle.wit_labels.specs.Passed.wit_plain_texts-Scopes.{IsPlainMember, IsPlainListed, IsPlainWorldMember, IsPlainScope}
use Rattle.wit_labels.proofs.Passed.wit_plain_texts-Files.{names_of_texts_are_plain}
use Rattle.wit_labels.proofs.Passed.wit_plain_texts-Scopes.{scopes_are_plain, packages_are_plain, nested_files_are_plain}
use Rattle.wit_labels.specs.Named.{ArePlainChanges}
use Rattle.wit_labels.proofs.Every.{each_at, each_of}
use Rattle.wit_labels.proofs.Naming.{sides_are_named}
use Rattle.wit_graph_parts.specs.Own.{asked, own_parts}
use Rattle.wit_package.specs.Group.{AreRead, AreParsed}
use Rattle.wit_package.specs.Resolved.{IsResolved, context_of}
use Rattle.wit_package.specs.Steps.{Resolves}
use Rattle.wit_package.proofs.Scoping.{interface_there, world_there}
use Rattle.wit_reach.proofs.Holding.{got}
use Rattle.wit_well_formed.specs.Marks.{HasPlainSide, HasPlainSides, HasPlainNames, ParsedPackagesHavePlainNames, ParsedWorldsAreNamed}
use Rattle.wit_well_formed.proofs.Belonging.{counted}
use Rattle.wit_well_formed.proofs.Lists.{get_drop, got_mapped}
use Rattle.wit_well_formed.proofs.NamesWithin.{of_worlds}
use Rattle.wit_well_formed.proofs.Parameters.{side_given}
use Rattle.wit_well_formed.proofs.PlainNames.{entry_named, type_entry, worlds_are_under_their_names}
use Rattle.wit_well_formed.proofs.Whole.{ready}

-- ---- members of worlds

listed_plain : (l : ListedTree) (k : ExternKind) → IsPlainListed k l.name → (n : Name) → text.extern_key l.name k ≡ plain n → IsPlain n
listed_plain l (scope.ExternKind.function f) is n e = (let same : l.name.text ≡ n = cc in subst IsPlain same is)
listed_plain l (scope.ExternKind.interface ms) is n e = (let same : l.name.text ≡ n = cc in subst IsPlain same is)
listed_plain l (scope.item t) is n e = absurd cc

-- what is known by a plain name
member_plain : (x : WorldMemberTree) → IsPlainWorldMember x → (n : Name) → key_text x ≡ plain n → IsPlain n
member_plain (scope.member m) is n e = (let same : full_name m.kind m.name ≡ n = cc in subst IsPlain same is)
member_plain (scope.listed l) is n e = listed_plain l l.kind is n e
member_plain (scope.included i) is n e = (let same : [] ≡ n = cc in subst IsPlain same (record { colon = λ h. h; slash = λ h. h; at = λ h. h }))

listed_own : (l : ListedTree) (k : ExternKind) → IsPlainListed k l.name → (m : MemberTree) → Has (listed_member l k) m → IsPlainMember m
listed_own l (scope.ExternKind.function f) is m h = subst IsPlainMember (sym (has_one _ m h)) is
listed_own l (scope.ExternKind.interface ms) is m h = absurd (has_none m h)
listed_own l (scope.item t) is m h = absurd (has_none m h)

own_plain : (x : WorldMemberTree) → IsPlainWorldMember x → (m : MemberTree) → Has (own_member x) m → IsPlainMember m
own_plain (scope.member n) is m h = subst IsPlainMember (sym (has_one n m h)) is
own_plain (scope.listed l) is m h = listed_own l l.kind is m h
own_plain (scope.included i) is m h = absurd (has_none m h)

included_is : (x : WorldMemberTree) (i : IncludedTree) → Has (included_in x) i → x ≡ scope.included i
included_is (scope.member m) i h = absurd (has_none i h)
included_is (scope.listed l) i h = absurd (has_none i h)
included_is (scope.included j) i h = ap (λ (z : IncludedTree). scope.included z) (sym (has_one j i h))

-- ---- a world

module _ (c : Context) (w : WorldScope) (plain_members : Every IsPlainWorldMember w.members) where
  side_plain : (a : List TypeDef) (table : Entries) (side : Side) (es : List Entry) → Each (IsEntryOf c w.name.text a table) (side_members side w.members) es → (x : String Global) (b : WorldItem) → Has es (key.Name x, b) → IsPlain (string_bytes x)
  side_plain a table side es are x b (k, at) =
      let m = each_right (IsEntryOf c w.name.text a table) (side_members side w.members) es are k (key.Name x, b) at in
      let n = in_flat (side_member side) w.members m.0 (k, m.1) in
      let is : IsPlainWorldMember n.0 = each_at IsPlainWorldMember w.members plain_members n.1.0 n.0 n.1.1 in
      member_plain m.0 (subst IsPlainWorldMember (sym (side_given side n.0 m.0 n.2)) is) (string_bytes x) (entry_named c w a table m.0 x b m.2)

  type_plain : (m : MemberTree) → Has (types_of (own_members w.members)) m → IsPlain m.name.text
  type_plain m has =
      let n = in_flat member_type (own_members w.members) m has in
      let of = type_given n.0.kind n.0 m n.2 in
      let x = in_flat own_member w.members n.0 n.1 in
      let is : IsPlainMember n.0 = own_plain x.0 (each_at IsPlainWorldMember w.members plain_members x.1.0 x.0 x.1.1) n.0 x.2 in
      subst (λ (z : MemberTree). IsPlain z.name.text) (sym of.1) (subst IsPlain (type_label n.0.kind n.0.name of.0) is)

  module _ (is : List InterfaceScope) (ws : List WorldScope) (others : Foreign) (fit : IsWorldReady is ws others w) (a : List TypeDef) (id : ℕ) (d : World) (here : IsWorldIn c a w id d) where
    imported_plain : (x : String Global) (b : WorldItem) → Has (here.type_entries ++ here.other_imports) (key.Name x, b) → IsPlain (string_bytes x)
    imported_plain x b (k, at) = elim (get_either here.type_entries here.other_imports k (key.Name x, b) at) as (λ _. IsPlain (string_bytes x)) [
      | inl first ↦
          let m = type_entry c w is ws others fit a id d here k x b first in
          subst IsPlain (sym m.named) (type_plain m.member_is (sorted_has (types_of (own_members w.members)) here.sorted here.are_sorted m.member_is (k, m.there)))
      | inr o ↦ side_plain a here.table Import here.other_imports here.lists_are.imports_are x b (o.0, o.2)
    ]

    included_plain : (i : WorldInclude) (n : IncludeName) → order.Has d.includes.items i → order.Has i.names.items n → IsPlain (string_bytes n.as_)
    included_plain i n has_i has_n =
        let p = placed d.includes.items i has_i in
        let q = placed i.names.items n has_n in
        let t = each_right (IsIncludeOf c) (includes_of w.members) d.includes.items here.lists_are.includes_are p.0 i p.1 in
        let x = in_flat included_in w.members t.0 (p.0, t.1) in
        let is : IsPlainWorldMember (scope.included t.0) = subst IsPlainWorldMember (included_is x.0 t.0 x.2) (each_at IsPlainWorldMember w.members plain_members x.1.0 x.0 x.1.1) in
        let names : slice_get (map written_name t.0.names) q.0 ≡ Some (include_name n) =
        subst (λ (ns : List (Name × Name)). slice_get ns q.0 ≡ Some (include_name n)) t.2.names (slice_get-map include_name i.names.items q.0 ∙ ap (option_map include_name) q.1) in
        let y = got_mapped written_name t.0.names q.0 (include_name n) names in
        subst IsPlain (ap (λ (z : Name × Name). z.1) y.2) (each_at (λ (m : IncludeNameTree). IsPlainName m.other) t.0.names is q.0 y.0 y.1)

    sides_plain : HasPlainSides d
    sides_plain = record {
      imports = subst HasPlainSide (sym here.imports_are) (λ x b has. imported_plain x b (placed (here.type_entries ++ here.other_imports) (key.Name x, b) has));
      exports = λ x b has. side_plain a here.table Export d.exports.entries here.lists_are.exports_are x b (placed d.exports.entries (key.Name x, b) has);
      includes = included_plain;
    }

-- ---- all of a package

module _ (files : List FileTree) (plain_files : Every IsPlainFile files) (p : UnresolvedPackage) (r : Resolves files p) where
  abbrev s : IsResolved files p
  s = r.resolved

  abbrev scopes : List ItemScope
  scopes = package_scopes s.me files

  scope_plain : (i : ItemScope) → Has scopes i → IsPlainScope i
  scope_plain i (k, at) = each_at IsPlainScope scopes (scopes_are_plain s.me files plain_files) k i at

  -- an interface that has a name
  text_plain : (k : ℕ) (t : InterfaceText) (n : Name) → slice_get (interface_texts s.sorted) k ≡ Some t → t.name ≡ Some n → IsPlain n
  text_plain k t n at named = elim (get_either (map interface_text (interfaces_of s.sorted)) (flat_map labelled_texts (worlds_of s.sorted)) k t at) as (λ _. IsPlain n) [
    | inl first ↦
        let i = map_has interface_text (interfaces_of s.sorted) t (k, first) in
        let is : IsPlainName i.0.name = scope_plain (scope.ItemScope.interface i.0) (interface_there scopes s.sorted s.are_sorted i.0 i.1) in
        let same : i.0.name.text ≡ n = same_Some i.0.name.text n (sym (ap (λ (u : InterfaceText). u.name) i.2) ∙ named) in
        subst IsPlain same is
    | inr o ↦
        let w = in_flat labelled_texts (worlds_of s.sorted) t (o.0, o.2) in
        let l = labelled_given w.0 t w.2 in
        absurd (let none : None ≡ Some n = sym (ap (λ (u : InterfaceText). u.name) l.is) ∙ named in cc)
  ]

  interface_plain : (d : Interface) (x : String Global) → order.Has (own_parts p).interfaces d → d.name ≡ Some x → IsPlain (string_bytes x)
  interface_plain d x has named =
      let h = placed (drop (asked p).interfaces p.interfaces) d has in
      let at = get_drop (asked p).interfaces p.interfaces h.0 d h.1 in
      elim (get_either s.foreign_interfaces s.own_interfaces ((asked p).interfaces + h.0) d (subst (λ (ds : List Interface). slice_get ds ((asked p).interfaces + h.0) ≡ Some d) s.interfaces_are at)) as (λ _. IsPlain (string_bytes x)) [
        | inl other ↦ absurd (
            let within : (asked p).interfaces + h.0 < length s.foreign_interfaces = slice_get_within s.foreign_interfaces ((asked p).interfaces + h.0) d other in
            let so_many : length s.foreign_interfaces ≡ interfaces_in s.items = s.foreign_are.so_many_interfaces in
            let most : interfaces_in s.items ≤ (asked p).interfaces = counted files p r in
            omega (arith, within, so_many, most))
        | inr o ↦
            let within : o.0 < length s.own_interfaces = slice_get_within s.own_interfaces o.0 d o.2 in
            let size = s.own_interfaces_are.so_many in
            let t = got (interface_texts s.sorted) o.0 (omega (arith, within, size)) in
            let is = s.own_interfaces_are.each o.0 t.0 d t.1 o.2 in
            text_plain o.0 t.0 (string_bytes x) t.1 (sym is.is.name ∙ ap (option_map string_bytes) named)
      ]

  world_plain : (w : World) → order.Has p.worlds w → HasPlainSides w
  world_plain v has =
      let at = placed p.worlds v has in
      of_worlds files p r HasPlainSides
      (λ d imports exports includes. record { imports = subst HasPlainSide (sym imports) (λ x b h. absurd h); exports = subst HasPlainSide (sym exports) (λ x b h. absurd h); includes = λ i n h. absurd (subst (λ (is : List WorldInclude). order.Has is i) includes h) })
      (λ k w d at_w is.
      sides_plain (context_of s.me files s.items s.sorted) w (scope_plain (scope.world w) (world_there scopes s.sorted s.are_sorted w (k, at_w))) _ _ _ ((ready files p r).worlds.each k w at_w) p.types (length s.foreign_worlds + k) d is)
      at.0 v at.1

  resolved_plain : HasPlainNames p
  resolved_plain =
      let me = packages_are_plain s.me files plain_files s.named in
      record { namespace = subst IsPlain (sym s.name.namespace) me.namespace; name = subst IsPlain (sym s.name.name) me.name; interfaces = interface_plain; worlds = world_plain }

-- ---- packages of texts

files_plain : (texts : List SourceText) (files : List FileTree) → AreRead texts files → Every IsPlainFile files
files_plain texts files read =
    each_of IsPlainFile files
    (λ k f at.
    (let within : k < length files = slice_get_within files k f at in
    let so_many = read.so_many in
    let t = got texts k (omega (arith, within, so_many)) in
    names_of_texts_are_plain (total (take k texts)) t.0.contents f (read.each k t.0 f t.1 at)))

-- a package to which files are resolved whose names have no marks
pub record IsOfPlain (p : UnresolvedPackage) : Type 0 where
  pub files : List FileTree
  pub are : Every IsPlainFile files
  pub resolves : Resolves files p

pub of_plain : (texts : List SourceText) (main : UnresolvedPackage) (nested : List UnresolvedPackage) → AreParsed texts main nested → (p : UnresolvedPackage) → order.Has (main ∷ nested) p → IsOfPlain p
of_plain texts main nested parsed p (inl same) =
    let are = nested_files_are_plain parsed.files (files_plain texts parsed.files parsed.read) in
    record { files = own_files parsed.files; are = are.0; resolves = subst (Resolves (own_files parsed.files)) (sym same) parsed.resolved.main_is }
of_plain texts main nested parsed p (inr has) =
    let are = nested_files_are_plain parsed.files (files_plain texts parsed.files parsed.read) in
    let all = parsed.resolved.nested_are in
    let at = placed nested p has in
    let within : at.0 < length nested = slice_get_within nested at.0 p at.1 in
    let so_many = all.so_many in
    let f = got (nested_files parsed.files) at.0 (omega (arith, within, so_many)) in
    record { files = f.0 ∷ []; are = (each_at IsPlainFile (nested_files parsed.files) are.1 at.0 f.0 f.1, tt); resolves = all.each at.0 f.0 p f.1 at.1 }

pub parsed_are_plain : ParsedPackagesHavePlainNames
parsed_are_plain texts main nested parsed p has = (let r = of_plain texts main nested parsed p has in resolved_plain r.files r.are p r.resolves)

pub worlds_are_named : ParsedWorldsAreNamed
worlds_are_named texts main nested parsed p has w in_package =
    let r = of_plain texts main nested parsed p has in
    let under = worlds_are_under_their_names r.files p r.resolves w in_package in
    let marks = (resolved_plain r.files r.are p r.resolves).worlds w in_package in
    record {
      imports_named = sides_are_named p.types w.imports.entries under.imports marks.imports;
      exports_named = sides_are_named p.types w.exports.entries under.exports marks.exports;
      changes =
          each_of (λ (i : WorldInclude). ArePlainChanges i.names.items) w.includes.items
          (λ k i at_i.
          each_of (λ (n : IncludeName). IsPlain (string_bytes n.as_)) i.names.items
          (λ l n at_n. marks.includes i n (listed w.includes.items i (k, at_i)) (listed i.names.items n (l, at_n))));
    }
