-- Packages ask of others by names.
use Rattle.std.proofs.Common.{◌≡◌, ◌<◌, ℕ, List, [], ◌∷◌, ◌++◌, map, take, length, Option, Some, None, inl, inr, refl, sym, subst, ap, ◌∙◌, arith, ◌≤◌}
use Rattle.std.proofs.lemmas.List.{take-map}
use Rattle.std.proofs.lemmas.Option.{same_Some, slice_get_within, slice_get_cases}
use Rattle.std.specs.declared.alloc.Global.{Global}
use Rattle.std.specs.Prelude.{String, option_map, slice_get, string_bytes}
use Rattle.semver.specs.Identifiers.{parts_of, version_text}
use Rattle.semver.specs.declared.Version.{Version}
use Rattle.semver.proofs.Grammar.{version_parts-sound}
use Rattle.wit_words.specs.Slice.{Slice}
use Rattle.wit_words.specs.declared.source_map.Span.{Span}
use Rattle.wit_syntax.specs.Ast.{PackageNameTree}
use Rattle.wit_types.specs.declared.interface.TypeDef.{TypeDef}
use Rattle.wit_types.specs.declared.«package».AstItem.{AstItem}
use Rattle.wit_types.specs.declared.«package».AstItem.TheVariants as ids
use Rattle.wit_types.specs.declared.«package».PackageName.{PackageName}
use Rattle.wit_types.specs.declared.«package».UnresolvedPackage.{UnresolvedPackage}
use Rattle.wit_lookups.specs.declared.asks.Asked.{Asked}
use Rattle.wit_lookups.specs.declared.asks.Asked.TheVariants as asked
use Rattle.wit_offsets.specs.Offsets.{kind_by, type_def_by, package_at, span_at}
use Rattle.wit_arena.specs.Tree.{Name, in_world, PackageText, Owner}
use Rattle.wit_arena.specs.Meaning.{Has, package_text}
use Rattle.wit_arena.proofs.Lists.{has_none, has_left, get_more, get_last}
use Rattle.wit_well_formed.specs.Passed.wit_resolved_scopes-Texts.{interface_texts, worlds_of}
use Rattle.wit_scopes.specs.Scopes.{ItemScope}
use Rattle.wit_well_formed.proofs.Lists.{got_mapped}
use Rattle.wit_graph.specs.Passed.wit_graph_parts-Own.{asked_types, own_parts}
use Rattle.wit_package_types.specs.Stability.{IsVersionWhere, no_version, a_version}
use Rattle.wit_well_formed.specs.Passed.wit_foreign-Needs.{NeedTree}
use Rattle.wit_well_formed.specs.Passed.wit_foreign-Items.{Items, need_owner, interfaces_in, worlds_in, IsNumbered, place_asked, AreItemsOf}
use Rattle.wit_well_formed.specs.Passed.wit_foreign-Groups.{package_key, item_key, IsPart, no_part, of_key, of_another, AreParts}
use Rattle.wit_well_formed.specs.Passed.wit_package-TopUses.{files_need}
use Rattle.wit_well_formed.specs.Passed.wit_foreign-Deps.{ItemEntry, PackageEntry, package_entries, IsPackageName, IsItemDep, AreEntries, AreDeps, IsPackageDep}
use Rattle.wit_well_formed.proofs.Passed.wit_package-Owning.{interface_owned, world_owned}
use Rattle.wit_well_formed.specs.Passed.wit_package-Resolved.{IsResolved, owner_in, owners_of}
use Rattle.wit_well_formed.specs.Passed.wit_package-Steps.{Resolves}
use Rattle.wit_syntax.specs.Ast.{FileTree}
use Rattle.wit_types.specs.declared.kind.TypeDefKind.TheVariants as kind
use Rattle.wit_pushed_trees.proofs.Knowing.{same_count}
use Rattle.wit_pushed_trees.specs.Asked.{text_of, owner_asked, IsWhose, IsName, ResolvedPackagesAskByName, MovedPackagesAskByName}

-- ---- lists

got : {X : Type 0} (xs : List X) (k : ℕ) → k < length xs → (x : X) × (slice_get xs k ≡ Some x)
got {X} xs k within = elim (slice_get_cases xs k).1 as (λ _. (x : X) × (slice_get xs k ≡ Some x)) [ inl at ↦ (at.0, at.2) | inr behind ↦ absurd (let past : length xs ≤ k = behind.0 in omega arith) ]

take_front : {X : Type 0} (xs ys : List X) → take (length xs) (xs ++ ys) ≡ xs
take_front {X} [] ys = refl
take_front {X} (x ∷ xs) ys = ap (λ (zs : List X). x ∷ zs) (take_front xs ys)

got_front : {X Y : Type 0} (f : X → Y) (n : ℕ) (xs : List X) (k : ℕ) (y : Y) → slice_get (take n (map f xs)) k ≡ Some y → (x : X) × (slice_get (take n xs) k ≡ Some x) × (f x ≡ y)
got_front {X} {Y} f n xs k y at = got_mapped f (take n xs) k y (ap (λ (ys : List Y). slice_get ys k) (sym (take-map f n xs)) ∙ at)

-- ---- names

version_is : (v : Option Slice) (w : Option Version) → IsVersionWhere v w → option_map (λ (x : Slice). x.text) v ≡ option_map version_text w
version_is v w no_version = refl
version_is v w (a_version x y is) = ap (λ (n : Name). Some n) (sym (version_parts-sound x.text (parts_of y) is).0)

-- a name that is read has the texts from which it is read
pub text_is : (p : PackageNameTree) (n : PackageName) → IsPackageName p n → package_text p ≡ text_of n
text_is p n is = rw (is.namespace, is.name, version_is p.version n.version is.version) refl

-- ---- needs in parts

part_has : {K : Type 0} (key : NeedTree → K) (x : K) (ns row : List NeedTree) → IsPart key x ns row → (n : NeedTree) → Has row n → Has ns n × (key n ≡ x)
part_has key x _ _ no_part n has = absurd (has_none n has)
part_has key x _ _ (of_key ns row m before is) n (k, at) = elim (get_more row m n k at) as (λ _. Has (ns ++ m ∷ []) n × (key n ≡ x)) [
  | inl was ↦ (let r = part_has key x ns row before n (k, was) in (has_left ns (m ∷ []) n r.0, r.1))
  | inr last ↦ (subst (Has (ns ++ m ∷ [])) (sym last.1) (length ns, get_last ns m), ap key last.1 ∙ is)
]
part_has key x _ _ (of_another ns row m before other) n has = (let r = part_has key x ns row before n has in (has_left ns (m ∷ []) n r.0, r.1))

-- an entry is made of the first of its part, which is one of the needs, and of all of the part
record IsEntryOf {E : Type 0} (IsEntry : NeedTree → List NeedTree → E → Type 0) {K : Type 0} (key : NeedTree → K) (needs : List NeedTree) (e : E) : Type 0 where
  pub first : NeedTree
  pub row : List NeedTree
  pub is_part : IsPart key (key first) needs row
  pub first_is : slice_get row 0 ≡ Some first
  pub is : IsEntry first row e

entry_of : {E K : Type 0} (IsEntry : NeedTree → List NeedTree → E → Type 0) (key : NeedTree → K) (needs firsts : List NeedTree) (rows : List (List NeedTree)) (es : List E)
    → AreParts key needs firsts rows → AreEntries IsEntry firsts rows es → (e : E) → Has es e → IsEntryOf IsEntry key needs e
entry_of {E} IsEntry key needs firsts rows es parts entries e (k, at) =
    let within : k < length es = slice_get_within es k e at in
    let so_many : length es ≡ length firsts = entries.so_many in
    let also : length rows ≡ length firsts = parts.so_many in
    let f = got firsts k (omega arith) in
    let r = got rows k (omega arith) in
    let part = parts.parts k f.0 r.0 f.1 r.1 in
    let made = entries.each k f.0 r.0 f.1 r.1 in
    record { first = f.0; row = r.0; is_part = part.0; first_is = part.1; is = subst (IsEntry f.0 r.0) (same_Some made.0 e (sym made.1 ∙ at)) made.2 }

-- ---- items

asked_place : (n : PackageName) (a : Asked) (t : PackageText) (x : Name) (i : AstItem) (interfaces worlds : ℕ) → IsNumbered interfaces worlds (place_asked a x) i → t ≡ text_of n
    → ◌≡◌ {A = Owner} (record { package_text = t; place = place_asked a x }) (owner_asked n i x)
asked_place n asked.Interface t x i interfaces worlds is same = rw (is, same) refl
asked_place n asked.World t x i interfaces worlds is same = rw (is, same) refl

whose : (needs : List NeedTree) (items : Items) → AreItemsOf needs items → (me : PackageText) (sorted : List ItemScope) (w : Owner) (i : AstItem) → Has items (w, i) → IsWhose (owners_of me items sorted) i w
whose needs items are me sorted w (ids.Interface k) has = interface_owned needs items are (map (λ t. owner_in me t.place) (interface_texts sorted)) w k has
whose needs items are me sorted w (ids.World k) has = world_owned needs items are (map (λ v. owner_in me (in_world v.name.text)) (worlds_of sorted)) w k has

module _ (needs : List NeedTree) (items : Items) (are : AreItemsOf needs items) (me : PackageText) (sorted : List ItemScope) where
  asks_item : (d : PackageEntry) (f : NeedTree) (row : List NeedTree) → IsPart package_key (package_key f) needs row → IsPackageName f.«package» d.0 → (e : ItemEntry) → IsEntryOf (IsItemDep items) item_key row e
      → IsWhose (owners_of me items sorted) e.1.0 (owner_asked d.0 e.1.0 (string_bytes e.0))
  asks_item d f row part named e entry =
      let g : NeedTree = entry.first in
      let among : Has row g = (part_has item_key (item_key g) row entry.row entry.is_part g (0, entry.first_is)).0 in
      let same : package_text g.«package» ≡ package_text f.«package» = (part_has package_key (package_key f) needs row part g among).1 in
      let text : package_text g.«package» ≡ text_of d.0 = same ∙ text_is f.«package» d.0 named in
      let number = are.numbered entry.is.item.0 (need_owner g) e.1.0 entry.is.item.1 in
      let owner : need_owner g ≡ owner_asked d.0 e.1.0 g.item.text =
      asked_place d.0 g.asked (package_text g.«package») g.item.text e.1.0 (interfaces_in (take entry.is.item.0 items)) (worlds_in (take entry.is.item.0 items)) number text in
      subst (λ (x : Name). IsWhose (owners_of me items sorted) e.1.0 (owner_asked d.0 e.1.0 x)) (sym entry.is.name)
      (subst (IsWhose (owners_of me items sorted) e.1.0) owner (whose needs items are me sorted (need_owner g) e.1.0 entry.is.item))

  asks_items : (ds : List PackageEntry) (spans : List Span) → AreDeps items needs ds spans → (d : PackageEntry) → Has ds d → (e : ItemEntry) → Has d.1 e → IsWhose (owners_of me items sorted) e.1.0 (owner_asked d.0 e.1.0 (string_bytes e.0))
  asks_items ds spans deps d has e of =
      let entry = entry_of (IsPackageDep items) package_key needs deps.firsts deps.rows ds deps.parts deps.entries d has in
      let its = entry.is.items_are in
      asks_item d entry.first entry.row entry.is_part entry.is.name e (entry_of (IsItemDep items) item_key entry.row its.firsts its.rows d.1 its.parts its.entries e of)

-- ---- types

name_of_type : (d : TypeDef) (o : Option (String Global)) (y : Name) → d.name ≡ o → d.kind ≡ kind.Unknown → option_map string_bytes o ≡ Some y → IsName d
name_of_type d None y is unknown named = absurd cc
name_of_type d (Some x) y is unknown named = record { kind = unknown; name = x; named = is }

module _ (files : List FileTree) (p : UnresolvedPackage) (r : Resolves files p) where
  abbrev s : IsResolved files p
  s = r.resolved

  unknown_are : (own_parts p).unknown ≡ s.unknown
  unknown_are = ap (take (length p.unknown_type_spans.items)) s.types_are
      ∙ ap (λ (n : ℕ). take n (s.unknown ++ s.others)) (s.unknown_are.so_many_spans ∙ sym s.unknown_are.so_many_types) ∙ take_front s.unknown s.others

  type_is_name : (k : ℕ) (d : TypeDef) → slice_get (own_parts p).unknown k ≡ Some d → IsName d
  type_is_name k d at =
      let here : slice_get s.unknown k ≡ Some d = ap (λ (ds : List TypeDef). slice_get ds k) (sym unknown_are) ∙ at in
      let within : k < length s.unknown = slice_get_within s.unknown k d here in
      let so_many : length s.unknown ≡ length s.names = s.unknown_are.so_many_types in
      let e = got s.names k (omega arith) in
      let entry = s.unknown_are.each k e.0 e.1 in
      let same : entry.def ≡ d = same_Some entry.def d (sym entry.type_at ∙ here) in
      subst IsName same (name_of_type entry.def entry.def.name entry.name.text refl entry.is.kind entry.is.name)

pub resolved_ask : ResolvedPackagesAskByName
resolved_ask files p r = record {
  items = asks_items (files_need r.resolved.me files) r.resolved.items r.resolved.items_are (package_text r.resolved.me) r.resolved.sorted (package_entries p.foreign_deps.entries) p.foreign_dep_spans.items r.resolved.deps_are;
  types = type_is_name files p r;
}

-- ---- moved

moved_name : (n : ℕ) (d : TypeDef) → IsName d → IsName (type_def_by (span_at n) d)
moved_name n d is = record { kind = ap (kind_by (span_at n)) is.kind; name = is.name; named = is.named }

pub moved_ask : MovedPackagesAskByName
moved_ask owners p n asks = record {
  items = asks.items;
  types = λ k d at.
      let r = got_front (type_def_by (span_at n)) (asked_types (package_at n p)) p.types k d at in
      subst IsName r.2 (moved_name n r.0 (asks.types k r.0 (ap (λ (m : ℕ). slice_get (take m p.types) k) (sym (same_count n p)) ∙ r.1)));
}
