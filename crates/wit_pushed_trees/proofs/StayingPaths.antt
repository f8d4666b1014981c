-- What a world's text imports and exports by paths and stays stands in the graph.
use Rattle.std.proofs.Common.{◌≡◌, ◌<◌, ◌≤◌, ℕ, ◌+◌, zero, suc, true, List, [], ◌∷◌, ◌++◌, map, length, Some, inl, inr, refl, sym, subst, ap, ◌∙◌, arith}
use Rattle.std.proofs.lemmas.Option.{same_Some, slice_get_within}
use Rattle.std.specs.Prelude.{flat_map, string_bytes, slice_get}
use Rattle.wit_words.specs.declared.source_map.Span.{Span}
use Rattle.wit_types.specs.declared.interface.Interface.{Interface}
use Rattle.wit_types.specs.declared.world.World.{World}
use Rattle.wit_types.specs.declared.world.WorldItem.{WorldItem}
use Rattle.wit_types.specs.declared.world.WorldItem.TheVariants as item
use Rattle.wit_types.specs.declared.world_key.WorldKey.{WorldKey}
use Rattle.wit_types.specs.declared.world_key.WorldKey.TheVariants as key
use Rattle.wit_types.specs.WorldKey.{spelled, placed, known}
use Rattle.wit_types.specs.declared.«package».UnresolvedPackage.{UnresolvedPackage}
use Rattle.wit_syntax.specs.Ast.{FileTree}
use Rattle.wit_features.specs.Features.{FeatureSet, stays}
use Rattle.wit_offsets.specs.Offsets.{interface_by, item_by, world_by, package_at, span_at}
use Rattle.wit_scopes.specs.declared.worlds.Side.TheVariants.{Import, Export}
use Rattle.wit_scopes.specs.Paths.{TargetTree}
use Rattle.wit_scopes.specs.Scopes as scope
use Rattle.wit_scopes.specs.Scopes.{ExternKind, ListedTree, WorldMemberTree, WorldScope}
use Rattle.wit_arena.specs.Tree.{Name, in_interface, in_listed, PackageText, Owner}
use Rattle.wit_arena.specs.Unfold.{Owners}
use Rattle.wit_arena.specs.Meaning.{Has, package_text}
use Rattle.wit_arena.proofs.Lists.{has_right, has_map}
use Rattle.wit_well_formed.specs.Passed.wit_foreign-Items.{interfaces_in}
use Rattle.wit_well_formed.proofs.Passed.wit_interfaces-Behind.{get_either, get_right}
use Rattle.wit_reach.proofs.Holding.{got}
use Rattle.wit_well_formed.proofs.Passed.wit_readiness-Flat.{in_flat}
use Rattle.wit_well_formed.proofs.Passed.wit_readiness-Labelled.{labelled_given}
use Rattle.wit_well_formed.specs.Passed.wit_resolved_scopes-Each.{Each}
use Rattle.wit_well_formed.specs.Passed.wit_resolved_scopes-Texts.{InterfaceText, interface_text, interface_texts, labelled_texts, interfaces_of, worlds_of, side_members}
use Rattle.wit_well_formed.proofs.Passed.wit_resolved_scopes-Eaches.{each_left}
use Rattle.wit_well_formed.specs.Passed.wit_worlds-Worlds.{target_owner, IsInterfaceEntry, IsExternEntry, IsEntryOf, IsWorldIn}
use Rattle.wit_well_formed.specs.Passed.wit_package-Resolved.{IsResolved, foreign_owners, owner_in, context_of}
use Rattle.wit_well_formed.specs.Passed.wit_package-Steps.{Resolves}
use Rattle.wit_moves.specs.Breaks.{AnyOf}
use Rattle.wit_moves.specs.Moved.{Places, place_of, is_placed, to}
use Rattle.wit_moves.specs.Plan.{OwnerPlaces}
use Rattle.wit_moves.specs.Worlds.{item_stays, is_item_placed, moved_key, moved_entry, IsMovedSide, SideBreaks}
use Rattle.wit_graph.proofs.Passed.wit_placed-Holding.{goes_to}
use Rattle.wit_graph.proofs.Passed.wit_placed-Sides.{holds}
use Rattle.wit_plans.specs.Checks.{WorldBreaks}
use Rattle.wit_plans.specs.Moves.{IsMovedWorld}
use Rattle.wit_plans.specs.Plans.{IsPlanned, standing}
use Rattle.wit_plans.specs.declared.moves.MovedWorld.{MovedWorld}
use Rattle.wit_plans.specs.declared.plans.Sizes.{Sizes}
use Rattle.wit_well_formed.proofs.Belonging.{counted, no_more}
use Rattle.wit_well_formed.proofs.Lists.{got_mapped}
use Rattle.wit_graph.specs.Passed.wit_graph_parts-Own.{asked, own_parts}
use Rattle.wit_pushed_trees.specs.Asked.{text_of}
use Rattle.wit_pushed_trees.specs.Staying.{Stays}
use Rattle.wit_pushed_trees.specs.StayingWorlds.{Entry, HasKnown}
use Rattle.wit_pushed_trees.specs.StayingPaths.{HasPath, HasPaths, HasItsPaths, IsNamedOwn, AreNamedOwners}
use Rattle.wit_pushed_trees.proofs.Asking.{text_is, resolved_ask, moved_ask}
use Rattle.wit_pushed_trees.proofs.Owning.{dropped}
use Rattle.wit_pushed_trees.proofs.Resolved.{asked_interfaces}
use Rattle.wit_pushed_trees.proofs.Staying.{some_name, mapped_at, kept_has}

-- ---- a package to which files are resolved

places_apart : (w x y : Name) (l : ListedTree) → in_listed w l.side x ≡ in_interface y → ⊥
places_apart w x y l e = cc

interface_place : (x y : Name) → in_interface x ≡ in_interface y → x ≡ y
interface_place x y e = cc

module _ (files : List FileTree) (p : UnresolvedPackage) (r : Resolves files p) where
  abbrev s : IsResolved files p
  s = r.resolved

  abbrev whole_owners : Owners
  whole_owners = (context_of s.me files s.items s.sorted).owners

  abbrev text_owner : InterfaceText → Owner
  text_owner t = owner_in (package_text s.me) t.place

  -- a text of that place has the name
  text_named : (k : ℕ) (t : InterfaceText) (x : Name) → slice_get (interface_texts s.sorted) k ≡ Some t → t.place ≡ in_interface x → t.name ≡ Some x
  text_named k t x at place = elim (get_either (map interface_text (interfaces_of s.sorted)) (flat_map labelled_texts (worlds_of s.sorted)) k t at) as (λ _. t.name ≡ Some x) [
    | inl first ↦
        let o = got_mapped interface_text (interfaces_of s.sorted) k t first in
        let same : o.0.name.text ≡ x = interface_place o.0.name.text x (ap (λ (u : InterfaceText). u.place) o.2 ∙ place) in
        ap (λ (u : InterfaceText). u.name) (sym o.2) ∙ ap (λ (n : Name). Some n) same
    | inr later ↦
        let w = in_flat labelled_texts (worlds_of s.sorted) t (later.0, later.2) in
        let l = labelled_given w.0 t w.2 in
        absurd (places_apart w.0.name.text l.listed.name.text x l.listed (ap (λ (u : InterfaceText). u.place) (sym l.is) ∙ place))
  ]

  named_own : (k : ℕ) (w : Owner) (x : Name) → slice_get whole_owners.interfaces ((asked p).interfaces + k) ≡ Some w → w.place ≡ in_interface x → IsNamedOwn p k w x
  named_own k w x at place =
      let so_many : length s.foreign_interfaces ≡ interfaces_in s.items = s.foreign_are.so_many_interfaces in
      let owners = asked_interfaces files p r in
      let most : interfaces_in s.items ≤ (asked p).interfaces = counted files p r in
      let least : (asked p).interfaces ≤ interfaces_in s.items = no_more files p r in
      elim (get_either (foreign_owners s.items).interfaces (map text_owner (interface_texts s.sorted)) ((asked p).interfaces + k) w at) as (λ _. IsNamedOwn p k w x) [
        | inl other ↦ absurd (
            let within = slice_get_within (foreign_owners s.items).interfaces ((asked p).interfaces + k) w other in
            omega (arith, within, so_many, owners, most))
        | inr o ↦
            let number : (asked p).interfaces + k ≡ length (foreign_owners s.items).interfaces + o.0 = o.1 in
            let here : o.0 ≡ k = omega (arith, number, so_many, owners, most, least) in
            let t = got_mapped text_owner (interface_texts s.sorted) o.0 w o.2 in
            let within : o.0 < length (interface_texts s.sorted) = slice_get_within (interface_texts s.sorted) o.0 t.0 t.1 in
            let size = s.own_interfaces_are.so_many in
            let d = got s.own_interfaces o.0 (omega (arith, within, size)) in
            let is = s.own_interfaces_are.each o.0 t.0 d.0 t.1 d.1 in
            let of_place : t.0.place ≡ in_interface x = ap (λ (v : Owner). v.place) t.2 ∙ place in
            let name = some_name d.0.name x (is.is.name ∙ text_named o.0 t.0 x t.1 of_place) in
            let behind : slice_get (s.foreign_interfaces ++ s.own_interfaces) (length s.foreign_interfaces + o.0) ≡ Some d.0 = get_right s.foreign_interfaces s.own_interfaces o.0 d.0 d.1 in
            let stands : length s.foreign_interfaces + o.0 ≡ (asked p).interfaces + k = omega (arith, here, so_many, most, least) in
            record {
              made = d.0;
              there = dropped (asked p).interfaces p.interfaces k ∙ ap (slice_get p.interfaces) (sym stands) ∙ subst (λ (ds : List Interface). slice_get ds (length s.foreign_interfaces + o.0) ≡ Some d.0) (sym s.interfaces_are) behind;
              name = name.0;
              named = name.1;
              text = name.2;
              package_is = ap (λ (v : Owner). v.package_text) (sym t.2) ∙ text_is s.me p.name s.name;
            }
      ]

  pub resolved_named : AreNamedOwners whole_owners p
  resolved_named = record { asks = resolved_ask files p r; own = named_own }

  module _ (t : WorldScope) (k : ℕ) (w : World) (is : IsWorldIn (context_of s.me files s.items s.sorted) p.types t k w) where
    path_of : (l : ListedTree) (x : TargetTree) (e : Entry) → l.kind ≡ scope.item x → IsExternEntry (context_of s.me files s.items s.sorted) t.name.text p.types is.table l l.kind e → IsInterfaceEntry (context_of s.me files s.items s.sorted) (target_owner (package_text s.me) in_interface x) l placed e
    path_of l x e same i = subst (λ (ek : ExternKind). IsExternEntry (context_of s.me files s.items s.sorted) t.name.text p.types is.table l ek e) same i

    has_paths : (xs : List WorldMemberTree) (es all : List Entry) → Each (IsEntryOf (context_of s.me files s.items s.sorted) t.name.text p.types is.table) xs es → ((e : Entry) → Has es e → Has all e) → HasPaths whole_owners (text_of p.name) xs all
    has_paths xs es all each into l x (j, at) same =
        let e = each_left (IsEntryOf (context_of s.me files s.items s.sorted) t.name.text p.types is.table) xs es each j (scope.listed l) at in
        let i = path_of l x e.0 same e.2 in
        let here : Has es (e.0.0, item.Interface i.id i.stability l.name.span) = (j, e.1 ∙ ap (λ (y : WorldItem). Some (e.0.0, y)) i.item) in
        record {
          key = e.0.0;
          interface_id = i.id;
          gates = i.stability;
          at = l.name.span;
          listed = into (e.0.0, item.Interface i.id i.stability l.name.span) here;
          known_is = i.key;
          owner = i.owner ∙ ap (λ (m : PackageText). Some (target_owner m in_interface x)) (text_is s.me p.name s.name);
          same = i.gates;
        }

    pub resolved_paths : HasItsPaths whole_owners (text_of p.name) t.members w
    resolved_paths = record {
      imports_are = has_paths (side_members Import t.members) is.other_imports w.imports.entries is.lists_are.imports_are (λ e has. subst (λ (es : List Entry). Has es e) (sym is.imports_are) (has_right is.type_entries is.other_imports e has));
      exports_are = has_paths (side_members Export t.members) w.exports.entries w.exports.entries is.lists_are.exports_are (λ e has. has);
    }

-- ---- places that move

pub moved_owners_named : (owners : Owners) (p : UnresolvedPackage) (n : ℕ) → AreNamedOwners owners p → AreNamedOwners owners (package_at n p)
moved_owners_named owners p n h = record {
  asks = moved_ask owners p n h.asks;
  own = λ k w x at place. (
      let o = h.own k w x at place in record {
        made = interface_by (span_at n) o.made;
        there = mapped_at (interface_by (span_at n)) (asked p).interfaces p.interfaces k o.made o.there;
        name = o.name;
        named = o.named;
        text = o.text;
        package_is = o.package_is;
      });
}

moved_path : (n : ℕ) (owners : Owners) (me : PackageText) (ms : List WorldMemberTree) (es : List Entry) → HasPaths owners me ms es → HasPaths owners me ms (map (λ (e : Entry). (e.0, item_by (span_at n) e.1)) es)
moved_path n owners me ms es h l x has same = (
    let o = h l x has same in record {
      key = o.key;
      interface_id = o.interface_id;
      gates = o.gates;
      at = span_at n o.at;
      listed = has_map (λ (e : Entry). (e.0, item_by (span_at n) e.1)) es (o.key, item.Interface o.interface_id o.gates o.at) o.listed;
      known_is = o.known_is;
      owner = o.owner;
      same = o.same;
    })

pub moved_paths : (n : ℕ) (owners : Owners) (me : PackageText) (ms : List WorldMemberTree) (w : World) → HasItsPaths owners me ms w → HasItsPaths owners me ms (world_by (span_at n) w)
moved_paths n owners me ms w h = record {
  imports_are = moved_path n owners me (side_members Import ms) w.imports.entries h.imports_are;
  exports_are = moved_path n owners me (side_members Export ms) w.exports.entries h.exports_are;
}

-- ---- what stays

-- an interface's entry goes where the interface does
moved_known : (features : FeatureSet) (places interfaces : Places) (old new : List Entry) → IsMovedSide features places interfaces old new → (k : WorldKey) (i : WorldItem) (id : ℕ) → Has old (k, i) → item_stays features places i ≡ true → known k ≡ placed id → HasKnown new (placed (to interfaces id))
moved_known features places interfaces old new (kept, are, same) k i id has stay label =
    let w = kept_has (item_stays features places) _ old kept are k i has stay in
    (moved_key (to interfaces) k, w.0, subst (λ (es : List Entry). Has es (moved_key (to interfaces) k, w.0)) (sym same) (has_map (moved_entry (to interfaces)) kept (k, w.0) w.1), by k label)
  where
    by : (l : WorldKey) → known l ≡ placed id → known (moved_key (to interfaces) l) ≡ placed (to interfaces id)
    by (key.Name y) e = absurd (let bad : spelled (string_bytes y) ≡ placed id = e in cc)
    by (key.Interface j) e = (let number : j ≡ id = placed_ids j id e in ap (λ (m : ℕ). placed (to interfaces m)) number)
      where
        placed_ids : (a b : ℕ) → placed a ≡ placed b → a ≡ b
        placed_ids a b h = cc

pub any_of : {X : Type 0} (breaks : X → Span → Type 0) (xs : List X) (k : ℕ) (x : X) (at : Span) → slice_get xs k ≡ Some x → breaks x at → AnyOf breaks xs at
any_of breaks [] k x at there b = absurd cc
any_of breaks (y ∷ xs) zero x at there b = inl (subst (λ (z : _). breaks z at) (sym (same_Some y x there)) b)
any_of breaks (y ∷ xs) (suc k) x at there b = inr (any_of breaks xs k x at there b)

-- the interface that a path names has a place, and its entry is there
pub record IsPlacedPath (owners : OwnerPlaces) (package_owners : Owners) (w : Owner) (es : List Entry) : Type 0 where
  pub interface_id : ℕ
  pub owner : slice_get package_owners.interfaces interface_id ≡ Some w
  pub stands : place_of owners.interfaces interface_id ≡ Some (to owners.interfaces interface_id)
  pub known_is : HasKnown es (placed (to owners.interfaces interface_id))

abbrev pub ArePlacedPaths : FeatureSet → OwnerPlaces → Owners → PackageText → List WorldMemberTree → List Entry → Type 0
ArePlacedPaths features owners package_owners me ms es = (l : ListedTree) (x : TargetTree) → Has ms (scope.listed l) → l.kind ≡ scope.item x → Stays features l.attributes → IsPlacedPath owners package_owners (target_owner me in_interface x) es

pub record PlacedPaths (features : FeatureSet) (owners : OwnerPlaces) (package_owners : Owners) (me : PackageText) (ms : List WorldMemberTree) (m : MovedWorld) : Type 0 where
  pub imports_are : ArePlacedPaths features owners package_owners me (side_members Import ms) m.imports.items
  pub exports_are : ArePlacedPaths features owners package_owners me (side_members Export ms) m.exports.items

module _ (features : FeatureSet) (graph : List Interface) (sizes : Sizes) (foreign owners : OwnerPlaces) (p : UnresolvedPackage) (places : Places) (planned : IsPlanned features graph sizes foreign (own_parts p) owners places) where
  -- what stays on a side of a world that stays names what is there
  item_there : (k : ℕ) (w : World) → slice_get (own_parts p).worlds k ≡ Some w → stays features w.stability ≡ true → (es : List Entry) → ((at : Span) → SideBreaks features places owners.interfaces es at → WorldBreaks features (standing owners places) w at)
      → (key : WorldKey) (i : WorldItem) → Has es (key, i) → item_stays features places i ≡ true → is_item_placed places owners.interfaces i ≡ true
  item_there k w there stay es breaks key i (j, at) keep =
      holds (is_item_placed places owners.interfaces i) (λ unplaced. planned.kept _ (inr (any_of (WorldBreaks features (standing owners places)) (own_parts p).worlds k w _ there
      (breaks _ (record { place = j; one = (key, i); there = at; stays = keep; unplaced = unplaced; stands = refl })))))

  -- so an interface that a path names has a place
  pub path_placed : (package_owners : Owners) (me : PackageText) (k : ℕ) (w : World) (m : MovedWorld) → slice_get (own_parts p).worlds k ≡ Some w → stays features w.stability ≡ true → IsMovedWorld features (standing owners places) w m
      → (ms : List WorldMemberTree) → HasItsPaths package_owners me ms w → PlacedPaths features owners package_owners me ms m
  path_placed package_owners me k w m there stay moved ms h = record {
    imports_are = λ l x has same keep. one w.imports.entries m.imports.items (λ at b. (stay, inl (inl b))) moved.imports l x (h.imports_are l x has same) keep;
    exports_are = λ l x has same keep. one w.exports.entries m.exports.items (λ at b. (stay, inl (inr b))) moved.exports l x (h.exports_are l x has same) keep;
  }
    where
      one : (old new : List Entry) → ((at : Span) → SideBreaks features places owners.interfaces old at → WorldBreaks features (standing owners places) w at) → IsMovedSide features places owners.interfaces old new
          → (l : ListedTree) (x : TargetTree) → HasPath package_owners (target_owner me in_interface x) old l → Stays features l.attributes → IsPlacedPath owners package_owners (target_owner me in_interface x) new
      one old new breaks side l x o keep =
          let still : item_stays features places (item.Interface o.interface_id o.gates o.at) ≡ true = keep o.gates o.same in
          let placed_there : is_placed owners.interfaces o.interface_id ≡ true = item_there k w there stay old breaks o.key (item.Interface o.interface_id o.gates o.at) o.listed still in
          record {
            interface_id = o.interface_id;
            owner = o.owner;
            stands = goes_to owners.interfaces o.interface_id (to owners.interfaces o.interface_id) placed_there refl;
            known_is = moved_known features places owners.interfaces old new side o.key (item.Interface o.interface_id o.gates o.at) o.interface_id o.listed still o.known_is;
          }
