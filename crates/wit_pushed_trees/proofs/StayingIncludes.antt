-- What the worlds bring that a world's text includes stands in the graph.
use Rattle.std.proofs.Common.{◌≡◌, ◌<◌, ℕ, ◌+◌, zero, suc, Bool, true, false, List, [], ◌∷◌, ◌++◌, map, length, length-append, Some, None, inl, inr, refl, sym, subst, ap, ◌∙◌, arith}
use Rattle.std.proofs.lemmas.Option.{same_Some, slice_get_within}
use Rattle.std.specs.Prelude.{string_bytes, slice_get, if◌then◌else◌}
use Rattle.wit_types.specs.declared.interface.Interface.{Interface}
use Rattle.wit_types.specs.declared.stability.Stability.{Stability}
use Rattle.wit_types.specs.declared.world.IncludeName.{IncludeName}
use Rattle.wit_types.specs.declared.world.World.{World}
use Rattle.wit_types.specs.declared.world.WorldInclude.{WorldInclude}
use Rattle.wit_types.specs.declared.world_key.WorldKey.{WorldKey}
use Rattle.wit_types.specs.declared.world_key.WorldKey.TheVariants as key
use Rattle.wit_types.specs.WorldKey.{Known, spelled, placed, known}
use Rattle.wit_types.specs.declared.«package».UnresolvedPackage.{UnresolvedPackage}
use Rattle.wit_syntax.specs.Ast.{FileTree}
use Rattle.wit_features.specs.Features.{FeatureSet, stays}
use Rattle.wit_offsets.specs.Offsets.{include_by, world_by, package_at, span_at}
use Rattle.wit_scopes.specs.Scopes.{IncludedTree, WorldMemberTree, WorldScope}
use Rattle.wit_arena.specs.Tree.{Name, in_world, PackageText, Owner}
use Rattle.wit_arena.specs.Unfold.{Owners}
use Rattle.wit_arena.specs.Meaning.{Has}
use Rattle.wit_arena.proofs.Lists.{has_none, has_left, has_right, has_map}
use Rattle.wit_reach.proofs.Holding.{got}
use Rattle.wit_well_formed.proofs.Offsets.{items_are}
use Rattle.wit_well_formed.proofs.Passed.wit_readiness-Flat.{flat_has, has_one}
use Rattle.wit_well_formed.specs.Passed.wit_resolved_scopes-Texts.{includes_of}
use Rattle.wit_well_formed.proofs.Passed.wit_resolved_scopes-Eaches.{each_left}
use Rattle.wit_well_formed.proofs.Passed.wit_resolved_scopes-Readying.{either}
use Rattle.wit_well_formed.specs.Passed.wit_worlds-Worlds.{target_owner, include_name, written_name, IsIncludeOf, IsWorldIn}
use Rattle.wit_well_formed.specs.Passed.wit_package-Resolved.{IsResolved, context_of}
use Rattle.wit_well_formed.specs.Passed.wit_package-Steps.{Resolves}
use Rattle.wit_moves.specs.Moved.{Places, place_of, is_placed, to}
use Rattle.wit_moves.specs.Plan.{OwnerPlaces, Plan, with_place}
use Rattle.wit_finding.specs.Own.{with_own}
use Rattle.wit_moved_trees.proofs.Moving.{place_kept}
use Rattle.wit_graph.proofs.Passed.wit_placed-Holding.{goes_to}
use Rattle.wit_graph.proofs.Passed.wit_placed-Sides.{holds}
use Rattle.wit_graph.proofs.Passed.wit_placed-Sources.{put_last}
use Rattle.wit_plans.specs.Checks.{Standing, IncludeBreaks, WorldBreaks}
use Rattle.wit_plans.specs.Moves.{moved_include, IsMovedWorld, AreMovedWorlds, no_worlds, world_goes, world_stays}
use Rattle.wit_plans.specs.Plans.{IsPlanned, standing}
use Rattle.wit_plans.specs.declared.moves.MovedWorld.{MovedWorld}
use Rattle.wit_plans.specs.declared.plans.Sizes.{Sizes}
use Rattle.wit_copies.specs.Copies.{Copies, goes, AreCopiedEntries, no_entries as no_copies, one_entry_more}
use Rattle.wit_copies.specs.Same.{IsSameKey, same_name, same_key_interface, IsSameItem, same_interface, same_function, same_type}
use Rattle.wit_sides.specs.Renames.{IsRenamed, IsRenamedItem, IsRenamedKey, AreRenamed, no_entries, one_more}
use Rattle.wit_includes.specs.Included.{AreIncludedEntries}
use Rattle.wit_graph.specs.Passed.wit_joined-Joined.{State as JoinedState, with_brought, Includes, includes_none, includes_one}
use Rattle.wit_graph.specs.Passed.wit_graph_parts-Own.{asked, own_parts}
use Rattle.wit_pushed_trees.specs.Asked.{text_of}
use Rattle.wit_pushed_trees.specs.Staying.{Stays}
use Rattle.wit_pushed_trees.specs.StayingWorlds.{Entry, ItemSort, item_sort, HasKnown, HasNamed, HasLabel}
use Rattle.wit_pushed_trees.specs.StayingIncludes.{BringsSide, HasIncludes, AreNamedWorlds}
use Rattle.wit_pushed_trees.specs.Owned.{AreOwnersOf}
use Rattle.wit_pushed_trees.proofs.Asking.{text_is}
use Rattle.wit_pushed_trees.proofs.Owning.{dropped}
use Rattle.wit_pushed_trees.proofs.Staying.{mapped_at, own_grows}
use Rattle.wit_pushed_trees.proofs.StayingPaths.{any_of}
use Rattle.wit_types.specs.declared.world.WorldItem.{WorldItem}
use Rattle.wit_types.specs.declared.world.WorldItem.TheVariants as item
use Rattle.wit_moves.specs.Worlds.{IsMovedItem, moved_interface, moved_function, moved_type}

-- ---- a package to which files are resolved

world_place : (x y : Name) → in_world x ≡ in_world y → x ≡ y
world_place x y e = cc

-- an own world has the name of its owner
pub named_worlds : (owners : Owners) (p : UnresolvedPackage) → AreOwnersOf owners p → AreNamedWorlds owners p
named_worlds owners p are k w x at place =
    let within : (asked p).worlds + k < length owners.worlds = slice_get_within owners.worlds ((asked p).worlds + k) w at in
    let size = are.so_many_worlds in
    let v = got p.worlds ((asked p).worlds + k) (omega (arith, within, size)) in
    let there : slice_get (own_parts p).worlds k ≡ Some v.0 = dropped (asked p).worlds p.worlds k ∙ v.1 in
    let own = are.worlds_are k v.0 there in
    let same = same_Some _ w (sym own ∙ at) in
    record {
      made = v.0;
      there = there;
      text = world_place (string_bytes v.0.name) x (ap (λ (o : Owner). o.place) same ∙ place);
      package_is = ap (λ (o : Owner). o.package_text) (sym same);
    }

module _ (files : List FileTree) (p : UnresolvedPackage) (r : Resolves files p) where
  abbrev s : IsResolved files p
  s = r.resolved

  pub resolved_includes : (t : WorldScope) (k : ℕ) (w : World) → IsWorldIn (context_of s.me files s.items s.sorted) p.types t k w → HasIncludes (context_of s.me files s.items s.sorted).owners (text_of p.name) t.members w
  resolved_includes t k w is i (j, at) =
      let e = each_left (IsIncludeOf (context_of s.me files s.items s.sorted)) (includes_of t.members) w.includes.items is.lists_are.includes_are j i at in
      record {
        one = e.0;
        listed = (j, e.1);
        owner = e.2.owner ∙ ap (λ (m : PackageText). Some (target_owner m in_world i.world)) (text_is s.me p.name s.name);
        gates = e.2.stability;
        names_are = e.2.names;
      }

-- ---- places that move

pub moved_includes : (n : ℕ) (owners : Owners) (me : PackageText) (ms : List WorldMemberTree) (w : World) → HasIncludes owners me ms w → HasIncludes owners me ms (world_by (span_at n) w)
moved_includes n owners me ms w h i has = (
    let o = h i has in record {
      one = include_by (span_at n) o.one;
      listed = subst (λ (ns : List WorldInclude). Has ns (include_by (span_at n) o.one)) (sym (items_are (include_by (span_at n)) w.includes)) (has_map (include_by (span_at n)) w.includes.items o.one o.listed);
      owner = o.owner;
      gates = o.gates;
      names_are = o.names_are;
    })

pub moved_worlds_named : (n : ℕ) (owners : Owners) (p : UnresolvedPackage) → AreNamedWorlds owners p → AreNamedWorlds owners (package_at n p)
moved_worlds_named n owners p h k w x at place = (
    let o = h k w x at place in record {
      made = world_by (span_at n) o.made;
      there = mapped_at (world_by (span_at n)) (asked p).worlds p.worlds k o.made o.there;
      text = o.text;
      package_is = o.package_is;
    })

-- ---- what stays

-- an `include` that stays is of a world that has a place
pub record IsPlacedInclude (owners : OwnerPlaces) (package_owners : Owners) (w : Owner) (i : IncludedTree) (includes : List WorldInclude) : Type 0 where
  pub world_id : ℕ
  pub owner : slice_get package_owners.worlds world_id ≡ Some w
  pub stands : place_of owners.worlds world_id ≡ Some (to owners.worlds world_id)
  pub one : WorldInclude
  pub listed : Has includes one
  pub id_is : one.id ≡ to owners.worlds world_id
  pub names_are : map include_name one.names.items ≡ map written_name i.names

module _ (features : FeatureSet) (graph : List Interface) (sizes : Sizes) (foreign owners : OwnerPlaces) (p : UnresolvedPackage) (places : Places) (planned : IsPlanned features graph sizes foreign (own_parts p) owners places) where
  pub include_placed : (package_owners : Owners) (me : PackageText) (k : ℕ) (w : World) (m : MovedWorld) → slice_get (own_parts p).worlds k ≡ Some w → stays features w.stability ≡ true → IsMovedWorld features (standing owners places) w m
      → (ms : List WorldMemberTree) → HasIncludes package_owners me ms w → (i : IncludedTree) → Has (includes_of ms) i → Stays features i.attributes → IsPlacedInclude owners package_owners (target_owner me in_world i.world) i m.includes.items
  include_placed package_owners me k w m there stay moved ms h i has keep =
      let o = h i has in
      let still : stays features o.one.stability ≡ true = keep o.one.stability o.gates in
      let placed_there : is_placed owners.worlds o.one.id ≡ true = holds (is_placed owners.worlds o.one.id) (λ unplaced. planned.kept _ (inr (any_of (WorldBreaks features (standing owners places)) (own_parts p).worlds k w _ there
      (stay, inr (any_of (IncludeBreaks features (standing owners places)) w.includes.items o.listed.0 o.one _ o.listed.1 (still, unplaced, refl)))))) in
      let new : WorldInclude = record o.one { id = to owners.worlds o.one.id } in
      let here : Has (moved_include features owners.worlds o.one) new = subst (λ (b : Bool). Has (if b then new ∷ [] else []) new) (sym still) (0, refl) in
      record {
        world_id = o.one.id;
        owner = o.owner;
        stands = goes_to owners.worlds o.one.id (to owners.worlds o.one.id) placed_there refl;
        one = new;
        listed = subst (λ (ns : List WorldInclude). Has ns new) (sym moved.includes) (flat_has (moved_include features owners.worlds) w.includes.items o.one new o.listed here);
        id_is = refl;
        names_are = o.names_are;
      }

-- a world that stays takes the place of its number among those that do
pub record IsPlacedWorld (features : FeatureSet) (s : Standing) (p : Plan) (ws : List World) (j : ℕ) (m : MovedWorld) : Type 0 where
  pub place : ℕ
  pub old : World
  pub was : slice_get ws place ≡ Some old
  pub kept : stays features old.stability ≡ true
  pub moved : IsMovedWorld features s old m
  pub stands : place_of (with_own features p (map (λ (w : World). w.stability) ws)).places (length p.places + place) ≡ Some (p.next + j)

abbrev gates : List World → List Stability
gates ws = map (λ (w : World). w.stability) ws

pub world_from : (features : FeatureSet) (s : Standing) (p : Plan) (ws : List World) (ms : List MovedWorld) → AreMovedWorlds features s ws ms → (j : ℕ) (m : MovedWorld) → slice_get ms j ≡ Some m → IsPlacedWorld features s p ws j m
world_from features s p ws ms no_worlds j m at = absurd cc
world_from features s p ws ms (world_goes v vs ns goes more) j m at =
    let r = world_from features s (with_place false p) vs ns more j m at in
    let size = length-append p.places (None ∷ []) in
    let number : length p.places + suc r.place ≡ length (with_place false p).places + r.place = omega (arith, size) in
    record {
      place = suc r.place;
      old = r.old;
      was = r.was;
      kept = r.kept;
      moved = r.moved;
      stands = ap (λ (b : Bool). place_of (with_own features (with_place b p) (gates vs)).places (length p.places + suc r.place)) goes ∙ ap (place_of (with_own features (with_place false p) (gates vs)).places) number ∙ r.stands;
    }
world_from features s p ws ms (world_stays v n vs ns stays_there is more) zero m at =
    let grown = own_grows features (with_place true p) (gates vs) in
    record {
      place = zero;
      old = v;
      was = refl;
      kept = stays_there;
      moved = subst (IsMovedWorld features s v) (same_Some n m at) is;
      stands =
          ap (λ (b : Bool). place_of (with_own features (with_place b p) (gates vs)).places (length p.places + 0)) stays_there
          ∙ ap (place_of (with_own features (with_place true p) (gates vs)).places) (let e : length p.places + 0 ≡ length p.places = omega arith in e)
          ∙ ap (λ (ps : Places). place_of ps (length p.places)) grown.1 ∙ place_kept (with_place true p).places grown.0 (length p.places) p.next (put_last p) ∙ ap (λ (k : ℕ). Some k) (let e : p.next ≡ p.next + 0 = omega arith in e);
    }
world_from features s p ws ms (world_stays v n vs ns stays_there is more) (suc j) m at =
    let r = world_from features s (with_place true p) vs ns more j m at in
    let size = length-append p.places (Some p.next ∷ []) in
    let number : length p.places + suc r.place ≡ length (with_place true p).places + r.place = omega (arith, size) in
    record {
      place = suc r.place;
      old = r.old;
      was = r.was;
      kept = r.kept;
      moved = r.moved;
      stands =
          ap (λ (b : Bool). place_of (with_own features (with_place b p) (gates vs)).places (length p.places + suc r.place)) stays_there ∙ ap (place_of (with_own features (with_place true p) (gates vs)).places) number ∙ r.stands
          ∙ ap (λ (k : ℕ). Some k) (let e : p.next + 1 + j ≡ p.next + suc j = omega arith in e);
    }

-- ---- what is brought

-- what is known on one side is on another
abbrev pub KeepsKnown : List Entry → List Entry → Type 0
KeepsKnown old new = (x : Known) → HasKnown old x → HasKnown new x

copied_known : (c : Copies) (es fs : List Entry) → AreCopiedEntries c es fs → KeepsKnown es fs
copied_known c es fs no_copies x (k, i, has, label) = absurd (has_none (k, i) has)
copied_known c es fs (one_entry_more k l i j ds gs same is more) x (n, o, (zero, at), label) = (l, j, (zero, refl), by k l same (ap (λ (e : Entry). known e.0) (same_Some (k, i) (n, o) at) ∙ label))
  where
    by : (a b : WorldKey) → IsSameKey a b → known a ≡ x → known b ≡ x
    by a b (same_name y z e) h = ap spelled e ∙ h
    by a b (same_key_interface m) h = h
copied_known c es fs (one_entry_more k l i j ds gs same is more) x (n, o, (suc q, at), label) = (let r = copied_known c ds gs more x (n, o, (q, at), label) in (r.0, r.1, (suc r.2.0, r.2.1), r.3))

spelled_is : (x y : Name) → spelled x ≡ spelled y → x ≡ y
spelled_is x y e = cc

-- what is moved, copied or renamed is of its sort
pub sort_moved_item : (types interfaces : ℕ → ℕ) (i j : WorldItem) → IsMovedItem types interfaces i j → item_sort j ≡ item_sort i
sort_moved_item types interfaces _ _ (moved_interface id gates at) = refl
sort_moved_item types interfaces _ _ (moved_function f g is) = refl
sort_moved_item types interfaces _ _ (moved_type id at) = refl

pub sort_same : (i j : WorldItem) → IsSameItem i j → item_sort j ≡ item_sort i
sort_same _ _ (same_interface id g h at is) = refl
sort_same _ _ (same_function f g is) = refl
sort_same _ _ (same_type id at) = refl

sort_renamed : (names : List IncludeName) (i j : WorldItem) → IsRenamedItem names i j → item_sort j ≡ item_sort i
sort_renamed names (item.Interface id gates at) j is = ap item_sort is
sort_renamed names (item.Function f) j is = ap item_sort is.1
sort_renamed names (item.TypeItem id at) j is = ap item_sort is

copied_labels : (c : Copies) (es fs : List Entry) → AreCopiedEntries c es fs → (x : Name) (q : ItemSort) → HasLabel es x q → HasLabel fs x q
copied_labels c es fs no_copies x q (i, (k, has, label), sort) = absurd (has_none (k, i) has)
copied_labels c es fs (one_entry_more k l i j ds gs same is more) x q (o, (n, (zero, at), label), sort) =
    let here = same_Some (k, i) (n, o) at in
    (j, (l, (zero, refl), by k l same (ap (λ (e : Entry). known e.0) here ∙ label)), sort_moved_item (goes c) (λ (m : ℕ). m) is.0 j is.2 ∙ sort_same i is.0 is.1 ∙ ap (λ (e : Entry). item_sort e.1) here ∙ sort)
  where
    by : (a b : WorldKey) → IsSameKey a b → known a ≡ spelled x → known b ≡ spelled x
    by a b (same_name y z e) h = ap spelled e ∙ h
    by a b (same_key_interface m) h = h
copied_labels c es fs (one_entry_more k l i j ds gs same is more) x q (o, (n, (suc m, at), label), sort) = (let r = copied_labels c ds gs more x q (o, (n, (m, at), label), sort) in (r.0, (r.1.0, (suc r.1.1.0, r.1.1.1), r.1.2), r.2))

renamed_labels : (names : List IncludeName) (es fs : List Entry) → AreRenamed names es fs → (x : Name) (q : ItemSort) → HasLabel es x q → (y : Name) × IsRenamed names x y × HasLabel fs y q
renamed_labels names es fs no_entries x q (i, (k, has, label), sort) = absurd (has_none (k, i) has)
renamed_labels names es fs (one_more k l i j ds gs is item_is more) x q (o, (n, (zero, at), label), sort) = by k is (ap (λ (e : Entry). known e.0) here ∙ label)
  where
    here : ◌≡◌ {A = Entry} (k, i) (n, o)
    here = same_Some (k, i) (n, o) at

    by : (a : WorldKey) → IsRenamedKey names a l → known a ≡ spelled x → (y : Name) × IsRenamed names x y × HasLabel ((l, j) ∷ gs) y q
    by (key.Name z) (t, e, renamed) h = (
      string_bytes t,
      subst (λ (u : Name). IsRenamed names u (string_bytes t)) (spelled_is (string_bytes z) x h) renamed,
      (j, (l, (zero, refl), ap known e), sort_renamed names i j item_is ∙ ap (λ (e : Entry). item_sort e.1) here ∙ sort),
    )
    by (key.Interface m) e h = absurd (let bad : placed m ≡ spelled x = h in cc)
renamed_labels names es fs (one_more k l i j ds gs is item_is more) x q (o, (n, (suc m, at), label), sort) =
    let r = renamed_labels names ds gs more x q (o, (n, (m, at), label), sort) in
    (r.0, r.1, (r.2.0, (r.2.1.0, (suc r.2.1.1.0, r.2.1.1.1), r.2.1.2), r.2.2))

renamed_ids : (names : List IncludeName) (es fs : List Entry) → AreRenamed names es fs → (m : ℕ) → HasKnown es (placed m) → HasKnown fs (placed m)
renamed_ids names es fs no_entries m (k, i, has, label) = absurd (has_none (k, i) has)
renamed_ids names es fs (one_more k l i j ds gs is item more) m (n, o, (zero, at), label) = (l, j, (zero, refl), by k is (ap (λ (e : Entry). known e.0) (same_Some (k, i) (n, o) at) ∙ label))
  where
    by : (a : WorldKey) → IsRenamedKey names a l → known a ≡ placed m → known l ≡ placed m
    by (key.Name z) (t, e, renamed) h = absurd (let bad : spelled (string_bytes z) ≡ placed m = h in cc)
    by (key.Interface q) e h = ap known e ∙ h
renamed_ids names es fs (one_more k l i j ds gs is item more) m (n, o, (suc q, at), label) = (let r = renamed_ids names ds gs more m (n, o, (q, at), label) in (r.0, r.1, (suc r.2.0, r.2.1), r.3))

brought : (names : List IncludeName) (c : Copies) (es fs : List Entry) → AreIncludedEntries names c es fs → BringsSide names es fs
brought names c es fs (copied, copies, renamed) = record {
  labels = λ x s h. renamed_labels names copied fs renamed x s (copied_labels c es copied copies x s h);
  interfaces = λ k h. renamed_ids names copied fs renamed k (copied_known c es copied copies (placed k) h);
}

pub brings_more : (names : List IncludeName) (es fs gs : List Entry) → BringsSide names es fs → ((x : Name) (s : ItemSort) → HasLabel fs x s → HasLabel gs x s) → KeepsKnown fs gs → BringsSide names es gs
brings_more names es fs gs h labels keeps = record {
  labels = λ x s has. (let r = h.labels x s has in (r.0, r.1, labels r.0 s r.2));
  interfaces = λ k has. keeps (placed k) (h.interfaces k has);
}

right_known : (xs ys : List Entry) → KeepsKnown ys (xs ++ ys)
right_known xs ys x (k, i, has, label) = (k, i, has_right xs ys (k, i) has, label)

pub left_known : (xs ys : List Entry) → KeepsKnown xs (xs ++ ys)
left_known xs ys x (k, i, has, label) = (k, i, has_left xs ys (k, i) has, label)

right_labels : (xs ys : List Entry) (x : Name) (s : ItemSort) → HasLabel ys x s → HasLabel (xs ++ ys) x s
right_labels xs ys x s (i, (k, has, label), sort) = (i, (k, has_right xs ys (k, i) has, label), sort)

pub left_named : (xs ys : List Entry) (x : Name) (i : WorldItem) → HasNamed xs x i → HasNamed (xs ++ ys) x i
left_named xs ys x i (k, has, label) = (k, has_left xs ys (k, i) has, label)

left_labels : (xs ys : List Entry) (x : Name) (s : ItemSort) → HasLabel xs x s → HasLabel (xs ++ ys) x s
left_labels xs ys x s (i, named, sort) = (i, left_named xs ys x i named, sort)

-- what one of the included worlds brings, and a world has
pub record IsBrought (worlds : List World) (n : WorldInclude) (new_imports new_exports : List Entry) : Type 0 where
  pub included : World
  pub there : slice_get worlds n.id ≡ Some included
  pub imports : BringsSide n.names.items included.imports.entries new_imports
  pub exports : BringsSide n.names.items included.exports.entries new_exports

abbrev pub IsIncludedIn : List World → WorldInclude → World → Type 0
IsIncludedIn worlds n w = IsBrought worlds n w.imports.entries w.exports.entries

pub included_brings : (worlds : List World) (id : ℕ) (ns : List WorldInclude) (s t : JoinedState) → Includes worlds id ns s t → (n : WorldInclude) → Has ns n → IsBrought worlds n t.imports t.exports
included_brings worlds id _ s _ (includes_none _) n has = absurd (has_none n has)
included_brings worlds id _ s u (includes_one ns m _ t _ before (w, b, there, is, same)) n has = subst (λ (z : JoinedState). IsBrought worlds n z.imports z.exports) (sym same) (elim (either ns (m ∷ []) n has) as (λ _. IsBrought worlds n (with_brought t b).imports (with_brought t b).exports) [
  | inl was ↦ (
      let r = included_brings worlds id ns s t before n was in record {
        included = r.included;
        there = r.there;
        imports = brings_more n.names.items r.included.imports.entries t.imports _ r.imports (left_labels t.imports b.imports.items) (left_known t.imports b.imports.items);
        exports = brings_more n.names.items r.included.exports.entries t.exports _ r.exports (left_labels t.exports b.exports.items) (left_known t.exports b.exports.items);
      })
  | inr last ↦ subst (λ (x : WorldInclude). IsBrought worlds x (with_brought t b).imports (with_brought t b).exports) (sym (has_one m n last)) (record {
    included = w;
    there = there;
    imports = brings_more m.names.items w.imports.entries b.imports.items _ (brought m.names.items _ w.imports.entries b.imports.items is.brings.imports_are) (right_labels t.imports b.imports.items) (right_known t.imports b.imports.items);
    exports = brings_more m.names.items w.exports.entries b.exports.items _ (brought m.names.items _ w.exports.entries b.exports.items is.brings.exports_are) (right_labels t.exports b.exports.items) (right_known t.exports b.exports.items);
  })
])
