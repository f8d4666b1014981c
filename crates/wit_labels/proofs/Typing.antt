-- Types that stand in a world are its own, and stand under their names, where that is moved, brought and joined.
use Rattle.std.proofs.Common.{◌≡◌, ℕ, zero, suc, ◌+◌, ◌<◌, Bool, true, false, List, [], ◌∷◌, ◌++◌, ◌⊎◌, inl, inr, length, Option, Some, None, String, map, refl, sym, subst, ap, ◌∙◌, append_assoc}
use Rattle.std.proofs.lemmas.Bool.{eq-eqb}
use Rattle.std.proofs.lemmas.Option.{same_Some, slice_get_within}
use Rattle.std.specs.Prelude.{slice_get, unwrap_or, option_map, string_bytes, nat_eq, if◌then◌else◌}
use Rattle.std.specs.List.{AllByRecursion as Each}
use Rattle.std.specs.declared.alloc.Global.{Global}
use Rattle.wit_order.specs.Order.{Has}
use Rattle.wit_joined.specs.Passed.wit_types-declared-function-Function.{Function}
use Rattle.wit_joined.specs.Passed.wit_types-declared-interface-Interface.{Interface}
use Rattle.wit_joined.specs.Passed.wit_types-declared-interface-TypeDef.{TypeDef}
use Rattle.wit_joined.specs.Passed.wit_types-declared-interface-TypeOwner.{TypeOwner}
use Rattle.wit_joined.specs.Passed.wit_types-declared-interface-TypeOwner-TheVariants as belongs
use Rattle.wit_joined.specs.Passed.wit_types-declared-world-IncludeName.{IncludeName}
use Rattle.wit_joined.specs.Passed.wit_types-declared-world-World.{World}
use Rattle.wit_joined.specs.Passed.wit_types-declared-world-WorldInclude.{WorldInclude}
use Rattle.wit_joined.specs.Passed.wit_types-declared-world-WorldItem.{WorldItem}
use Rattle.wit_joined.specs.Passed.wit_types-declared-world-WorldItem-TheVariants as item
use Rattle.wit_joined.specs.Passed.wit_types-declared-world_key-WorldKey.{WorldKey}
use Rattle.wit_joined.specs.Passed.wit_types-declared-world_key-WorldKey-TheVariants as key
use Rattle.wit_joined.specs.Passed.wit_types-WorldKey.{key_eq}
use Rattle.wit_joined.specs.Passed.wit_features-Features.{FeatureSet}
use Rattle.wit_joined.specs.Passed.wit_moves-Moved.{Places, place_of, is_placed, to}
use Rattle.wit_joined.specs.Passed.wit_moves-Plan.{OwnerPlaces, moved_owner}
use Rattle.wit_joined.specs.Passed.wit_moves-Interfaces as kept
use Rattle.wit_joined.specs.Passed.wit_moves-Interfaces.{AreKept}
use Rattle.wit_joined.specs.Passed.wit_moves-Worlds as worlds
use Rattle.wit_joined.specs.Passed.wit_moves-Worlds.{item_stays, IsMovedItem, moved_entry}
use Rattle.wit_placed.proofs.Passed.wit_moved_trees-Moving.{placed_some}
use Rattle.wit_joined.specs.Passed.wit_finding-Types.{type_found}
use Rattle.wit_joined.specs.Passed.wit_plans-Checks.{Standing}
use Rattle.wit_placed.specs.Order.{AreBehind}
use Rattle.wit_placed.proofs.Holding.{found, get_behind}
use Rattle.wit_placed.proofs.Sources.{all_sources, AreSources}
use Rattle.wit_joined.specs.Passed.wit_reach-Ids.{item_ids, side_ids}
use Rattle.wit_joined.specs.Passed.wit_reach-Types.{is_local}
use Rattle.wit_joined.proofs.Passed.wit_arena-Lists.{get_kept}
use Rattle.wit_joined.specs.Passed.wit_copies-Copies.{Copies, goes, copied_owner, IsCopiedDef, AreCopied, no_types, one_more, AreCopiedEntries, no_entries, one_entry_more}
use Rattle.wit_joined.specs.Passed.wit_copies-Same as copy
use Rattle.wit_joined.specs.Passed.wit_copies-Same.{text_of, IsSameKey, IsSameItem}
use Rattle.wit_joined.proofs.Passed.wit_copied_trees-Members.{has_place, goes_own}
use Rattle.wit_joined.specs.Passed.wit_sides-Renames as renamed
use Rattle.wit_joined.specs.Passed.wit_sides-Renames.{IsRenamed, IsRenamedKey, IsRenamedItem, AreRenamed}
use Rattle.wit_joined.specs.Passed.wit_sides-Sides as side
use Rattle.wit_joined.specs.Passed.wit_sides-Sides.{AreUnited}
use Rattle.wit_joined.specs.Passed.wit_includes-Included as brings
use Rattle.wit_joined.specs.Passed.wit_includes-Included.{is_of_world, IsRenamedName, IsRenamedDef, AreRenamedDefs, copies_behind, IsIncluded}
use Rattle.wit_joined.specs.Passed.wit_includes-declared-worlds-Included.{Included}
use Rattle.wit_joined.specs.Joined.{State, Includes, includes_none, includes_one}
use Rattle.wit_labels.specs.Types.{IsOwnType, IsOwnItem, IsOwnEntry, HasOwnTypes, OwnTypesStay, MovedSidesHaveOwnTypes, BroughtSidesHaveOwnTypes, JoinedSidesHaveOwnTypes}
use Rattle.wit_labels.proofs.Every.{each_join, each_front, each_behind}
use Rattle.wit_labels.proofs.Renaming.{renamed_one}

abbrev Entry : Type 0
Entry = WorldKey × WorldItem

-- ---- more types

type_stays : (types more : List TypeDef) (w : ℕ) (x : String Global) (id : ℕ) → IsOwnType types w x id → IsOwnType (types ++ more) w x id
type_stays types more w x id h = record { def = h.def; there = get_kept types more id h.def h.there; name = h.name; owner = h.owner }

entry_stays : (types more : List TypeDef) (w : ℕ) (k : WorldKey) (b : WorldItem) → IsOwnEntry types w (k, b) → IsOwnEntry (types ++ more) w (k, b)
entry_stays types more w (key.Name x) (item.Interface id stability span) h = tt
entry_stays types more w (key.Name x) (item.Function f) h = tt
entry_stays types more w (key.Name x) (item.TypeItem id span) h = type_stays types more w x id h
entry_stays types more w (key.Interface i) b h = tt

pub own_stay : OwnTypesStay
own_stay types more w [] h = tt
own_stay types more w (e ∷ es) h = (entry_stays types more w e.0 e.1 h.0, own_stay types more w es h.1)

-- ---- what stays of a side

stands_at : (places : Places) (i j : ℕ) → place_of places i ≡ Some j → to places i ≡ j
stands_at places i j h = ap (λ (o : Option ℕ). unwrap_or o i) h

module _ (types new : List TypeDef) (v w : ℕ) (features : FeatureSet) (places interfaces : Places) (type_goes : (x : String Global) (i j : ℕ) → place_of places i ≡ Some j → IsOwnType types v x i → IsOwnType new w x j) where
  item_goes : (x : String Global) (a b : WorldItem) → item_stays features places a ≡ true → IsMovedItem (to places) (to interfaces) a b → IsOwnItem types v x a → IsOwnItem new w x b
  item_goes x _ _ st (worlds.moved_interface id stability span) h = tt
  item_goes x _ _ st (worlds.moved_function f g is) h = tt
  item_goes x _ _ st (worlds.moved_type id span) h =
      let p = placed_some (place_of places id) st in
      subst (IsOwnType new w x) (sym (stands_at places id p.0 p.1)) (type_goes x id p.0 p.1 h)

  entry_goes : (k : WorldKey) (a b : WorldItem) → item_stays features places a ≡ true → IsMovedItem (to places) (to interfaces) a b → IsOwnEntry types v (k, a) → IsOwnEntry new w (k, b)
  entry_goes (key.Name x) a b st is h = item_goes x a b st is h
  entry_goes (key.Interface i) a b st is h = tt

  side_goes : (es fs : List Entry) → AreKept (item_stays features places) (IsMovedItem (to places) (to interfaces)) es fs → HasOwnTypes types v es → HasOwnTypes new w fs
  side_goes _ _ kept.no_entries h = tt
  side_goes _ _ (kept.one_goes k a es fs out more) h = side_goes es fs more h.1
  side_goes _ _ (kept.one_stays k a b es fs st is more) h = (entry_goes k a b st is h.0, side_goes es fs more h.1)

keys_go : (types : List TypeDef) (w : ℕ) (interfaces : ℕ → ℕ) (es : List Entry) → HasOwnTypes types w es → HasOwnTypes types w (map (moved_entry interfaces) es)
keys_go types w interfaces [] h = tt
keys_go types w interfaces ((key.Name x, b) ∷ es) h = (h.0, keys_go types w interfaces es h.1)
keys_go types w interfaces ((key.Interface i, b) ∷ es) h = (tt, keys_go types w interfaces es h.1)

pub moved_own : MovedSidesHaveOwnTypes
moved_own features owners s owner foreign own graph fs others own_interfaces new_interfaces interfaces others_interfaces b others_are v w old new world_goes (stay, items, is) h =
    subst (HasOwnTypes (graph ++ fs) w) (sym is) (keys_go (graph ++ fs) w (to s.interfaces) stay (side_goes (foreign ++ own) (graph ++ fs) v w features s.types s.interfaces goes_on old stay items h))
  where
    sources : AreSources features owners others s.types graph own b.nameless b.placed own fs s.types
    sources = all_sources features owners others s.types graph own b.nameless b.placed fs b.are_moved

    goes_on : (x : String Global) (i j : ℕ) → place_of s.types i ≡ Some j → IsOwnType (foreign ++ own) v x i → IsOwnType (graph ++ fs) w x j
    goes_on x i j p t = elim (sources.sources i j p) as (λ _. IsOwnType (graph ++ fs) w x j) [
      | inl other ↦ absurd (
          let f = found interfaces others_interfaces foreign i j (subst (λ (ps : Places). place_of ps i ≡ Some j) others_are other) in
          let one : f.0 ≡ t.def = same_Some f.0 t.def (sym (get_kept foreign own i f.0 f.1) ∙ t.there) in
          let e : belongs.Interface f.2.interface ≡ belongs.World v = sym f.2.owner_is ∙ ap (λ (d : TypeDef). d.owner) one ∙ t.owner in
          cc)
      | inr f ↦
          let was : slice_get (foreign ++ own) i ≡ Some f.old = subst (λ (n : ℕ). slice_get (foreign ++ own) n ≡ Some f.old) (ap (λ (n : ℕ). n + f.place) (sym b.so_many) ∙ sym f.index) (get_behind foreign own f.place ∙ f.was) in
          let one : f.old ≡ t.def = same_Some f.old t.def (sym was ∙ t.there) in
          let belongs_to : f.old.owner ≡ belongs.World v = ap (λ (d : TypeDef). d.owner) one ∙ t.owner in
          let goes_there : to owners.worlds v ≡ w = stands_at owners.worlds v w world_goes in
          record {
            def = f.new;
            there = f.is;
            name = ap (option_map string_bytes) f.moved.name ∙ ap (λ (d : TypeDef). option_map string_bytes d.name) one ∙ t.name;
            owner = f.moved.owner_is ∙ ap (moved_owner owners) belongs_to ∙ ap (λ (n : ℕ). belongs.World n) goes_there;
          }
    ]

-- ---- what is brought

copied_at : (c : Copies) (from into : ℕ) (types : List TypeDef) (ids : List ℕ) (copied : List TypeDef) → AreCopied c from into types ids copied → (k i : ℕ) → slice_get ids k ≡ Some i
    → (d : TypeDef) × (e : TypeDef) × (slice_get types i ≡ Some d) × (slice_get copied k ≡ Some e) × IsCopiedDef c from into d e
copied_at c from into types _ _ no_types k i at = absurd cc
copied_at c from into types _ _ (one_more i0 d e is es at_d one more) zero i at = (d, e, subst (λ (n : ℕ). slice_get types n ≡ Some d) (same_Some i0 i at) at_d, refl, one)
copied_at c from into types _ _ (one_more i0 d e is es at_d one more) (suc k) i at = copied_at c from into types is es more k i at

renamed_at : (names : List IncludeName) (w : ℕ) (ds es : List TypeDef) → AreRenamedDefs names w ds es → (k : ℕ) (d : TypeDef) → slice_get ds k ≡ Some d → (e : TypeDef) × (slice_get es k ≡ Some e) × IsRenamedDef names w d e
renamed_at names w _ _ brings.no_types k d at = absurd cc
renamed_at names w _ _ (brings.one_more x y xs ys one more) zero d at = (y, refl, subst (λ (z : TypeDef). IsRenamedDef names w z y) (same_Some x d at) one)
renamed_at names w _ _ (brings.one_more x y xs ys one more) (suc k) d at = renamed_at names w xs ys more k d at

front_ids : (a b : List ℕ) (i : ℕ) → Has a i → Has (a ++ b) i
front_ids [] b i h = absurd h
front_ids (x ∷ a) b i (inl here) = inl here
front_ids (x ∷ a) b i (inr later) = inr (front_ids a b i later)

behind_ids : (a b : List ℕ) (i : ℕ) → Has b i → Has (a ++ b) i
behind_ids [] b i h = h
behind_ids (x ∷ a) b i h = inr (behind_ids a b i h)

-- a type of the world gets the name that its key gets
name_changes : (names : List IncludeName) (old : TypeDef) (n : Option (String Global)) (b : Bool) (new : TypeDef) (x to : String Global) → b ≡ true → IsRenamedName names b old n new → option_map string_bytes n ≡ Some (string_bytes x)
    → IsRenamed names (string_bytes x) (string_bytes to) → (option_map string_bytes new.name ≡ Some (string_bytes to)) × (new.owner ≡ old.owner)
name_changes names old (Some z) true new x to t (y, changed, is) named r =
    let texts : string_bytes z ≡ string_bytes x = same_Some (string_bytes z) (string_bytes x) named in
    (ap (λ (d : TypeDef). option_map string_bytes d.name) is ∙ ap (λ (text : List ℕ). Some text) (renamed_one names (string_bytes z) (string_bytes x) (string_bytes y) (string_bytes to) texts changed r), ap (λ (d : TypeDef). d.owner) is)
name_changes names old None true new x to t h named r = absurd cc
name_changes names old n false new x to t h named r = absurd cc

into_world : (from into : ℕ) → copied_owner from into (belongs.World from) ≡ belongs.World into
into_world from into = ap (λ (b : Bool). belongs.World (if b then into else from)) (eq-eqb from from refl)

module _ (names : List IncludeName) (from into : ℕ) (types : List TypeDef) (world : World) (b : Included) (is : IsIncluded names from into types world b) where
  abbrev c : Copies
  c = copies_behind types is.own

  type_brought : (x to : String Global) (i : ℕ) → Has (side_ids world.imports.entries) i → IsRenamed names (string_bytes x) (string_bytes to) → IsOwnType types from x i → IsOwnType (types ++ b.types.items) into to (goes c i)
  type_brought x to i has r t =
      let local : is_local from t.def.owner ≡ true = subst (λ (o : TypeOwner). is_local from o ≡ true) (sym t.owner) (eq-eqb from from refl) in
      let listed = is.are_own.all i i (inl has, (t.def, t.there, local)) ([], refl) in
      let k = has_place is.own i listed in
      let types_are = is.brings.types_are in
      let e = copied_at c from into types is.own types_are.0 types_are.1 k.0 i k.1 in
      let n = renamed_at names into types_are.0 b.types.items types_are.2 k.0 e.1 e.3 in
      let one : e.0 ≡ t.def = same_Some e.0 t.def (sym e.2 ∙ t.there) in
      let clone = e.4.0 in
      let owner : e.1.owner ≡ belongs.World into = e.4.2.owner_is ∙ ap (λ (d : TypeDef). copied_owner from into d.owner) one ∙ ap (copied_owner from into) t.owner ∙ into_world from into in
      let name : option_map string_bytes e.1.name ≡ Some (string_bytes x) = ap (option_map string_bytes) e.4.2.name ∙ e.4.1.name ∙ ap (λ (d : TypeDef). option_map string_bytes d.name) one ∙ t.name in
      let of : is_of_world into e.1.owner ≡ true = ap (is_of_world into) owner ∙ eq-eqb into into refl in
      let changed = name_changes names e.1 e.1.name (is_of_world into e.1.owner) n.0 x to of n.2 name r in
      record {
        def = n.0;
        there = ap (slice_get (types ++ b.types.items)) (goes_own types is.own k.0 i is.are_own.rising k.1) ∙ get_behind types b.types.items k.0 ∙ n.1;
        name = changed.0;
        owner = changed.1 ∙ owner;
      }

  -- an entry that is brought, from the one that it was
  item_brought : (x y : String Global) (a d k z : WorldItem) → ((i : ℕ) → Has (item_ids a) i → Has (side_ids world.imports.entries) i) → IsSameItem a d → IsMovedItem (goes c) (λ (n : ℕ). n) d k → IsRenamedItem names k z
      → IsRenamed names (string_bytes x) (string_bytes y) → IsOwnItem types from x a → IsOwnItem (types ++ b.types.items) into y z
  item_brought x y _ _ _ z among (copy.same_interface id s t span _) (worlds.moved_interface _ _ _) h r t0 = subst (IsOwnItem (types ++ b.types.items) into y) (sym h) tt
  item_brought x y _ _ _ z among (copy.same_function f g same) (worlds.moved_function _ k moved) h r t0 = subst (IsOwnItem (types ++ b.types.items) into y) (sym h.1) tt
  item_brought x y _ _ _ z among (copy.same_type id span) (worlds.moved_type _ _) h r t0 = subst (IsOwnItem (types ++ b.types.items) into y) (sym h) (type_brought x y id (among id (inl refl)) r t0)

  entry_brought : (k l : WorldKey) (m : WorldKey) (a d j z : WorldItem) → ((i : ℕ) → Has (item_ids a) i → Has (side_ids world.imports.entries) i) → IsSameKey k l → IsSameItem a d → IsMovedItem (goes c) (λ (n : ℕ). n) d j
      → IsRenamedKey names l m → IsRenamedItem names j z → IsOwnEntry types from (k, a) → IsOwnEntry (types ++ b.types.items) into (m, z)
  entry_brought _ _ m a d j z among (copy.same_name x y e) same moved r h own =
      subst (λ (n : WorldKey). IsOwnEntry (types ++ b.types.items) into (n, z)) (sym r.1)
      (item_brought x r.0 a d j z among same moved h (subst (λ (text : List ℕ). IsRenamed names text (string_bytes r.0)) e r.2) own)
  entry_brought _ _ m a d j z among (copy.same_key_interface i) same moved r h own = subst (λ (n : WorldKey). IsOwnEntry (types ++ b.types.items) into (n, z)) (sym r) tt

  side_brought : (es fs gs : List Entry) → ((i : ℕ) → Has (side_ids es) i → Has (side_ids world.imports.entries) i) → AreCopiedEntries c es fs → AreRenamed names fs gs → HasOwnTypes types from es → HasOwnTypes (types ++ b.types.items) into gs
  side_brought _ _ _ among no_entries renamed.no_entries h = tt
  side_brought _ _ _ among (one_entry_more k l a j es fs same (clone, as_it, moved) more) (renamed.one_more _ m _ z _ gs new one later) h = (
    entry_brought k l m a clone j z (λ i has. among i (front_ids (item_ids a) (side_ids es) i has)) same as_it moved new one h.0,
    side_brought es fs gs (λ i has. among i (behind_ids (item_ids a) (side_ids es) i has)) more later h.1,
  )

pub brought_own : BroughtSidesHaveOwnTypes
brought_own names from into types world b is h =
    let x = is.brings.imports_are in
    side_brought names from into types world b is world.imports.entries x.0 b.imports.items (λ i has. has) x.1 x.2 h

-- ---- joined

side_united : (types : List TypeDef) (w : ℕ) (es fs : List Entry) → AreUnited key_eq es fs → HasOwnTypes types w es → HasOwnTypes types w fs
side_united types w _ _ side.no_entries h = tt
side_united types w _ _ (side.first_of_its_key es fs e more new) h =
    each_join (IsOwnEntry types w) fs (e ∷ []) (side_united types w es fs more (each_front (IsOwnEntry types w) es (e ∷ []) h)) (each_behind (IsOwnEntry types w) es (e ∷ []) h)
side_united types w _ _ (side.key_again es fs e more again) h = side_united types w es fs more (each_front (IsOwnEntry types w) es (e ∷ []) h)

record IsSoFar (all : List World) (id : ℕ) (s : State) : Type 0 where
  own : HasOwnTypes s.types id s.imports
  others : (i : ℕ) (v : World) → slice_get all i ≡ Some v → HasOwnTypes s.types i v.imports.entries

includes_own : (all : List World) (id : ℕ) (ns : List WorldInclude) (s t : State) → Includes all id ns s t → IsSoFar all id s → IsSoFar all id t
includes_own all id _ _ _ (includes_none s) h = h
includes_own all id _ s u (includes_one ns n _ t _ before (w, b, at, is, same)) h =
    let far = includes_own all id ns s t before h in
    subst (IsSoFar all id) (sym same) (record {
      own =
          each_join (IsOwnEntry (t.types ++ b.types.items) id) t.imports b.imports.items (own_stay t.types b.types.items id t.imports far.own)
          (brought_own n.names.items n.id id t.types w b is (far.others n.id w at));
      others = λ i v at_v. own_stay t.types b.types.items i v.imports.entries (far.others i v at_v);
    })

pub joined_own : JoinedSidesHaveOwnTypes
joined_own all id owner m old new w is others own =
    let s = is.sides in
    let far = includes_own all id m.includes.items _ s.joined s.includes (record { own = own; others = others }) in
    subst (λ (types : List TypeDef). HasOwnTypes types id w.imports.entries) (sym s.types_are) (side_united s.joined.types id s.joined.imports w.imports.entries s.imports_are.entries far.own)
