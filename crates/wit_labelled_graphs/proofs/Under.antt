-- Functions stand under plain names in what stays of a side, in what is brought, and in sides that are joined.
use Rattle.std.proofs.Common.{ℕ, Bool, List, [], ◌∷◌, map, sym, subst}
use Rattle.std.specs.List.{AllByRecursion as Each}
use Rattle.wit_types.specs.declared.world.IncludeName.{IncludeName}
use Rattle.wit_types.specs.declared.world.World.{World}
use Rattle.wit_types.specs.declared.world.WorldInclude.{WorldInclude}
use Rattle.wit_types.specs.declared.world.WorldItem.{WorldItem}
use Rattle.wit_types.specs.declared.world.WorldItem.TheVariants as item
use Rattle.wit_types.specs.declared.world_key.WorldKey.{WorldKey}
use Rattle.wit_types.specs.declared.world_key.WorldKey.TheVariants as key
use Rattle.wit_types.specs.WorldKey.{key_eq}
use Rattle.wit_features.specs.Features.{FeatureSet}
use Rattle.wit_moves.specs.Moved.{Places, to}
use Rattle.wit_moves.specs.Interfaces as kept
use Rattle.wit_moves.specs.Interfaces.{AreKept}
use Rattle.wit_moves.specs.Worlds as worlds
use Rattle.wit_moves.specs.Worlds.{IsMovedItem, moved_entry, IsMovedSide}
use Rattle.wit_copies.specs.Copies.{Copies, goes, AreCopiedEntries, no_entries, one_entry_more}
use Rattle.wit_copies.specs.Same as copy
use Rattle.wit_copies.specs.Same.{IsSameKey, IsSameItem}
use Rattle.wit_sides.specs.Renames as renamed
use Rattle.wit_sides.specs.Renames.{IsRenamedKey, IsRenamedItem, AreRenamed}
use Rattle.wit_sides.specs.Sides as side
use Rattle.wit_sides.specs.Sides.{AreUnited}
use Rattle.wit_labels.specs.Passed.wit_includes-Included.{copies_behind, AreIncludedEntries}
use Rattle.wit_labels.specs.Passed.wit_joined-Joined.{State, Includes, includes_none, includes_one, own_state, IsJoinedWorld}
use Rattle.wit_plans.specs.declared.moves.MovedWorld.{MovedWorld}
use Rattle.wit_types.specs.declared.interface.TypeDef.{TypeDef}
use Rattle.wit_labels.proofs.Every.{each_join, each_front, each_behind, each_at}
use Rattle.wit_graph.specs.Passed.wit_graph_worlds-Copies.{AreSameEntries}
use Rattle.wit_labelled_graphs.specs.Named.{IsNoFunction, IsUnderName, AreFunctionsUnderNames}

abbrev Entry : Type 0
Entry = WorldKey × WorldItem

-- ---- what stays

item_moved : (types interfaces : ℕ → ℕ) (a b : WorldItem) → IsMovedItem types interfaces a b → IsNoFunction a → IsNoFunction b
item_moved types interfaces _ _ (worlds.moved_interface id stability span) h = tt
item_moved types interfaces _ _ (worlds.moved_function f g is) h = h
item_moved types interfaces _ _ (worlds.moved_type id span) h = tt

of_item : (k : WorldKey) (a b : WorldItem) → (IsNoFunction a → IsNoFunction b) → IsUnderName (k, a) → IsUnderName (k, b)
of_item (key.Name x) a b also h = tt
of_item (key.Interface i) a b also h = also h

kept_under : (stays : WorldItem → Bool) (types interfaces : ℕ → ℕ) (es fs : List Entry) → AreKept stays (IsMovedItem types interfaces) es fs → AreFunctionsUnderNames es → AreFunctionsUnderNames fs
kept_under stays types interfaces _ _ kept.no_entries h = tt
kept_under stays types interfaces _ _ (kept.one_goes k v es fs out more) h = kept_under stays types interfaces es fs more h.1
kept_under stays types interfaces _ _ (kept.one_stays k v w es fs st is more) h = (of_item k v w (item_moved types interfaces v w is) h.0, kept_under stays types interfaces es fs more h.1)

keys_under : (interfaces : ℕ → ℕ) (es : List Entry) → AreFunctionsUnderNames es → AreFunctionsUnderNames (map (moved_entry interfaces) es)
keys_under interfaces [] h = tt
keys_under interfaces ((key.Name x, b) ∷ es) h = (tt, keys_under interfaces es h.1)
keys_under interfaces ((key.Interface i, b) ∷ es) h = (h.0, keys_under interfaces es h.1)

pub moved_under : (features : FeatureSet) (places interfaces : Places) (old new : List Entry) → IsMovedSide features places interfaces old new → AreFunctionsUnderNames old → AreFunctionsUnderNames new
moved_under features places interfaces old new (stay, items, is) h = subst AreFunctionsUnderNames (sym is) (keys_under (to interfaces) stay (kept_under _ (to places) (to interfaces) old stay items h))

-- ---- what says the same

item_same : (a b : WorldItem) → IsSameItem a b → IsNoFunction a → IsNoFunction b
item_same _ _ (copy.same_interface id s t span same) h = tt
item_same _ _ (copy.same_function f g same) h = h
item_same _ _ (copy.same_type id span) h = tt

of_key : (k l : WorldKey) (a b : WorldItem) → IsSameKey k l → (IsNoFunction a → IsNoFunction b) → IsUnderName (k, a) → IsUnderName (l, b)
of_key _ _ a b (copy.same_name x y e) also h = tt
of_key _ _ a b (copy.same_key_interface i) also h = also h

pub same_under : (es fs : List Entry) → AreSameEntries es fs → AreFunctionsUnderNames es → AreFunctionsUnderNames fs
same_under [] [] same h = tt
same_under [] (x ∷ fs) same h = absurd same
same_under (e ∷ es) [] same h = absurd same
same_under (e ∷ es) (x ∷ fs) same h = (of_key e.0 x.0 e.1 x.1 same.0.0 (item_same e.1 x.1 same.0.1) h.0, same_under es fs same.1 h.1)

-- ---- what is brought

copied_under : (c : Copies) (es fs : List Entry) → AreCopiedEntries c es fs → AreFunctionsUnderNames es → AreFunctionsUnderNames fs
copied_under c _ _ no_entries h = tt
copied_under c _ _ (one_entry_more k l i j es fs same (clone, as_it, is) more) h =
    (of_key k l i j same (λ none. item_moved (goes c) (λ (n : ℕ). n) clone j is (item_same i clone as_it none)) h.0, copied_under c es fs more h.1)

item_renamed : (names : List IncludeName) (a b : WorldItem) → IsRenamedItem names a b → IsNoFunction a → IsNoFunction b
item_renamed names (item.Function f) b h none = absurd none
item_renamed names (item.Interface id stability span) b h none = subst IsNoFunction (sym h) tt
item_renamed names (item.TypeItem id span) b h none = subst IsNoFunction (sym h) tt

entry_renamed : (names : List IncludeName) (k l : WorldKey) (a b : WorldItem) → IsRenamedKey names k l → (IsNoFunction a → IsNoFunction b) → IsUnderName (k, a) → IsUnderName (l, b)
entry_renamed names (key.Name x) l a b r also h = subst (λ (m : WorldKey). IsUnderName (m, b)) (sym r.1) tt
entry_renamed names (key.Interface i) l a b r also h = subst (λ (m : WorldKey). IsUnderName (m, b)) (sym r) (also h)

renamed_under : (names : List IncludeName) (es fs : List Entry) → AreRenamed names es fs → AreFunctionsUnderNames es → AreFunctionsUnderNames fs
renamed_under names _ _ renamed.no_entries h = tt
renamed_under names _ _ (renamed.one_more k l i j es fs new one more) h = (entry_renamed names k l i j new (item_renamed names i j one) h.0, renamed_under names es fs more h.1)

brought_under : (names : List IncludeName) (c : Copies) (es fs : List Entry) → AreIncludedEntries names c es fs → AreFunctionsUnderNames es → AreFunctionsUnderNames fs
brought_under names c es fs (copied, same, re) h = renamed_under names copied fs re (copied_under c es copied same h)

-- ---- joined

united_under : (es fs : List Entry) → AreUnited key_eq es fs → AreFunctionsUnderNames es → AreFunctionsUnderNames fs
united_under _ _ side.no_entries h = tt
united_under _ _ (side.first_of_its_key es fs e more new) h =
    each_join IsUnderName fs (e ∷ []) (united_under es fs more (each_front IsUnderName es (e ∷ []) h)) (each_behind IsUnderName es (e ∷ []) h)
united_under _ _ (side.key_again es fs e more again) h = united_under es fs more (each_front IsUnderName es (e ∷ []) h)

module _ (all : List World) (under : Each (λ (v : World). AreFunctionsUnderNames v.exports.entries) all) (id : ℕ) where
  includes_under : (ns : List WorldInclude) (s t : State) → Includes all id ns s t → AreFunctionsUnderNames s.exports → AreFunctionsUnderNames t.exports
  includes_under _ _ _ (includes_none s) h = h
  includes_under _ s u (includes_one ns n _ t _ before (w, b, at, is, same)) h =
      subst (λ (z : State). AreFunctionsUnderNames z.exports) (sym same)
      (each_join IsUnderName t.exports b.exports.items (includes_under ns s t before h)
      (brought_under n.names.items (copies_behind t.types is.own) w.exports.entries b.exports.items is.brings.exports_are (each_at (λ (v : World). AreFunctionsUnderNames v.exports.entries) all under n.id w at)))

  -- of a world with all that it includes
  pub joined_under : (owner : ℕ) (m : MovedWorld) (old new : List TypeDef) (w : World) → IsJoinedWorld all id owner m old new w → AreFunctionsUnderNames m.exports.items → AreFunctionsUnderNames w.exports.entries
  joined_under owner m old new w is h =
      let sides = is.sides in
      united_under sides.joined.exports w.exports.entries sides.exports_are.entries (includes_under m.includes.items (own_state old m) sides.joined sides.includes h)
