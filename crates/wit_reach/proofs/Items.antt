-- The types that a world imports or exports are of its items.
use Rattle.std.proofs.Common.{◌≡◌, ◌<◌, ℕ, inl, inr, List, [], ◌∷◌, ◌++◌, length, subst}
use Rattle.std.specs.Prelude.{flat_map, map}
use Rattle.wit_types.specs.declared.interface.TypeDef.{TypeDef}
use Rattle.wit_types.specs.declared.world.World.{World}
use Rattle.wit_types.specs.declared.world.WorldItem.{WorldItem}
use Rattle.wit_types.specs.declared.world.WorldItem.TheVariants as item
use Rattle.wit_types.specs.declared.world_key.WorldKey.{WorldKey}
use Rattle.wit_types.specs.Passed.wit_order-Order.{Has}
use Rattle.wit_types.proofs.Passed.wit_order-Lists.{has_was}
use Rattle.wit_reach.specs.Ids.{item_ids}
use Rattle.wit_reach.specs.Types.{AreTypesThere, AreSidesThere}
use Rattle.wit_reach.specs.Lists.{item_type, type_items, item_types}
use Rattle.wit_reach.proofs.Lists.{has_append, has_parts}

of_item : (x : WorldItem) (i : ℕ) → Has (item_type x) i → Has (item_ids x) i
of_item (item.Interface id stability span) i h = h
of_item (item.Function f) i h = absurd h
of_item (item.TypeItem id span) i h = h

of_items : (xs : List WorldItem) (i : ℕ) → Has (flat_map item_type xs) i → Has (flat_map item_ids xs) i
of_items [] i h = h
of_items (x ∷ xs) i h =
    elim (has_parts (item_type x) (flat_map item_type xs) i h) as (λ _. Has (item_ids x ++ flat_map item_ids xs) i) [
      | inl here ↦ has_was (item_ids x) (flat_map item_ids xs) i (of_item x i here)
      | inr later ↦ has_append (item_ids x) (flat_map item_ids xs) i (of_items xs i later)
    ]

-- and so they are there
pub types_there : (ds : List TypeDef) (world : World) (ids : List ℕ) → ids ≡ item_types world → AreSidesThere ds world → AreTypesThere ds ids
types_there ds world ids e there = λ i h.
    elim (has_parts (type_items world.imports.entries) (type_items world.exports.entries) i (subst (λ (l : List ℕ). Has l i) e h)) as (λ _. i < length ds) [
      | inl a ↦ there.0 i (of_items (map (λ (e : WorldKey × WorldItem). e.1) world.imports.entries) i a)
      | inr b ↦ there.1 i (of_items (map (λ (e : WorldKey × WorldItem). e.1) world.exports.entries) i b)
    ]
