-- What stays of a side of a world was there.
use Rattle.std.proofs.Common.{◌≡◌, ℕ, true, List, [], ◌∷◌, ◌++◌, inl, inr, Some, map, refl, sym, subst}
use Rattle.wit_order.specs.Order.{Has}
use Rattle.wit_order.proofs.Lists.{has_was}
use Rattle.wit_types.specs.declared.world.WorldItem.{WorldItem}
use Rattle.wit_types.specs.declared.world_key.WorldKey.{WorldKey}
use Rattle.wit_types.specs.declared.world_key.WorldKey.TheVariants as key
use Rattle.wit_types.specs.World.{span_of}
use Rattle.wit_features.specs.Features.{FeatureSet}
use Rattle.wit_moves.specs.Breaks.{IsKept}
use Rattle.wit_moves.specs.Moved.{Places, place_of, to}
use Rattle.wit_moves.specs.Interfaces.{no_entries, one_goes, one_stays}
use Rattle.wit_moves.specs.Worlds.{item_stays, is_item_placed, IsMovedItem, moved_interface, moved_function, moved_type, moved_entry, AreMovedItems, IsMovedSide, SideBreaks}
use Rattle.wit_reach.specs.Lists.{item_type, type_items, listed, listed_in}
use Rattle.wit_reach.proofs.Lists.{has_append, has_parts}
use Rattle.wit_labels.proofs.Passed.wit_placed-Holding.{goes_to}
use Rattle.wit_labels.proofs.Passed.wit_placed-Members.{has_at}
use Rattle.wit_labels.proofs.Passed.wit_placed-Sides.{holds}

abbrev pub Entry : Type 0
Entry = WorldKey × WorldItem

-- one of a list goes there
pub record Came (places : Places) (ids : List ℕ) (j : ℕ) : Type 0 where
  pub id : ℕ
  pub has : Has ids id
  pub goes : place_of places id ≡ Some j

came_here : (places : Places) (ids more : List ℕ) (j : ℕ) → Came places ids j → Came places (ids ++ more) j
came_here places ids more j c = record { id = c.id; has = has_was ids more c.id c.has; goes = c.goes }

came_on : (places : Places) (ids more : List ℕ) (j : ℕ) → Came places more j → Came places (ids ++ more) j
came_on places ids more j c = record { id = c.id; has = has_append ids more c.id c.has; goes = c.goes }

module _ (features : FeatureSet) (places interfaces : Places) where
  -- ---- types

  type_came : (v w : WorldItem) → item_stays features places v ≡ true → IsMovedItem (to places) (to interfaces) v w → (j : ℕ) → Has (item_type w) j → Came places (item_type v) j
  type_came _ _ st (moved_interface id stability span) j h = absurd h
  type_came _ _ st (moved_function f g m) j h = absurd h
  type_came _ _ st (moved_type id span) j h = elim h as (λ _. Came places (id ∷ []) j) [
    | inl here ↦ record { id = id; has = inl refl; goes = goes_to places id j st (sym here) }
    | inr none ↦ absurd none
  ]

  types_came : (old kept : List Entry) → AreMovedItems features places interfaces old kept → (j : ℕ) → Has (type_items (map (moved_entry (to interfaces)) kept)) j → Came places (type_items old) j
  types_came _ _ no_entries j h = absurd h
  types_came _ _ (one_goes k v es fs st rest) j h = came_on places (item_type v) (type_items es) j (types_came es fs rest j h)
  types_came _ _ (one_stays k v w es fs st m rest) j h = elim (has_parts (item_type w) (type_items (map (moved_entry (to interfaces)) fs)) j h) as (λ _. Came places (type_items ((k, v) ∷ es)) j) [
    | inl here ↦ came_here places (item_type v) (type_items es) j (type_came v w st m j here)
    | inr later ↦ came_on places (item_type v) (type_items es) j (types_came es fs rest j later)
  ]

  pub side_types_came : (old new : List Entry) → IsMovedSide features places interfaces old new → (j : ℕ) → Has (type_items new) j → Came places (type_items old) j
  side_types_came old new moved j h = types_came old moved.0 moved.1 j (subst (λ (es : List Entry). Has (type_items es) j) moved.2 h)

  -- ---- interfaces under their own names

  listed_came : (k : WorldKey) (v w : WorldItem) → is_item_placed places interfaces v ≡ true → IsMovedItem (to places) (to interfaces) v w → (j : ℕ) → Has (listed (moved_entry (to interfaces) (k, w))) j → Came interfaces (listed (k, v)) j
  listed_came (key.Name x) v w placed m j h = absurd h
  listed_came (key.Interface x) _ _ placed (moved_interface id stability span) j h = elim h as (λ _. Came interfaces (id ∷ []) j) [
    | inl here ↦ record { id = id; has = inl refl; goes = goes_to interfaces id j placed (sym here) }
    | inr none ↦ absurd none
  ]
  listed_came (key.Interface x) _ _ placed (moved_function f g m) j h = absurd h
  listed_came (key.Interface x) _ _ placed (moved_type id span) j h = absurd h

  all_listed_came : (old kept : List Entry) → ((e : Entry) → Has old e → item_stays features places e.1 ≡ true → is_item_placed places interfaces e.1 ≡ true) → AreMovedItems features places interfaces old kept
      → (j : ℕ) → Has (listed_in (map (moved_entry (to interfaces)) kept)) j → Came interfaces (listed_in old) j
  all_listed_came _ _ all no_entries j h = absurd h
  all_listed_came _ _ all (one_goes k v es fs st rest) j h = came_on interfaces (listed (k, v)) (listed_in es) j (all_listed_came es fs (λ e x. all e (inr x)) rest j h)
  all_listed_came _ _ all (one_stays k v w es fs st m rest) j h =
      elim (has_parts (listed (moved_entry (to interfaces) (k, w))) (listed_in (map (moved_entry (to interfaces)) fs)) j h) as (λ _. Came interfaces (listed_in ((k, v) ∷ es)) j) [
        | inl here ↦ came_here interfaces (listed (k, v)) (listed_in es) j (listed_came k v w (all (k, v) (inl refl) st) m j here)
        | inr later ↦ came_on interfaces (listed (k, v)) (listed_in es) j (all_listed_came es fs (λ e x. all e (inr x)) rest j later)
      ]

  pub side_listed_came : (old new : List Entry) → IsKept (SideBreaks features places interfaces old) → IsMovedSide features places interfaces old new → (j : ℕ) → Has (listed_in new) j → Came interfaces (listed_in old) j
  side_listed_came old new kept moved j h =
      all_listed_came old moved.0 (λ e has st. holds (is_item_placed places interfaces e.1) (λ u. (let r = has_at old e has in kept (span_of e.1) (record { place = r.0; one = e; there = r.1; stays = st; unplaced = u; stands = refl })))) moved.1 j
      (subst (λ (es : List Entry). Has (listed_in es) j) moved.2 h)
