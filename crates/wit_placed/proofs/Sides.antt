-- What interfaces and worlds hold, moved.
use Rattle.std.proofs.Common.{◌≡◌, ℕ, ◌<◌, Bool, true, false, List, [], ◌∷◌, inl, inr, Option, String, refl, sym, subst, ap, ◌∙◌, length, map}
use Rattle.std.proofs.lemmas.Bool.{and_parts}
use Rattle.std.specs.Prelude.{unwrap_or}
use Rattle.std.specs.declared.alloc.Global.{Global}
use Rattle.wit_plans.specs.Passed.wit_order-Order.{Has}
use Rattle.wit_plans.specs.Passed.wit_types-declared-interface-TypeDef.{TypeDef}
use Rattle.wit_plans.specs.Passed.wit_types-declared-function-Function.{Function}
use Rattle.wit_plans.specs.Passed.wit_types-declared-world-WorldItem.{WorldItem}
use Rattle.wit_plans.specs.Passed.wit_types-declared-world_key-WorldKey.{WorldKey}
use Rattle.wit_plans.specs.Passed.wit_types-declared-world_key-WorldKey-TheVariants as key
use Rattle.wit_plans.specs.Passed.wit_types-World.{span_of}
use Rattle.wit_plans.specs.Passed.wit_features-Features.{FeatureSet, stays as gate_stays}
use Rattle.wit_moved_trees.specs.Passed.wit_moves-Breaks.{IsKept}
use Rattle.wit_moved_trees.specs.Passed.wit_moves-Moved.{Places, place_of, is_placed, to, resource_of, is_resource_placed, is_signature_placed, IsMovedFunction}
use Rattle.wit_moved_trees.specs.Passed.wit_moves-Interfaces.{no_entries, one_goes, one_stays, AreMovedNames, AreMovedFunctions, function_stays, FunctionsBreak}
use Rattle.wit_moved_trees.specs.Passed.wit_moves-Worlds.{item_stays, is_item_placed, IsMovedItem, moved_interface, moved_function, moved_type, moved_entry, AreMovedItems, IsMovedSide, SideBreaks}
use Rattle.wit_moved_trees.specs.Passed.wit_reach-Ids.{function_ids, item_ids, side_ids}
use Rattle.wit_moved_trees.specs.Passed.wit_reach-Types.{AreTypesThere}
use Rattle.wit_moved_trees.specs.Passed.wit_reach-Lists.{item_interface, interfaces_of}
use Rattle.wit_moved_trees.proofs.Passed.wit_reach-Lists.{has_parts}
use Rattle.wit_elaborated.specs.Worlds.{IsKeyOfItem, AreKeysOfItems}
use Rattle.wit_moved_trees.proofs.Moving.{either, placed_some}
use Rattle.wit_moved_trees.proofs.Parts.{function_from, function_placed}
use Rattle.wit_moved_trees.proofs.Earlier.{moved_below, id_below}
use Rattle.wit_placed.specs.There.{AreBelow, IsSideThere}
use Rattle.wit_placed.proofs.Members.{has_at}

-- what has a place is moved below
pub to_below : (n : ℕ) (places : Places) → AreBelow n places → (i : ℕ) → is_placed places i ≡ true → to places i < n
to_below n places within i p =
    let j = placed_some (place_of places i) p in
    subst (λ (k : ℕ). k < n) (sym (ap (λ (o : Option ℕ). unwrap_or o i) j.1)) (within i j.0 j.1)

-- what isn't false is true
pub holds : (b : Bool) → (b ≡ false → ⊥) → b ≡ true
holds b never = elim (either b) as (λ _. b ≡ true) [ inl is ↦ is | inr isnt ↦ absurd (never isnt) ]

-- a function that stays takes and gives what stands somewhere
pub signature_placed : (features : FeatureSet) (places : Places) (old : List (String Global × Function)) → IsKept (FunctionsBreak features places old) → (e : String Global × Function) → Has old e → function_stays features places e.1 ≡ true
    → is_signature_placed places e.1.params.items e.1.result ≡ true
signature_placed features places old kept e h s = holds (is_signature_placed places e.1.params.items e.1.result)
    (λ u. let r = has_at old e h in kept e.1.span (record { place = r.0; one = e; there = r.1; stays = s; unplaced = u; stands = refl }))

module _ (features : FeatureSet) (places : Places) (types : List TypeDef) (within : AreBelow (length types) places) where
  below : (i : ℕ) → is_placed places i ≡ true → to places i < length types
  below = to_below (length types) places within

  -- ---- functions

  function_below : (f g : Function) → function_stays features places f ≡ true → is_signature_placed places f.params.items f.result ≡ true → IsMovedFunction (to places) f g → AreTypesThere types (function_ids g)
  function_below f g s p m = λ j h.
      let q = and_parts (gate_stays features f.stability) (is_resource_placed places (resource_of f.kind)) s in
      moved_below places (to places) (length types) below (function_ids f) (function_placed places f q.1 p) j (function_from (to places) f g j m h)

  -- those of an interface
  functions_below : (old new : List (String Global × Function))
      → ((e : String Global × Function) → Has old e → function_stays features places e.1 ≡ true → is_signature_placed places e.1.params.items e.1.result ≡ true)
      → AreMovedFunctions features places old new → (f : Function) → Has (map (λ (e : String Global × Function). e.1) new) f → AreTypesThere types (function_ids f)
  functions_below _ _ all no_entries f h = absurd h
  functions_below _ _ all (one_goes k v es fs s rest) f h = functions_below es fs (λ e x. all e (inr x)) rest f h
  functions_below _ _ all (one_stays k v w es fs s m rest) f h =
      elim h as (λ _. AreTypesThere types (function_ids f)) [
        | inl here ↦ subst (λ (x : Function). AreTypesThere types (function_ids x)) (sym here) (function_below v w s (all (k, v) (inl refl) s) m)
        | inr later ↦ functions_below es fs (λ e x. all e (inr x)) rest f later
      ]

  pub kept_functions : (old new : List (String Global × Function)) → IsKept (FunctionsBreak features places old)
      → AreMovedFunctions features places old new → (f : Function) → Has (map (λ (e : String Global × Function). e.1) new) f → AreTypesThere types (function_ids f)
  kept_functions old new kept moved = functions_below old new (signature_placed features places old kept) moved

  pub names_below : (old new : List (String Global × ℕ)) → AreMovedNames places old new → AreTypesThere types (map (λ (e : String Global × ℕ). e.1) new)
  names_below _ _ no_entries = λ j h. absurd h
  names_below _ _ (one_goes k v es fs s rest) = names_below es fs rest
  names_below _ _ (one_stays k v w es fs s m rest) = λ j h.
      elim h as (λ _. j < length types) [
        | inl here ↦ subst (λ (i : ℕ). i < length types) (sym (here ∙ m)) (below v s)
        | inr later ↦ names_below es fs rest j later
      ]

  -- ---- sides of worlds

  module _ (interfaces : Places) (n : ℕ) (among : AreBelow n interfaces) where
    item_below : (v w : WorldItem) → item_stays features places v ≡ true → is_item_placed places interfaces v ≡ true → IsMovedItem (to places) (to interfaces) v w → AreTypesThere types (item_ids w)
    item_below _ _ s p (moved_interface id stability span) = λ j h. absurd h
    item_below _ _ s p (moved_function f g m) = function_below f g s p m
    item_below _ _ s p (moved_type id span) = λ j h. id_below places (to places) (length types) below id j p h

    item_among : (v w : WorldItem) → is_item_placed places interfaces v ≡ true → IsMovedItem (to places) (to interfaces) v w → (i : ℕ) → Has (item_interface w) i → i < n
    item_among _ _ p (moved_interface id stability span) i h = id_below interfaces (to interfaces) n (to_below n interfaces among) id i p h
    item_among _ _ p (moved_function f g m) i h = absurd h
    item_among _ _ p (moved_type id span) i h = absurd h

    items_there : (old kept : List (WorldKey × WorldItem)) → ((e : WorldKey × WorldItem) → Has old e → item_stays features places e.1 ≡ true → is_item_placed places interfaces e.1 ≡ true)
        → AreMovedItems features places interfaces old kept → IsSideThere types n (map (moved_entry (to interfaces)) kept)
    items_there _ _ all no_entries = record { types_are = λ j h. absurd h; interfaces_are = λ i h. absurd h }
    items_there _ _ all (one_goes k v es fs s rest) = items_there es fs (λ e x. all e (inr x)) rest
    items_there _ _ all (one_stays k v w es fs s m rest) =
        let p = all (k, v) (inl refl) s in
        let r = items_there es fs (λ e x. all e (inr x)) rest in
        record {
          types_are = λ j h. elim (has_parts (item_ids w) (side_ids (map (moved_entry (to interfaces)) fs)) j h) as (λ _. j < length types) [ inl a ↦ item_below v w s p m j a | inr b ↦ r.types_are j b ];
          interfaces_are = λ i h. elim (has_parts (item_interface w) (interfaces_of (map (moved_entry (to interfaces)) fs)) i h) as (λ _. i < n) [ inl a ↦ item_among v w p m i a | inr b ↦ r.interfaces_are i b ];
        }

    pub side_there : (old new : List (WorldKey × WorldItem)) → IsKept (SideBreaks features places interfaces old) → IsMovedSide features places interfaces old new → IsSideThere types n new
    side_there old new kept moved =
        subst (IsSideThere types n) (sym moved.2) (items_there old moved.0 (λ e h s. holds (is_item_placed places interfaces e.1)
        (λ u. let r = has_at old e h in kept (span_of e.1) (record { place = r.0; one = e; there = r.1; stays = s; unplaced = u; stands = refl }))) moved.1)

-- ---- keys

-- what stands under an interface is that where both are moved
key_moved : (types interfaces : ℕ → ℕ) (k : WorldKey) (v w : WorldItem) → IsKeyOfItem (k, v) → IsMovedItem types interfaces v w → IsKeyOfItem (moved_entry interfaces (k, w))
key_moved types interfaces (key.Name x) v w is m = tt
key_moved types interfaces (key.Interface i) _ _ is (moved_interface id stability span) = (let e : id ≡ i = cc in ap (λ (j : ℕ). interfaces j ∷ []) e)
key_moved types interfaces (key.Interface i) _ _ is (moved_function f g m) = absurd cc
key_moved types interfaces (key.Interface i) _ _ is (moved_type id span) = absurd cc

keys_kept : (features : FeatureSet) (places interfaces : Places) (old kept : List (WorldKey × WorldItem)) → AreKeysOfItems old → AreMovedItems features places interfaces old kept → AreKeysOfItems (map (moved_entry (to interfaces)) kept)
keys_kept features places interfaces _ _ keys no_entries = tt
keys_kept features places interfaces _ _ keys (one_goes k v es fs s rest) = keys_kept features places interfaces es fs keys.1 rest
keys_kept features places interfaces _ _ keys (one_stays k v w es fs s m rest) = (key_moved (to places) (to interfaces) k v w keys.0 m, keys_kept features places interfaces es fs keys.1 rest)

pub side_keys : (features : FeatureSet) (places interfaces : Places) (old new : List (WorldKey × WorldItem)) → AreKeysOfItems old → IsMovedSide features places interfaces old new → AreKeysOfItems new
side_keys features places interfaces old new keys moved = subst AreKeysOfItems (sym moved.2) (keys_kept features places interfaces old moved.0 keys moved.1)
