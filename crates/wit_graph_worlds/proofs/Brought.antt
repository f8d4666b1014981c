-- What an included world brings names the interfaces that it names, under the same keys.
use Rattle.std.proofs.Common.{◌≡◌, ℕ, List, [], ◌∷◌, ◌++◌, inl, inr, refl, sym, ap, ◌∙◌, subst, append_assoc}
use Rattle.wit_types.specs.Passed.wit_order-Order.{Has}
use Rattle.wit_types.proofs.Passed.wit_order-Lists.{has_was}
use Rattle.wit_types.specs.declared.world.IncludeName.{IncludeName}
use Rattle.wit_types.specs.declared.world.WorldItem.{WorldItem}
use Rattle.wit_types.specs.declared.world.WorldItem.TheVariants as item
use Rattle.wit_types.specs.declared.world_key.WorldKey.{WorldKey}
use Rattle.wit_types.specs.declared.world_key.WorldKey.TheVariants as key
use Rattle.wit_types.specs.WorldKey.{key_eq}
use Rattle.wit_uses.specs.Passed.wit_moves-Worlds as moved
use Rattle.wit_uses.specs.Passed.wit_moves-Worlds.{IsMovedItem}
use Rattle.wit_uses.specs.Passed.wit_copies-Copies.{Copies, goes, IsCopiedItem, AreCopiedEntries, no_entries, one_entry_more}
use Rattle.wit_uses.specs.Passed.wit_sides-Renames as renamed
use Rattle.wit_uses.specs.Passed.wit_sides-Renames.{IsRenamedKey, IsRenamedItem, AreRenamed}
use Rattle.wit_uses.specs.Passed.wit_sides-Sides as sides
use Rattle.wit_uses.specs.Passed.wit_sides-Sides.{AreUnited}
use Rattle.wit_uses.specs.Passed.wit_includes-Included.{AreIncludedEntries}
use Rattle.wit_reach.specs.Lists.{item_interface, interfaces_of}
use Rattle.wit_reach.proofs.Lists.{has_parts, has_append}
use Rattle.wit_elaborated.specs.Worlds.{IsKeyOfItem, AreKeysOfItems}
use Rattle.wit_graph_worlds.proofs.Alike.{interface_alike, key_alike}

abbrev pub Entries : Type 0
Entries = List (WorldKey × WorldItem)

-- ---- copies

moved_interface : (types : ℕ → ℕ) (i j : WorldItem) → IsMovedItem types (λ (k : ℕ). k) i j → item_interface j ≡ item_interface i
moved_interface types _ _ (moved.moved_interface id s at) = refl
moved_interface types _ _ (moved.moved_function f g h) = refl
moved_interface types _ _ (moved.moved_type id at) = refl

copied_interface : (c : Copies) (i j : WorldItem) → IsCopiedItem c i j → item_interface j ≡ item_interface i
copied_interface c i j h = moved_interface (goes c) h.0 j h.2 ∙ interface_alike i h.0 h.1

copied_interfaces : (c : Copies) (es fs : Entries) → AreCopiedEntries c es fs → interfaces_of fs ≡ interfaces_of es
copied_interfaces c _ _ no_entries = refl
copied_interfaces c _ _ (one_entry_more k l i j es fs key one more) =
    ap (λ (x : List ℕ). x ++ interfaces_of fs) (copied_interface c i j one) ∙ ap (λ (x : List ℕ). item_interface i ++ x) (copied_interfaces c es fs more)

copied_keys : (c : Copies) (es fs : Entries) → AreKeysOfItems es → AreCopiedEntries c es fs → AreKeysOfItems fs
copied_keys c _ _ keys no_entries = tt
copied_keys c _ _ keys (one_entry_more k l i j es fs key one more) = (key_alike k l i j key (copied_interface c i j one) keys.0, copied_keys c es fs keys.1 more)

-- ---- and with changed names

renamed_interface : (names : List IncludeName) (i j : WorldItem) → IsRenamedItem names i j → item_interface j ≡ item_interface i
renamed_interface names (item.Interface id s at) j h = ap item_interface h
renamed_interface names (item.Function f) j h = ap item_interface h.1
renamed_interface names (item.TypeItem id at) j h = ap item_interface h

renamed_key : (names : List IncludeName) (k l : WorldKey) (i j : WorldItem) → IsRenamedKey names k l → item_interface j ≡ item_interface i → IsKeyOfItem (k, i) → IsKeyOfItem (l, j)
renamed_key names (key.Name x) l i j h e is = subst (λ (q : WorldKey). IsKeyOfItem (q, j)) (sym h.1) tt
renamed_key names (key.Interface id) l i j h e is = subst (λ (q : WorldKey). IsKeyOfItem (q, j)) (sym h) (e ∙ is)

renamed_interfaces : (names : List IncludeName) (es fs : Entries) → AreRenamed names es fs → interfaces_of fs ≡ interfaces_of es
renamed_interfaces names _ _ renamed.no_entries = refl
renamed_interfaces names _ _ (renamed.one_more k l i j es fs key one more) =
    ap (λ (x : List ℕ). x ++ interfaces_of fs) (renamed_interface names i j one) ∙ ap (λ (x : List ℕ). item_interface i ++ x) (renamed_interfaces names es fs more)

renamed_keys : (names : List IncludeName) (es fs : Entries) → AreKeysOfItems es → AreRenamed names es fs → AreKeysOfItems fs
renamed_keys names _ _ keys renamed.no_entries = tt
renamed_keys names _ _ keys (renamed.one_more k l i j es fs key one more) = (renamed_key names k l i j key (renamed_interface names i j one) keys.0, renamed_keys names es fs keys.1 more)

pub brought_interfaces : (names : List IncludeName) (c : Copies) (es fs : Entries) → AreIncludedEntries names c es fs → interfaces_of fs ≡ interfaces_of es
brought_interfaces names c es fs h = renamed_interfaces names h.0 fs h.2 ∙ copied_interfaces c es h.0 h.1

pub brought_keys : (names : List IncludeName) (c : Copies) (es fs : Entries) → AreKeysOfItems es → AreIncludedEntries names c es fs → AreKeysOfItems fs
brought_keys names c es fs keys h = renamed_keys names h.0 fs (copied_keys c es h.0 keys h.1) h.2

-- ---- one list behind another

pub interfaces_append : (es fs : Entries) → interfaces_of (es ++ fs) ≡ interfaces_of es ++ interfaces_of fs
interfaces_append [] fs = refl
interfaces_append (e ∷ es) fs = ap (λ (x : List ℕ). item_interface e.1 ++ x) (interfaces_append es fs) ∙ sym (append_assoc (item_interface e.1) (interfaces_of es) (interfaces_of fs))

pub keys_append : (es fs : Entries) → AreKeysOfItems es → AreKeysOfItems fs → AreKeysOfItems (es ++ fs)
keys_append [] fs a b = b
keys_append (e ∷ es) fs a b = (a.0, keys_append es fs a.1 b)

keys_first : (es fs : Entries) → AreKeysOfItems (es ++ fs) → AreKeysOfItems es
keys_first [] fs h = tt
keys_first (e ∷ es) fs h = (h.0, keys_first es fs h.1)

keys_last : (es fs : Entries) → AreKeysOfItems (es ++ fs) → AreKeysOfItems fs
keys_last [] fs h = h
keys_last (e ∷ es) fs h = keys_last es fs h.1

-- ---- entries of which equal ones are one

pub united_has : (es side : Entries) → AreUnited key_eq es side → (i : ℕ) → Has (interfaces_of side) i → Has (interfaces_of es) i
united_has _ _ sides.no_entries i h = h
united_has _ _ (sides.first_of_its_key es side e u out) i h =
    subst (λ (x : List ℕ). Has x i) (sym (interfaces_append es (e ∷ [])))
    (elim (has_parts (interfaces_of side) (interfaces_of (e ∷ [])) i (subst (λ (x : List ℕ). Has x i) (interfaces_append side (e ∷ [])) h)) as (λ _. Has (interfaces_of es ++ interfaces_of (e ∷ [])) i) [
      | inl was ↦ has_was (interfaces_of es) (interfaces_of (e ∷ [])) i (united_has es side u i was)
      | inr new ↦ has_append (interfaces_of es) (interfaces_of (e ∷ [])) i new
    ])
united_has _ _ (sides.key_again es side e u again) i h =
    subst (λ (x : List ℕ). Has x i) (sym (interfaces_append es (e ∷ []))) (has_was (interfaces_of es) (interfaces_of (e ∷ [])) i (united_has es side u i h))

pub united_keys : (es side : Entries) → AreUnited key_eq es side → AreKeysOfItems es → AreKeysOfItems side
united_keys _ _ sides.no_entries keys = keys
united_keys _ _ (sides.first_of_its_key es side e u out) keys = keys_append side (e ∷ []) (united_keys es side u (keys_first es (e ∷ []) keys)) (keys_last es (e ∷ []) keys)
united_keys _ _ (sides.key_again es side e u again) keys = united_keys es side u (keys_first es (e ∷ []) keys)
