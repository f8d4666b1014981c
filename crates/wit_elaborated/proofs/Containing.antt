-- All that a world is made of with what it imports in the end is there.
use Rattle.std.proofs.Common.{◌≡◌, ℕ, ◌<◌, Bool, true, false, List, [], ◌∷◌, ◌++◌, ◌⊎◌, inl, inr, Some, sym, subst, length, map, flat_map, refl}
use Rattle.std.proofs.lemmas.Bool.{eqb-true}
use Rattle.std.specs.Map.{lookup}
use Rattle.std.specs.Prelude.{nat_eq, if◌then◌else◌, unwrap_or}
use Rattle.wit_reach.specs.Passed.wit_order-Order.{Has}
use Rattle.wit_reach.proofs.Passed.wit_order-Lists.{has_was}
use Rattle.wit_reach.specs.Passed.wit_types-declared-interface-Interface.{Interface}
use Rattle.wit_reach.specs.Passed.wit_types-declared-world-World.{World}
use Rattle.wit_reach.specs.Passed.wit_types-declared-world-WorldItem.{WorldItem}
use Rattle.wit_reach.specs.Passed.wit_types-declared-world-WorldItem-TheVariants as item
use Rattle.wit_reach.specs.Passed.wit_types-declared-world_key-WorldKey-TheVariants as key
use Rattle.wit_reach.specs.Passed.wit_types-WorldKey.{key_eq}
use Rattle.wit_reach.specs.Ids.{item_ids, side_ids}
use Rattle.wit_reach.specs.Lists.{item_interface, interfaces_of, ListsAreThere}
use Rattle.wit_reach.specs.Reach.{AreThere, ElaboratedAreThere}
use Rattle.wit_reach.proofs.Lists.{has_append, has_parts}
use Rattle.wit_elaborated.specs.Elaborated.{Entry, implied, imported, plain_entries}
use Rattle.wit_elaborated.specs.Worlds.{AreKeysOfItems}
use Rattle.wit_elaborated.specs.Staying.{ElaboratedWorldsAreThere}

abbrev items_of : List Entry → List WorldItem
items_of es = map (λ (e : Entry). e.1) es

-- ---- an interface stands under its own

imported_item : (i : ℕ) (es : List Entry) (x : WorldItem) → AreKeysOfItems es → item_interface x ≡ i ∷ [] → item_interface (unwrap_or (lookup (key_eq (key.Interface i)) es) x) ≡ i ∷ []
imported_item i [] x k e = e
imported_item i ((key.Name n, y) ∷ es) x k e = imported_item i es x k.1 e
imported_item i ((key.Interface j, y) ∷ es) x k e = by_cases (nat_eq i j) refl (imported_item i es x k.1 e)
  where
    by_cases : (b : Bool) → nat_eq i j ≡ b → item_interface (unwrap_or (lookup (key_eq (key.Interface i)) es) x) ≡ i ∷ [] → item_interface (unwrap_or (if b then Some y else lookup (key_eq (key.Interface i)) es) x) ≡ i ∷ []
    by_cases true same later = subst (λ (n : ℕ). item_interface y ≡ n ∷ []) (sym (eqb-true i j same)) k.0
    by_cases false other later = later

no_types : (x : WorldItem) (i : ℕ) → item_interface x ≡ i ∷ [] → item_ids x ≡ []
no_types (item.Interface id stability span) i e = refl
no_types (item.Function f) i e = absurd cc
no_types (item.TypeItem id span) i e = absurd cc

module _ (ds : List Interface) (es : List Entry) (keys : AreKeysOfItems es) where
  abbrev at : ℕ → Entry
  at i = (key.Interface i, imported ds es i)

  at_interface : (i : ℕ) → item_interface (imported ds es i) ≡ i ∷ []
  at_interface i = imported_item i es (implied ds i) keys refl

  of_order : (order : List ℕ) (i : ℕ) → Has (interfaces_of (map at order)) i → Has order i
  of_order [] i h = absurd h
  of_order (k ∷ is) i h =
      elim (has_parts (item_interface (imported ds es k)) (interfaces_of (map at is)) i h) as (λ _. Has (k ∷ is) i) [
        | inl here ↦ (let one : Has (k ∷ []) i = subst (λ (l : List ℕ). Has l i) (at_interface k) here in elim one as (λ _. Has (k ∷ is) i) [ inl same ↦ inl same | inr none ↦ absurd none ])
        | inr later ↦ inr (of_order is i later)
      ]

  no_ids : (order : List ℕ) (i : ℕ) → Has (side_ids (map at order)) i → ⊥
  no_ids [] i h = h
  no_ids (k ∷ is) i h =
      elim (has_parts (item_ids (imported ds es k)) (side_ids (map at is)) i h) as (λ _. ⊥) [
        | inl here ↦ (let none : Has [] i = subst (λ (l : List ℕ). Has l i) (no_types (imported ds es k) k (at_interface k)) here in none)
        | inr later ↦ no_ids is i later
      ]

-- ---- what stands in a list is of the parts of it

module _ (f : WorldItem → List ℕ) where
  parts : (xs ys : List Entry) (i : ℕ) → Has (flat_map f (items_of (xs ++ ys))) i → Has (flat_map f (items_of xs)) i ⊎ Has (flat_map f (items_of ys)) i
  parts [] ys i h = inr h
  parts (x ∷ xs) ys i h =
      elim (has_parts (f x.1) (flat_map f (items_of (xs ++ ys))) i h) as (λ _. Has (f x.1 ++ flat_map f (items_of xs)) i ⊎ Has (flat_map f (items_of ys)) i) [
        | inl here ↦ inl (has_was (f x.1) (flat_map f (items_of xs)) i here)
        | inr later ↦ elim (parts xs ys i later) as (λ _. Has (f x.1 ++ flat_map f (items_of xs)) i ⊎ Has (flat_map f (items_of ys)) i) [
          | inl a ↦ inl (has_append (f x.1) (flat_map f (items_of xs)) i a)
          | inr b ↦ inr b
        ]
      ]

  plain_was : (es : List Entry) (i : ℕ) → Has (flat_map f (items_of (plain_entries es))) i → Has (flat_map f (items_of es)) i
  plain_was [] i h = h
  plain_was ((key.Name n, x) ∷ es) i h =
      elim (has_parts (f x) (flat_map f (items_of (plain_entries es))) i h) as (λ _. Has (f x ++ flat_map f (items_of es)) i) [
        | inl here ↦ has_was (f x) (flat_map f (items_of es)) i here
        | inr later ↦ has_append (f x) (flat_map f (items_of es)) i (plain_was es i later)
      ]
  plain_was ((key.Interface j, x) ∷ es) i h = has_append (f x) (flat_map f (items_of es)) i (plain_was es i h)

-- ---- worlds

pub worlds_are_there : ListsAreThere → ElaboratedAreThere → ElaboratedWorldsAreThere
worlds_are_there lists_there elaborated_there types interfaces uses world found backward owners sides there keys was =
    let es : List Entry = world.imports.entries in
    let listed : AreThere uses was.lists = lists_there types uses world was.lists was.listed owners there backward in
    let within : (i : ℕ) → Has was.order i → i < length uses = elaborated_there uses was.lists was.order listed backward was.elaboration in (
      (
        (λ i h. elim (parts item_ids (map (at interfaces es keys) was.order) (plain_entries es) i (subst (λ (l : List Entry). Has (side_ids l) i) was.imports h)) as (λ _. i < length types) [
          | inl one ↦ absurd (no_ids interfaces es keys was.order i one)
          | inr other ↦ sides.0 i (plain_was item_ids es i other)
        ]),
        (λ i h. sides.1 i (subst (λ (w : World). Has (side_ids w.exports.entries) i) was.rest h)),
      ),
      record {
        imports = λ i h. elim (parts item_interface (map (at interfaces es keys) was.order) (plain_entries es) i (subst (λ (l : List Entry). Has (interfaces_of l) i) was.imports h)) as (λ _. i < length uses) [
          | inl one ↦ within i (of_order interfaces es keys was.order i one)
          | inr other ↦ there.imports i (plain_was item_interface es i other)
        ];
        exports = λ i h. there.exports i (subst (λ (w : World). Has (interfaces_of w.exports.entries) i) was.rest h);
      },
    )
