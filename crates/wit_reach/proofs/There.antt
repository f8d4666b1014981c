-- What a world lists is there.
use Rattle.std.proofs.Common.{◌≡◌, ℕ, ◌<◌, Bool, true, false, List, [], ◌∷◌, ◌++◌, inl, inr, Option, Some, None, refl}
use Rattle.std.specs.Prelude.{slice_get, flat_map, if◌then◌else◌}
use Rattle.wit_types.specs.declared.interface.TypeDef.{TypeDef}
use Rattle.wit_types.specs.declared.interface.TypeOwner.{TypeOwner}
use Rattle.wit_types.specs.declared.world.WorldItem.{WorldItem}
use Rattle.wit_types.specs.declared.world_key.WorldKey.{WorldKey}
use Rattle.wit_types.specs.declared.world_key.WorldKey.TheVariants as key
use Rattle.wit_types.specs.Passed.wit_order-Order.{Has}
use Rattle.wit_types.proofs.Passed.wit_order-Lists.{has_was}
use Rattle.wit_reach.specs.Deps.{alias_target, interface_of, is_of_interface, but_own, owned, at_target, AreUsed}
use Rattle.wit_reach.specs.Lists.{item_interface, interfaces_of, labelled, labelled_in, listed, listed_in, AreOwnersThere}
use Rattle.wit_reach.proofs.Lists.{has_append, has_parts}

-- ---- interfaces of which types are used

target_there : (ds : List TypeDef) (o : Option ℕ) (t : TypeDef) → at_target ds o ≡ Some t → (k : ℕ) × (slice_get ds k ≡ Some t)
target_there ds None t e = absurd cc
target_there ds (Some k) t e = (k, e)

but_own_some : (by : TypeOwner) (o : Option ℕ) (j : ℕ) → but_own by o ≡ Some j → o ≡ Some j
but_own_some by None j e = absurd cc
but_own_some by (Some i) j e = by_cases (is_of_interface i by) e
  where
    by_cases : (b : Bool) → (if b then None else Some i) ≡ Some j → Some i ≡ Some j
    by_cases true e = absurd cc
    by_cases false e = e

owned_owner : (o : Option TypeDef) (by : TypeOwner) (j : ℕ) → owned o by ≡ Some j → (t : TypeDef) × (o ≡ Some t) × (interface_of t.owner ≡ Some j)
owned_owner None by j e = absurd cc
owned_owner (Some t) by j e = (t, refl, but_own_some by (interface_of t.owner) j e)

pub used_within : (n : ℕ) (ds : List TypeDef) (ids : List ℕ) (j : ℕ) → AreOwnersThere n ds → AreUsed ds ids j → j < n
used_within n ds ids j owners u =
    let d : TypeDef = u.2.0 in
    let o = owned_owner (at_target ds (alias_target d.kind)) d.owner j u.2.2 in
    let k = target_there ds (alias_target d.kind) o.0 o.1 in
    owners k.0 j o.0 k.1 o.2

-- ---- interfaces by one kind of key are interfaces of the side

part_has : (part : WorldKey × WorldItem → List ℕ) → ((k : WorldKey) (x : WorldItem) (i : ℕ) → Has (part (k, x)) i → Has (item_interface x) i)
    → (es : List (WorldKey × WorldItem)) (i : ℕ) → Has (flat_map part es) i → Has (interfaces_of es) i
part_has part is [] i h = absurd h
part_has part is ((k, x) ∷ es) i h =
    elim (has_parts (part (k, x)) (flat_map part es) i h) as (λ _. Has (item_interface x ++ interfaces_of es) i) [
      | inl here ↦ has_was (item_interface x) (interfaces_of es) i (is k x i here)
      | inr later ↦ has_append (item_interface x) (interfaces_of es) i (part_has part is es i later)
    ]

labelled_item : (k : WorldKey) (x : WorldItem) (i : ℕ) → Has (labelled (k, x)) i → Has (item_interface x) i
labelled_item (key.Name name) x i h = h
labelled_item (key.Interface j) x i h = absurd h

listed_item : (k : WorldKey) (x : WorldItem) (i : ℕ) → Has (listed (k, x)) i → Has (item_interface x) i
listed_item (key.Name name) x i h = absurd h
listed_item (key.Interface j) x i h = h

pub labelled_has : (es : List (WorldKey × WorldItem)) (i : ℕ) → Has (labelled_in es) i → Has (interfaces_of es) i
labelled_has es i h = part_has labelled labelled_item es i h

pub listed_has : (es : List (WorldKey × WorldItem)) (i : ℕ) → Has (listed_in es) i → Has (interfaces_of es) i
listed_has es i h = part_has listed listed_item es i h
