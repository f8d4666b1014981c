-- Interfaces that a world lists.
use Rattle.std.proofs.Common.{ℕ, List, [], ◌∷◌, ◌++◌, inl, inr, sym, subst}
use Rattle.wit_reach.specs.Passed.wit_order-Order.{Has}
use Rattle.wit_reach.proofs.Passed.wit_order-Lists.{has_was}
use Rattle.wit_reach.specs.Passed.wit_types-declared-world_key-WorldKey-TheVariants as key
use Rattle.wit_reach.specs.Lists.{item_interface, listed_in}
use Rattle.wit_reach.proofs.Lists.{has_append}
use Rattle.wit_elaborated.specs.Elaborated.{Entry, interface_keys}
use Rattle.wit_elaborated.specs.Worlds.{AreKeysOfItems}

-- keys are of the interfaces under them
pub keys_listed : (es : List Entry) → AreKeysOfItems es → (i : ℕ) → Has (interface_keys es) i → Has (listed_in es) i
keys_listed [] k i h = absurd h
keys_listed ((key.Name n, x) ∷ es) k i h = keys_listed es k.1 i h
keys_listed ((key.Interface j, x) ∷ es) k i h =
    elim h as (λ _. Has (item_interface x ++ listed_in es) i) [
      | inl here ↦ has_was (item_interface x) (listed_in es) i (subst (λ (l : List ℕ). Has l i) (sym k.0) (inl here))
      | inr later ↦ has_append (item_interface x) (listed_in es) i (keys_listed es k.1 i later)
    ]
