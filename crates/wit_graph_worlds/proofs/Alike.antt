-- Worlds that say the same are made of the same types and interfaces.
use Rattle.std.proofs.Common.{◌≡◌, ℕ, List, [], ◌∷◌, ◌++◌, refl, ap, ◌∙◌, subst}
use Rattle.std.specs.Prelude.{flat_map, map}
use Rattle.std.specs.List.{AllZip}
use Rattle.wit_types.specs.Passed.wit_order-Order.{Has}
use Rattle.wit_types.specs.declared.interface.TypeDef.{TypeDef}
use Rattle.wit_types.specs.declared.function.Param.{Param}
use Rattle.wit_types.specs.declared.function.Function.{Function}
use Rattle.wit_types.specs.declared.world.World.{World}
use Rattle.wit_types.specs.declared.world.WorldItem.{WorldItem}
use Rattle.wit_types.specs.declared.world_key.WorldKey.{WorldKey}
use Rattle.wit_uses.specs.Passed.wit_copies-Same as same
use Rattle.wit_reach.specs.Ids.{ref_ids, function_ids, item_ids, side_ids}
use Rattle.wit_reach.specs.Lists.{item_interface, interfaces_of, item_type, AreInterfacesThere}
use Rattle.wit_reach.specs.Types.{AreTypesThere, AreSidesThere}
use Rattle.wit_elaborated.specs.Worlds.{IsKeyOfItem, AreKeysOfItems}
use Rattle.wit_graph_worlds.specs.Copies.{AreSameEntries, IsSameWorld}

-- ---- types

params_alike : (ps qs : List Param) → AllZip same.IsSameParam ps qs → flat_map (λ (p : Param). ref_ids p.ty) qs ≡ flat_map (λ (p : Param). ref_ids p.ty) ps
params_alike [] [] h = refl
params_alike [] (q ∷ qs) h = absurd h
params_alike (p ∷ ps) [] h = absurd h
params_alike (p ∷ ps) (q ∷ qs) h = rw (h.0.ty, params_alike ps qs h.1) refl

function_alike : (f g : Function) → same.IsSameFunction f g → function_ids g ≡ function_ids f
function_alike f g h = rw (h.kind, params_alike f.params.items g.params.items h.params, h.result) refl

pub item_alike : (i j : WorldItem) → same.IsSameItem i j → item_ids j ≡ item_ids i
item_alike _ _ (same.same_interface id s t span h) = refl
item_alike _ _ (same.same_function f g h) = function_alike f g h
item_alike _ _ (same.same_type id span) = refl

-- what is of the items alone is the same
pub items_alike : (f : WorldItem → List ℕ) → ((i j : WorldItem) → same.IsSameItem i j → f j ≡ f i) → (es fs : List (WorldKey × WorldItem)) → AreSameEntries es fs
    → flat_map f (map (λ (e : WorldKey × WorldItem). e.1) fs) ≡ flat_map f (map (λ (e : WorldKey × WorldItem). e.1) es)
items_alike f alike [] [] h = refl
items_alike f alike [] (x ∷ fs) h = absurd h
items_alike f alike (e ∷ es) [] h = absurd h
items_alike f alike (e ∷ es) (x ∷ fs) h =
    ap (λ (l : List ℕ). l ++ flat_map f (map (λ (y : WorldKey × WorldItem). y.1) fs)) (alike e.1 x.1 h.0.1) ∙ ap (λ (l : List ℕ). f e.1 ++ l) (items_alike f alike es fs h.1)

pub side_alike : (es fs : List (WorldKey × WorldItem)) → AreSameEntries es fs → side_ids fs ≡ side_ids es
side_alike es fs h = items_alike item_ids item_alike es fs h

pub type_alike : (i j : WorldItem) → same.IsSameItem i j → item_type j ≡ item_type i
type_alike _ _ (same.same_interface id s t span h) = refl
type_alike _ _ (same.same_function f g h) = refl
type_alike _ _ (same.same_type id span) = refl

types_there : (types : List TypeDef) (es fs : List (WorldKey × WorldItem)) → AreSameEntries es fs → AreTypesThere types (side_ids es) → AreTypesThere types (side_ids fs)
types_there types es fs h there = λ i has. there i (subst (λ (l : List ℕ). Has l i) (side_alike es fs h) has)

pub sides_there : (types : List TypeDef) (w v : World) → IsSameWorld w v → AreSidesThere types w → AreSidesThere types v
sides_there types w v h there = (types_there types w.imports.entries v.imports.entries h.imports there.0, types_there types w.exports.entries v.exports.entries h.exports there.1)

-- ---- interfaces

pub interface_alike : (i j : WorldItem) → same.IsSameItem i j → item_interface j ≡ item_interface i
interface_alike _ _ (same.same_interface id s t span h) = refl
interface_alike _ _ (same.same_function f g h) = refl
interface_alike _ _ (same.same_type id span) = refl

interfaces_alike : (es fs : List (WorldKey × WorldItem)) → AreSameEntries es fs → interfaces_of fs ≡ interfaces_of es
interfaces_alike es fs h = items_alike item_interface interface_alike es fs h

pub interfaces_there : (n : ℕ) (w v : World) → IsSameWorld w v → AreInterfacesThere n w → AreInterfacesThere n v
interfaces_there n w v h there = record {
  imports = λ i has. there.imports i (subst (λ (l : List ℕ). Has l i) (interfaces_alike w.imports.entries v.imports.entries h.imports) has);
  exports = λ i has. there.exports i (subst (λ (l : List ℕ). Has l i) (interfaces_alike w.exports.entries v.exports.entries h.exports) has);
}

-- ---- keys

pub key_alike : (k l : WorldKey) (i j : WorldItem) → same.IsSameKey k l → item_interface j ≡ item_interface i → IsKeyOfItem (k, i) → IsKeyOfItem (l, j)
key_alike _ _ i j (same.same_name x y h) e is = tt
key_alike _ _ i j (same.same_key_interface id) e is = e ∙ is

keys_alike : (es fs : List (WorldKey × WorldItem)) → AreSameEntries es fs → AreKeysOfItems es → AreKeysOfItems fs
keys_alike [] [] h keys = tt
keys_alike [] (f ∷ fs) h keys = absurd h
keys_alike (e ∷ es) [] h keys = absurd h
keys_alike (e ∷ es) (f ∷ fs) h keys = (key_alike e.0 f.0 e.1 f.1 h.0.0 (interface_alike e.1 f.1 h.0.1) keys.0, keys_alike es fs h.1 keys.1)

pub keys_there : (w v : World) → IsSameWorld w v → AreKeysOfItems w.imports.entries → AreKeysOfItems v.imports.entries
keys_there w v h keys = keys_alike w.imports.entries v.imports.entries h.imports keys
