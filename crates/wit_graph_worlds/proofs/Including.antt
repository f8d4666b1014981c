-- What a world names with all that it includes is there.
use Rattle.std.proofs.Common.{◌≡◌, ℕ, ◌<◌, List, [], ◌∷◌, ◌++◌, zero, suc, inl, inr, Some, sym, subst}
use Rattle.std.proofs.lemmas.Option.{same_Some}
use Rattle.std.specs.Prelude.{slice_get}
use Rattle.wit_types.specs.Passed.wit_order-Order.{Has}
use Rattle.wit_types.specs.declared.interface.TypeDef.{TypeDef}
use Rattle.wit_types.specs.declared.world.World.{World}
use Rattle.wit_types.specs.declared.world.WorldInclude.{WorldInclude}
use Rattle.wit_types.specs.WorldKey.{key_eq}
use Rattle.wit_reach.specs.Lists.{interfaces_of, AreOwnersThere, AreInterfacesThere}
use Rattle.wit_reach.proofs.Lists.{has_parts}
use Rattle.wit_uses.specs.Passed.wit_sides-Sides.{AreUnited}
use Rattle.wit_uses.specs.Passed.wit_includes-Included.{copies_behind}
use Rattle.wit_elaborated.specs.Worlds.{AreKeysOfItems}
use Rattle.wit_uses.specs.Passed.wit_plans-declared-moves-MovedWorld.{MovedWorld}
use Rattle.wit_uses.specs.Passed.wit_placed-There.{IsOwnThere}
use Rattle.wit_uses.specs.Passed.wit_joined-Joined.{State, Includes, includes_none, includes_one, own_state, IsJoinedWorld}
use Rattle.wit_graph_worlds.proofs.Brought.{Entries, brought_interfaces, brought_keys, interfaces_append, keys_append, united_has, united_keys}
use Rattle.wit_graph_worlds.proofs.Owners.{included_owners}

slice_has : {X : Type 0} (xs : List X) (i : ℕ) (x : X) → slice_get xs i ≡ Some x → Has xs x
slice_has [] i x e = absurd cc
slice_has (y ∷ xs) zero x e = inl (sym (same_Some y x e))
slice_has (y ∷ xs) (suc i) x e = inr (slice_has xs i x e)

abbrev AreBelow : ℕ → Entries → Type 0
AreBelow n es = (i : ℕ) → Has (interfaces_of es) i → i < n

-- each world names interfaces that are there, and imports them under their own keys
pub record AreNamed (n : ℕ) (worlds : List World) : Type 0 where
  pub interfaces : (w : World) → Has worlds w → AreInterfacesThere n w
  pub keys : (w : World) → Has worlds w → AreKeysOfItems w.imports.entries

-- so does a world so far, and the types belong to interfaces that are there
record IsNamed (n : ℕ) (s : State) : Type 0 where
  imports : AreBelow n s.imports
  exports : AreBelow n s.exports
  keys : AreKeysOfItems s.imports
  owners : AreOwnersThere n s.types

both_below : (n : ℕ) (es fs : Entries) → AreBelow n es → AreBelow n fs → AreBelow n (es ++ fs)
both_below n es fs a b = λ i h. elim (has_parts (interfaces_of es) (interfaces_of fs) i (subst (λ (l : List ℕ). Has l i) (interfaces_append es fs) h)) as (λ _. i < n) [ inl x ↦ a i x | inr y ↦ b i y ]

united_below : (n : ℕ) (es side : Entries) → AreUnited key_eq es side → AreBelow n es → AreBelow n side
united_below n es side u below = λ i h. below i (united_has es side u i h)

includes_named : (n : ℕ) (worlds : List World) (id : ℕ) (ns : List WorldInclude) (s t : State) → AreNamed n worlds → IsNamed n s → Includes worlds id ns s t → IsNamed n t
includes_named n worlds id _ s _ worlds_named named (includes_none _) = named
includes_named n worlds id _ s u worlds_named named (includes_one ns m _ t _ so_far at) =
    let r = includes_named n worlds id ns s t worlds_named named so_far in
    let w = at.0 in
    let b = at.1 in
    let is = at.3 in
    let has : Has worlds w = slice_has worlds m.id w at.2 in
    let there : AreInterfacesThere n w = worlds_named.interfaces w has in
    let c = copies_behind t.types is.own in
    subst (IsNamed n) (sym at.4) (record {
      imports = both_below n t.imports b.imports.items r.imports (λ i h. there.imports i (subst (λ (l : List ℕ). Has l i) (brought_interfaces m.names.items c w.imports.entries b.imports.items is.brings.imports_are) h));
      exports = both_below n t.exports b.exports.items r.exports (λ i h. there.exports i (subst (λ (l : List ℕ). Has l i) (brought_interfaces m.names.items c w.exports.entries b.exports.items is.brings.exports_are) h));
      keys = keys_append t.imports b.imports.items r.keys (brought_keys m.names.items c w.imports.entries b.imports.items (worlds_named.keys w has) is.brings.imports_are);
      owners = included_owners n m.names.items m.id id t.types is.own b.types.items r.owners is.brings.types_are;
    })

-- ---- a world with all that it includes

pub record IsJoinedNamed (n : ℕ) (types : List TypeDef) (w : World) : Type 0 where
  pub interfaces : AreInterfacesThere n w
  pub keys : AreKeysOfItems w.imports.entries
  pub owners : AreOwnersThere n types

pub joined_named : (n : ℕ) (worlds : List World) (id owner : ℕ) (m : MovedWorld) (old new : List TypeDef) (w : World) → AreNamed n worlds → AreOwnersThere n old → IsOwnThere old n m → IsJoinedWorld worlds id owner m old new w → IsJoinedNamed n new w
joined_named n worlds id owner m old new w named owners own is =
    let s = is.sides in
    let first : IsNamed n (own_state old m) = record { imports = own.imports.interfaces_are; exports = own.exports.interfaces_are; keys = own.keys; owners = owners } in
    let r = includes_named n worlds id m.includes.items (own_state old m) s.joined named first s.includes in
    record {
      interfaces = record {
        imports = united_below n s.joined.imports w.imports.entries s.imports_are.entries r.imports;
        exports = united_below n s.joined.exports w.exports.entries s.exports_are.entries r.exports;
      };
      keys = united_keys s.joined.imports w.imports.entries s.imports_are.entries r.keys;
      owners = subst (AreOwnersThere n) (sym s.types_are) r.owners;
    }
