-- What a world is made of is there, with all that it includes.
use Rattle.std.proofs.Common.{◌≡◌, ◌<◌, ℕ, List, [], ◌∷◌, ◌++◌, inl, inr, refl, sym, subst, ap, ◌∙◌, arith, length, append_assoc, length-append, ◌+◌}
use Rattle.std.proofs.lemmas.List.{append-nil}
use Rattle.wit_types.specs.Passed.wit_order-Order.{Has}
use Rattle.wit_types.specs.declared.interface.TypeDef.{TypeDef}
use Rattle.wit_types.specs.declared.world.World.{World}
use Rattle.wit_types.specs.declared.world.WorldItem.{WorldItem}
use Rattle.wit_types.specs.declared.world.WorldInclude.{WorldInclude}
use Rattle.wit_types.specs.declared.world_key.WorldKey.{WorldKey}
use Rattle.wit_types.specs.WorldKey.{key_eq}
use Rattle.wit_copied_trees.specs.Passed.wit_reach-Ids.{item_ids, side_ids}
use Rattle.wit_copied_trees.specs.Passed.wit_reach-Types.{AreTypesBackward, AreTypesThere, AreSidesThere}
use Rattle.wit_types.proofs.Passed.wit_order-Lists.{has_was}
use Rattle.wit_copied_trees.proofs.Passed.wit_reach-Lists.{has_parts, has_append}
use Rattle.wit_copied_trees.specs.Passed.wit_sides-Sides as sides
use Rattle.wit_copied_trees.specs.Passed.wit_sides-Sides.{AreUnited}
use Rattle.wit_copied_trees.specs.There.{IncludedTypesAreBackward, IncludedSidesAreThere}
use Rattle.wit_joined.specs.Joined.{State, Includes, includes_none, includes_one, AreWorldsThere}
use Rattle.wit_joined.proofs.Including.{slice_has}

abbrev Entries : Type 0
Entries = List (WorldKey × WorldItem)

-- what two lists of entries are made of
side_append : (es fs : Entries) → side_ids (es ++ fs) ≡ side_ids es ++ side_ids fs
side_append [] fs = refl
side_append (e ∷ es) fs = ap (λ (l : List ℕ). item_ids e.1 ++ l) (side_append es fs) ∙ sym (append_assoc (item_ids e.1) (side_ids es) (side_ids fs))

both_there : (types : List TypeDef) (es fs : Entries) → AreTypesThere types (side_ids es) → AreTypesThere types (side_ids fs) → AreTypesThere types (side_ids (es ++ fs))
both_there types es fs a b = λ i h. elim (has_parts (side_ids es) (side_ids fs) i (subst (λ (l : List ℕ). Has l i) (side_append es fs) h)) as (λ _. i < length types) [ inl x ↦ a i x | inr y ↦ b i y ]

-- more types leave what is there
more_there : (types more : List TypeDef) (ids : List ℕ) → AreTypesThere types ids → AreTypesThere (types ++ more) ids
more_there types more ids a = λ i h. (let l : i < length types = a i h in let n : length (types ++ more) ≡ length types + length more = length-append types more in omega (arith, l, n))

-- what is united is made of what it is united of
united_has : (es side : Entries) → AreUnited key_eq es side → (i : ℕ) → Has (side_ids side) i → Has (side_ids es) i
united_has _ _ sides.no_entries i h = h
united_has _ _ (sides.first_of_its_key es side e u out) i h =
    subst (λ (l : List ℕ). Has l i) (sym (side_append es (e ∷ [])))
    (elim (has_parts (side_ids side) (side_ids (e ∷ [])) i (subst (λ (l : List ℕ). Has l i) (side_append side (e ∷ [])) h)) as (λ _. Has (side_ids es ++ side_ids (e ∷ [])) i) [
      | inl was ↦ has_was (side_ids es) (side_ids (e ∷ [])) i (united_has es side u i was)
      | inr new ↦ has_append (side_ids es) (side_ids (e ∷ [])) i new
    ])
united_has _ _ (sides.key_again es side e u again) i h =
    subst (λ (l : List ℕ). Has l i) (sym (side_append es (e ∷ []))) (has_was (side_ids es) (side_ids (e ∷ [])) i (united_has es side u i h))

pub united_there : (types : List TypeDef) (es side : Entries) → AreUnited key_eq es side → AreTypesThere types (side_ids es) → AreTypesThere types (side_ids side)
united_there types es side u there = λ i h. there i (united_has es side u i h)

-- ---- with all that it includes

pub record There (worlds : List World) (s t : State) : Type 0 where
  pub more : List TypeDef
  pub grown : t.types ≡ s.types ++ more
  pub backward : AreTypesBackward t.types
  pub imports : AreTypesThere t.types (side_ids t.imports)
  pub exports : AreTypesThere t.types (side_ids t.exports)

pub includes_there : IncludedTypesAreBackward → IncludedSidesAreThere → (worlds : List World) (id : ℕ) (ns : List WorldInclude) (s t : State) → AreTypesBackward s.types → AreWorldsThere s.types worlds → AreTypesThere s.types (side_ids s.imports) → AreTypesThere s.types (side_ids s.exports)
    → Includes worlds id ns s t → There worlds s t
includes_there backward stand worlds id _ s _ back there imports exports (includes_none _) = record { more = []; grown = sym (append-nil s.types); backward = back; imports = imports; exports = exports }
includes_there backward stand worlds id _ s u back there imports exports (includes_one ns n _ t _ so_far at) =
    let r = includes_there backward stand worlds id ns s t back there imports exports so_far in
    let w = at.0 in
    let b = at.1 in
    let is = at.3 in
    let stood : AreSidesThere s.types w = there w (slice_has worlds n.id w at.2) in
    let law = backward n.names.items n.id id w t.types is.own b.types.items r.backward is.are_own is.brings.types_are in
    let first : AreTypesThere t.types (side_ids w.imports.entries) = subst (λ (ds : List TypeDef). AreTypesThere ds (side_ids w.imports.entries)) (sym r.grown) (more_there s.types r.more (side_ids w.imports.entries) stood.0) in
    let second : AreTypesThere t.types (side_ids w.exports.entries) = subst (λ (ds : List TypeDef). AreTypesThere ds (side_ids w.exports.entries)) (sym r.grown) (more_there s.types r.more (side_ids w.exports.entries) stood.1) in
    subst (There worlds s) (sym at.4) (record {
      more = r.more ++ b.types.items;
      grown = ap (λ (ds : List TypeDef). ds ++ b.types.items) r.grown ∙ append_assoc s.types r.more b.types.items;
      backward = law.0;
      imports = both_there (t.types ++ b.types.items) t.imports b.imports.items (more_there t.types b.types.items (side_ids t.imports) r.imports)
          (stand n.names.items t.types is.own b.types.items w.imports.entries b.imports.items law.1 first is.brings.imports_are);
      exports = both_there (t.types ++ b.types.items) t.exports b.exports.items (more_there t.types b.types.items (side_ids t.exports) r.exports)
          (stand n.names.items t.types is.own b.types.items w.exports.entries b.exports.items law.1 second is.brings.exports_are);
    })
