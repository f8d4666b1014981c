-- Interfaces that take types by use, and a package whose interfaces do, put behind them.
use Rattle.std.proofs.Common.{◌≡◌, ℕ, zero, suc, ◌+◌, true, List, [], ◌∷◌, ◌++◌, ◌⊎◌, inl, inr, Option, Some, String, refl, sym, subst, ap, ◌∙◌, arith, length, map}
use Rattle.std.proofs.lemmas.Bool.{and_parts, eq-eqb, eqb-true}
use Rattle.std.specs.Prelude.{slice_get, is_some, unwrap_or}
use Rattle.std.specs.declared.alloc.Global.{Global}
use Rattle.wit_joined.specs.Passed.wit_order-Order.{Has}
use Rattle.wit_joined.specs.Passed.wit_types-declared-function-Function.{Function}
use Rattle.wit_joined.specs.Passed.wit_types-declared-interface-Interface.{Interface}
use Rattle.wit_joined.specs.Passed.wit_types-declared-interface-TypeDef.{TypeDef}
use Rattle.wit_joined.specs.Passed.wit_types-declared-interface-TypeOwner.{TypeOwner}
use Rattle.wit_joined.specs.Passed.wit_types-declared-interface-TypeOwner-TheVariants as belongs
use Rattle.wit_joined.specs.Passed.wit_features-Features.{FeatureSet, stays as gate_stays}
use Rattle.wit_joined.specs.Passed.wit_moves-Breaks.{AnyOf, IsKept}
use Rattle.wit_joined.specs.Passed.wit_moves-Moved.{Places, place_of, is_placed, to, resource_of, is_resource_placed}
use Rattle.wit_joined.specs.Passed.wit_moves-Moved as moved
use Rattle.wit_joined.specs.Passed.wit_moves-Interfaces.{AreMovedNames}
use Rattle.wit_joined.specs.Passed.wit_moves-Plan.{OwnerPlaces, is_owner_placed, moved_owner}
use Rattle.wit_joined.specs.Passed.wit_finding-Types.{type_found}
use Rattle.wit_joined.specs.Passed.wit_plans-Checks.{Standing, InterfaceBreaks}
use Rattle.wit_joined.specs.Passed.wit_reach-Holding.{listed_types, HoldTheirTypes}
use Rattle.wit_joined.specs.Passed.wit_reach-Ids.{function_ids}
use Rattle.wit_joined.specs.Passed.wit_reach-Made.{is_open}
use Rattle.wit_joined.specs.Passed.wit_reach-Types.{AreTypesBackward}
use Rattle.wit_joined.proofs.Passed.wit_reach-Holding.{has_mapped, mapped_has, has_flat, flat_has}
use Rattle.wit_placed.proofs.Passed.wit_moved_trees-Moving.{placed_some}
use Rattle.wit_placed.proofs.Passed.wit_moved_trees-Parts.{function_from, function_placed}
use Rattle.wit_joined.proofs.Passed.wit_arena-Lists.{get_kept}
use Rattle.wit_placed.specs.There.{IsInterfaceThere}
use Rattle.wit_placed.specs.Order.{AreBehind, interface_places}
use Rattle.wit_placed.proofs.Entries.{entry_stays}
use Rattle.wit_placed.proofs.Holding.{goes_to, name_was, function_was, interface_kept}
use Rattle.wit_placed.proofs.Own.{only_one, interface_from, IsFrom as IsInterfaceFrom}
use Rattle.wit_placed.proofs.Sides.{signature_placed}
use Rattle.wit_uses.specs.Uses.{IsOwn, TakesByUse, IsOfInterface, InterfacesTakeByUse}
use Rattle.wit_uses.specs.Moved.{MovedInterfacesTakeByUse}
use Rattle.wit_uses.proofs.Growing.{still_take}
use Rattle.wit_uses.proofs.Behind.{Began, moved_takes}

-- ---- what stays of an interface

-- a name whose type goes somewhere stands there
name_goes : (places : Places) (old new : List (String Global × ℕ)) (e : String Global × ℕ) (j : ℕ) → AreMovedNames places old new → Has old e → place_of places e.1 ≡ Some j → Has new (e.0, j)
name_goes places old new e j kept h goes =
    let r = entry_stays (is_placed places) (λ (i k : ℕ). k ≡ to places i) old new kept e h (ap (λ (o : Option ℕ). is_some o) goes) in
    let same : r.0 ≡ j = r.2 ∙ ap (λ (o : Option ℕ). unwrap_or o e.1) goes in
    subst (λ (k : ℕ). Has new (e.0, k)) same r.1

same_interface : (i j : ℕ) → belongs.Interface i ≡ belongs.Interface j → i ≡ j
same_interface i j h = cc

pub get_either : (xs ys : List Interface) (i : ℕ) (d : Interface) → slice_get (xs ++ ys) i ≡ Some d → (slice_get xs i ≡ Some d) ⊎ ((k : ℕ) × (i ≡ length xs + k) × (slice_get ys k ≡ Some d))
get_either [] ys i d h = inr (i, omega arith, h)
get_either (x ∷ xs) ys zero d h = inl h
get_either (x ∷ xs) ys (suc i) d h = elim (get_either xs ys i d h) as (λ _. (slice_get (x ∷ xs) (suc i) ≡ Some d) ⊎ ((k : ℕ) × (suc i ≡ length (x ∷ xs) + k) × (slice_get ys k ≡ Some d))) [
  | inl a ↦ inl a
  | inr b ↦ inr (b.0, (let e : i ≡ length xs + b.0 = b.1 in omega (arith, e)), b.2)
]

-- ---- behind a graph

module _ (features : FeatureSet) (owners : OwnerPlaces) (s : Standing) (owner : ℕ) (foreign own graph fs : List TypeDef) (others : Places) (own_interfaces new_interfaces interfaces : List Interface) (others_interfaces : Places)
    (b : AreBehind features owners s owner foreign own graph fs others own_interfaces new_interfaces others_interfaces (length interfaces)) (kept : IsKept (AnyOf (InterfaceBreaks features s) own_interfaces))
    (others_are : others ≡ map (type_found interfaces others_interfaces) foreign) (there : HoldTheirTypes 0 graph interfaces) (takes_own : InterfacesTakeByUse (length others_interfaces) (foreign ++ own) own_interfaces)
  where
    abbrev base : ℕ
    base = length interfaces

    -- ---- one of the package's own interfaces

    module _ (k : ℕ) (e : Interface) (at : slice_get new_interfaces k ≡ Some e) where
      from : IsInterfaceFrom features s owner (length others_interfaces) base (interface_places features others_interfaces base own_interfaces) own_interfaces k e
      from = interface_from features s owner others_interfaces base own_interfaces new_interfaces b.interfaces_moved k e at

      -- its place there, and here
      abbrev was : ℕ
      was = length others_interfaces + from.place

      abbrev by_was : TypeOwner
      by_was = belongs.Interface was

      abbrev by : TypeOwner
      by = belongs.Interface (base + k)

      stands : place_of owners.interfaces was ≡ Some (base + k)
      stands = subst (λ (ps : Places). place_of ps was ≡ Some (base + k)) (sym b.places) from.stands

      -- ---- owners

      owner_goes : (o : TypeOwner) → IsOwn by_was o → IsOwn by (moved_owner owners o)
      owner_goes o (inl none) = inl (ap (moved_owner owners) none)
      owner_goes o (inr same) = inr (ap (moved_owner owners) same ∙ ap (λ (q : Option ℕ). belongs.Interface (unwrap_or q was)) stands)

      owner_came : (o : TypeOwner) → is_owner_placed owners o ≡ true → is_open by (moved_owner owners o) ≡ true → is_open by_was o ≡ true
      owner_came belongs.None p into = refl
      owner_came (belongs.World w) p into = absurd cc
      owner_came (belongs.Interface o) p into =
          let j = placed_some (place_of owners.interfaces o) p in
          let is : to owners.interfaces o ≡ j.0 = ap (λ (q : Option ℕ). unwrap_or q o) j.1 in
          let same : to owners.interfaces o ≡ base + k = eqb-true (to owners.interfaces o) (base + k) into in
          let placed : place_of (interface_places features others_interfaces base own_interfaces) o ≡ Some j.0 = subst (λ (ps : Places). place_of ps o ≡ Some j.0) b.places j.1 in
          let here : place_of (interface_places features others_interfaces base own_interfaces) o ≡ Some (base + k) = placed ∙ ap (λ (n : ℕ). Some n) (sym is ∙ same) in
          eq-eqb o was (only_one features others_interfaces base (map (λ (d : Interface). d.stability) own_interfaces) b.below was o (base + k) (omega arith) from.stands here)

      began : (j : ℕ) → IsOfInterface e j → Began s.types (IsOfInterface from.old) j
      began j (inl listed) =
          let x = has_mapped (λ (z : String Global × ℕ). z.1) e.types.entries j listed in
          let n = name_was s.types from.old.types.entries e.types.entries x.0 from.moved.types x.1 in
          record { id = n.0; goes = n.2 ∙ ap (λ (m : ℕ). Some m) x.2; starts = inl (mapped_has (λ (z : String Global × ℕ). z.1) from.old.types.entries (x.0.0, n.0) n.1) }
      began j (inr function) =
          let g = has_flat (λ (z : String Global × Function). function_ids z.1) e.functions.entries j function in
          let f = function_was features s.types from.old.functions.entries e.functions.entries g.0 from.moved.functions g.1 in
          let q = and_parts (gate_stays features f.0.1.stability) (is_resource_placed s.types (resource_of f.0.1.kind)) f.2 in
          let written = signature_placed features s.types from.old.functions.entries (interface_kept features s own_interfaces kept from.place from.old from.was from.kept) f.0 f.1 f.2 in
          let part = function_from (to s.types) f.0.1 g.0.1 j f.3 g.2 in
          record {
            id = part.0;
            goes = goes_to s.types part.0 j (function_placed s.types f.0.1 q.1 written part.0 part.1) part.2;
            starts = inr (flat_has (λ (z : String Global × Function). function_ids z.1) from.old.functions.entries f.0 part.0 f.1 part.1);
          }

      listed_goes : (i m : ℕ) → Has (listed_types from.old) i → place_of s.types i ≡ Some m → Has (listed_types e) m
      listed_goes i m listed goes =
          let x = has_mapped (λ (z : String Global × ℕ). z.1) from.old.types.entries i listed in
          mapped_has (λ (z : String Global × ℕ). z.1) e.types.entries (x.0.0, m)
          (name_goes s.types from.old.types.entries e.types.entries x.0 m from.moved.types x.1 (subst (λ (n : ℕ). place_of s.types n ≡ Some m) (sym x.2) goes))

      new_takes : TakesByUse (graph ++ fs) by (Has (listed_types e)) (IsOfInterface e)
      new_takes =
          moved_takes features owners s owner foreign own graph fs others own_interfaces new_interfaces interfaces others_interfaces b others_are there by_was by (Has (listed_types from.old)) (Has (listed_types e)) (IsOfInterface from.old) (IsOfInterface e)
          (takes_own from.place from.old from.was) owner_goes owner_came
          (λ p less into. (let same : p ≡ base + k = eqb-true p (base + k) into in omega (arith, same, less)))
          (λ none. cc)
          (λ o less same. (let one : o ≡ was = same_interface o was same in omega (arith, one, less)))
          began listed_goes

    -- ---- all of them

    graph_backward : AreTypesBackward graph
    graph_backward i j (d, at, has) = b.backward i j (d, get_kept graph fs i d at, has)

    all_take : ((d : Interface) → Has interfaces d → IsInterfaceThere graph d) → InterfacesTakeByUse 0 graph interfaces → InterfacesTakeByUse 0 (graph ++ fs) (interfaces ++ new_interfaces)
    all_take are_there take i d at = elim (get_either interfaces new_interfaces i d at) as (λ _. TakesByUse (graph ++ fs) (belongs.Interface (0 + i)) (Has (listed_types d)) (IsOfInterface d)) [
      | inl was ↦ still_take 0 graph fs interfaces graph_backward are_there take i d was
      | inr new ↦
          let e : base + new.0 ≡ 0 + i = (let x : i ≡ base + new.0 = new.1 in omega (arith, x)) in
          subst (λ (n : ℕ). TakesByUse (graph ++ fs) (belongs.Interface n) (Has (listed_types d)) (IsOfInterface d)) e (new_takes new.0 d new.2)
    ]

pub interfaces_take : MovedInterfacesTakeByUse
interfaces_take features owners s owner foreign own graph fs others own_interfaces new_interfaces interfaces others_interfaces b kept others_are are_there there take takes_own =
    all_take features owners s owner foreign own graph fs others own_interfaces new_interfaces interfaces others_interfaces b kept others_are there takes_own are_there take
