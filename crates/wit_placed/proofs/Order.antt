-- Types that belong to interfaces that are there.
use Rattle.std.proofs.Common.{◌≡◌, ℕ, zero, suc, ◌+◌, ◌<◌, List, [], ◌∷◌, ◌++◌, ◌⊎◌, inl, inr, Some, sym, subst, ap, ◌∙◌, arith, length}
use Rattle.std.specs.Prelude.{slice_get}
use Rattle.wit_plans.specs.Passed.wit_types-declared-interface-TypeDef.{TypeDef}
use Rattle.wit_moved_trees.specs.Passed.wit_moves-Moved.{Places, place_of}
use Rattle.wit_moved_trees.specs.Passed.wit_reach-Deps.{interface_of}
use Rattle.wit_placed.specs.Order.{MovedTypesBelong}
use Rattle.wit_placed.proofs.Own.{interfaces_take_places}
use Rattle.wit_placed.proofs.Sources.{all_sources, owner_stands}

pub get_parts : (xs ys : List TypeDef) (i : ℕ) (d : TypeDef) → slice_get (xs ++ ys) i ≡ Some d → (slice_get xs i ≡ Some d) ⊎ ((k : ℕ) × (i ≡ length xs + k) × (slice_get ys k ≡ Some d))
get_parts [] ys i d h = inr (i, omega arith, h)
get_parts (x ∷ xs) ys zero d h = inl h
get_parts (x ∷ xs) ys (suc i) d h =
    elim (get_parts xs ys i d h) as (λ _. (slice_get (x ∷ xs) (suc i) ≡ Some d) ⊎ ((k : ℕ) × (suc i ≡ length (x ∷ xs) + k) × (slice_get ys k ≡ Some d))) [
      | inl a ↦ inl a
      | inr b ↦ inr (b.0, (let e : i ≡ length xs + b.0 = b.1 in omega (arith, e)), b.2)
    ]

pub types_belong : MovedTypesBelong
types_belong features owners s owner foreign own graph fs others own_interfaces new_interfaces others_interfaces base b i j d at o =
    let sources = all_sources features owners others s.types graph own b.nameless b.placed fs b.are_moved in
    elim (get_parts graph fs i d at) as (λ _. j < base + length new_interfaces) [
      | inl was ↦ (let l : j < base = b.graph_owners i j d was o in omega arith)
      | inr new ↦ (let w = sources.were new.0 d new.2 in
          let r = owner_stands owners w.old.owner j w.owned (sym (ap interface_of w.moved.owner_is) ∙ o) in
          interfaces_take_places features s owner others_interfaces base own_interfaces new_interfaces b.below b.interfaces_moved r.0 j (subst (λ (ps : Places). place_of ps r.0 ≡ Some j) b.places r.2))
    ]
