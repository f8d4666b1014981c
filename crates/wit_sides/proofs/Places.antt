-- The first of some names that changes a name.
use Rattle.std.proofs.Common.{◌≡◌, ◌<◌, ℕ, suc, Bool, ◌||◌, true, false, List, [], ◌∷◌, None, Some, Option, length, cond, refl, sym, ap, subst, arith}
use Rattle.std.specs.Prelude.{bytes_eq, string_bytes, slice_get, option_map, is_some}
use Rattle.std.specs.List.{list_any}
use Rattle.std.proofs.lemmas.Option.{same_Some}
use Rattle.name_places.specs.FirstPlaces.{place_of}
use Rattle.wit_types.specs.declared.world.IncludeName.{IncludeName}
use Rattle.wit_sides.specs.Renames.{sources, through}

abbrev Stands : List IncludeName → List ℕ → ℕ → Type 0
Stands ns to p = (p < length ns) × ((n : IncludeName) → slice_get ns p ≡ Some n → string_bytes n.as_ ≡ to)

module _ (name : List ℕ) (n : IncludeName) (ns : List IncludeName) where
  step : (b : Bool) (o : Option ℕ) (p : ℕ) → ((q : ℕ) → o ≡ Some q → Stands ns (through ns name) q) → cond b (Some 0) (option_map suc o) ≡ Some p
      → Stands (n ∷ ns) (cond b (string_bytes n.as_) (through ns name)) p
  step true o p later e = subst (Stands (n ∷ ns) (string_bytes n.as_)) (same_Some 0 p e) (omega arith, λ m is. ap (λ (x : IncludeName). string_bytes x.as_) (sym (same_Some n m is)))
  step false None p later e = absurd cc
  step false (Some q) p later e =
      let at = later q refl in
      subst (Stands (n ∷ ns) (through ns name)) (same_Some (suc q) p e) (let l = at.0 in omega (arith, l), λ m is. at.1 m is)

  none : (b : Bool) (o : Option ℕ) → (o ≡ None → through ns name ≡ name) → cond b (Some 0) (option_map suc o) ≡ None → cond b (string_bytes n.as_) (through ns name) ≡ name
  none true o later e = absurd cc
  none false None later e = later refl
  none false (Some q) later e = absurd cc

pub stands_at : (name : List ℕ) (ns : List IncludeName) (p : ℕ) → place_of name (sources ns) ≡ Some p → Stands ns (through ns name) p
stands_at name [] p e = absurd cc
stands_at name (n ∷ ns) p e = step name n ns (bytes_eq name (string_bytes n.name)) (place_of name (sources ns)) p (λ q. stands_at name ns q) e

pub stays : (name : List ℕ) (ns : List IncludeName) → place_of name (sources ns) ≡ None → through ns name ≡ name
stays name [] e = refl
stays name (n ∷ ns) e = none name n ns (bytes_eq name (string_bytes n.name)) (place_of name (sources ns)) (stays name ns) e

-- a name is there where it has a place
module _ (name n : List ℕ) (ns : List (List ℕ)) where
  one_more : (b : Bool) (o : Option ℕ) → is_some o ≡ list_any (bytes_eq name) ns → is_some (cond b (Some 0) (option_map suc o)) ≡ (b || list_any (bytes_eq name) ns)
  one_more true o e = refl
  one_more false None e = e
  one_more false (Some q) e = e

pub is_there : (name : List ℕ) (ns : List (List ℕ)) → is_some (place_of name ns) ≡ list_any (bytes_eq name) ns
is_there name [] = refl
is_there name (n ∷ ns) = one_more name n ns (bytes_eq name n) (place_of name ns) (is_there name ns)
