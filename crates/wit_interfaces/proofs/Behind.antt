-- Lists one behind the other.
use Rattle.std.proofs.Common.{◌≡◌, ℕ, ◌+◌, zero, suc, List, [], ◌∷◌, ◌++◌, ◌⊎◌, inl, inr, length, Some, ap, ◌∙◌, sym, arith, take, append_assoc}
use Rattle.std.proofs.lemmas.Option.{same_Some}
use Rattle.std.specs.Prelude.{slice_get, flat_map}
use Rattle.wit_rules.specs.Breaks.{Breaks, IsKept, IsFaultOf, AnyBreaks}
use Rattle.wit_rules.specs.declared.fault.PackageFault.{PackageFault}
use Rattle.wit_rules.proofs.Breaking.{widened}
use Rattle.wit_arena.proofs.Lists.{get_kept}
use Rattle.wit_resolved_scopes.specs.Each.{Each}

module _ {X : Type 0} where
  -- what stands in two lists stands in one of them
  pub get_either : (xs ys : List X) (i : ℕ) (x : X) → slice_get (xs ++ ys) i ≡ Some x → (slice_get xs i ≡ Some x) ⊎ ((j : ℕ) × (i ≡ length xs + j) × (slice_get ys j ≡ Some x))
  get_either [] ys i x h = inr (i, omega arith, h)
  get_either (z ∷ xs) ys zero x h = inl h
  get_either (z ∷ xs) ys (suc i) x h =
      elim (get_either xs ys i x h) as (λ _. (slice_get (z ∷ xs) (suc i) ≡ Some x) ⊎ ((j : ℕ) × (suc i ≡ length (z ∷ xs) + j) × (slice_get ys j ≡ Some x))) [
        | inl a ↦ inl a
        | inr b ↦ inr (b.0, (let e : i ≡ length xs + b.0 = b.1 in omega arith), b.2)
      ]

  pub get_right : (xs ys : List X) (i : ℕ) (x : X) → slice_get ys i ≡ Some x → slice_get (xs ++ ys) (length xs + i) ≡ Some x
  get_right [] ys i x h = let e : length {A = X} [] + i ≡ i = omega arith in rw e h
  get_right (y ∷ xs) ys i x h = let e : length (y ∷ xs) + i ≡ suc (length xs + i) = omega arith in rw e (get_right xs ys i x h)

  -- what stands in the middle
  pub get_middle : (all xs ys zs : List X) → all ≡ xs ++ (ys ++ zs) → (i : ℕ) (x : X) → slice_get ys i ≡ Some x → slice_get all (length xs + i) ≡ Some x
  get_middle all xs ys zs are i x at = ap (λ (ws : List X). slice_get ws (length xs + i)) are ∙ get_right xs (ys ++ zs) i x (get_kept ys zs i x at)

pub each_behind : {X Y : Type 0} (Is : X → Y → Type 0) (xs us : List X) (ys vs : List Y) → Each Is xs ys → Each Is us vs → Each Is (xs ++ us) (ys ++ vs)
each_behind Is [] us [] vs e f = f
each_behind Is [] us (b ∷ ys) vs e f = absurd e
each_behind Is (a ∷ xs) us [] vs e f = absurd e
each_behind Is (a ∷ xs) us (b ∷ ys) vs e f = (e.0, each_behind Is xs us ys vs e.1 f)

-- what the elements in front of a place give, what the one there does, and some more
pub given_around : {Y Z : Type 0} (f : Y → List Z) (ys : List Y) (n : ℕ) (y : Y) → slice_get ys n ≡ Some y → (rest : List Z) × (flat_map f ys ≡ flat_map f (take n ys) ++ (f y ++ rest))
given_around f [] n y at = absurd cc
given_around f (x ∷ ys) zero y at = (flat_map f ys, ap (λ z. f z ++ flat_map f ys) (same_Some x y at))
given_around f (x ∷ ys) (suc n) y at =
    let r = given_around f ys n y at in
    (r.0, ap (λ zs. f x ++ zs) r.1 ∙ sym (append_assoc (f x) (flat_map f (take n ys)) (f y ++ r.0)))

module _ {X : Type 0} (breaks_of : X → Breaks) where
  pub kept_behind : (xs ys : List X) → IsKept (AnyBreaks breaks_of xs) → IsKept (AnyBreaks breaks_of ys) → IsKept (AnyBreaks breaks_of (xs ++ ys))
  kept_behind xs ys kept also rule where_ b =
      elim (get_either xs ys b.place b.one b.there) as (λ _. ⊥) [
        | inl a ↦ kept rule where_ (record { place = b.place; one = b.one; there = a; breaks = b.breaks })
        | inr z ↦ also rule where_ (record { place = z.0; one = b.one; there = z.2; breaks = b.breaks })
      ]

  pub middle_breaks : (all xs ys zs : List X) → all ≡ xs ++ (ys ++ zs) → (fault : PackageFault) → IsFaultOf (AnyBreaks breaks_of ys) fault → IsFaultOf (AnyBreaks breaks_of all) fault
  middle_breaks all xs ys zs are = widened (AnyBreaks breaks_of ys) (AnyBreaks breaks_of all) (λ rule at b. record { place = length xs + b.place; one = b.one; there = get_middle all xs ys zs are b.place b.one b.there; breaks = b.breaks })
