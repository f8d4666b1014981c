-- What stands behind the first of a list, lists of which each was changed, and lists that are apart by keys.
use Rattle.std.proofs.Common.{◌≡◌, ℕ, zero, suc, ◌+◌, List, [], ◌∷◌, ◌++◌, inl, inr, length, drop, Some, None, map, refl, sym, subst, ap, ◌∙◌, arith}
use Rattle.std.proofs.lemmas.List.{drop-map}
use Rattle.std.proofs.lemmas.Option.{same_Some}
use Rattle.std.specs.Prelude.{slice_get, flat_map}
use Rattle.wit_order.specs.Order as order
use Rattle.wit_package.specs.Passed.wit_arena-Meaning.{Has}
use Rattle.wit_package.proofs.Passed.wit_arena-Lists.{has_here, has_later}
use Rattle.wit_package.proofs.Passed.wit_interfaces-Behind.{get_either}
use Rattle.wit_package.specs.Passed.wit_resolved_scopes-Each.{AreApartBy}
use Rattle.wit_package.proofs.Passed.wit_readiness-Flat.{in_flat}

module _ {X : Type 0} where
  pub get_drop : (n : ℕ) (xs : List X) (k : ℕ) (x : X) → slice_get (drop n xs) k ≡ Some x → slice_get xs (n + k) ≡ Some x
  get_drop zero xs k x h = let e : 0 + k ≡ k = omega arith in rw e h
  get_drop (suc n) [] k x h = absurd cc
  get_drop (suc n) (y ∷ xs) k x h = let e : suc n + k ≡ suc (n + k) = omega arith in rw e (get_drop n xs k x h)

  pub has_drop : (n : ℕ) (xs : List X) (x : X) → order.Has (drop n xs) x → order.Has xs x
  has_drop zero xs x h = h
  has_drop (suc n) [] x h = h
  has_drop (suc n) (y ∷ xs) x h = inr (has_drop n xs x h)

-- ---- changed one by one

module _ {X Y : Type 0} (f : X → Y) where
  pub got_mapped : (xs : List X) (k : ℕ) (y : Y) → slice_get (map f xs) k ≡ Some y → (x : X) × (slice_get xs k ≡ Some x) × (f x ≡ y)
  got_mapped [] k y h = absurd cc
  got_mapped (x ∷ xs) zero y h = (x, refl, same_Some (f x) y h)
  got_mapped (x ∷ xs) (suc k) y h = got_mapped xs k y h

  -- the same behind the first of them
  pub got_behind : (n : ℕ) (xs : List X) (k : ℕ) (y : Y) → slice_get (drop n (map f xs)) k ≡ Some y → (x : X) × (slice_get (drop n xs) k ≡ Some x) × (f x ≡ y)
  got_behind n xs k y h = got_mapped (drop n xs) k y (subst (λ (ys : List Y). slice_get ys k ≡ Some y) (drop-map f n xs) h)

-- ---- apart

module _ {X K : Type 0} (key : X → K) where
  -- two lists that are, of which none has a key of the other
  pub apart_behind : (xs ys : List X) → AreApartBy key xs → AreApartBy key ys → ((x y : X) → Has xs x → Has ys y → key x ≡ key y → ⊥) → AreApartBy key (xs ++ ys)
  apart_behind xs ys first second between i j x y at_i at_j same =
      elim (get_either xs ys i x at_i) as (λ _. i ≡ j) [
        | inl a ↦ elim (get_either xs ys j y at_j) as (λ _. i ≡ j) [
          | inl b ↦ first i j x y a b same
          | inr b ↦ absurd (between x y (i, a) (b.0, b.2) same)
        ]
        | inr a ↦ elim (get_either xs ys j y at_j) as (λ _. i ≡ j) [
          | inl b ↦ absurd (between y x (j, b) (a.0, a.2) (sym same))
          | inr b ↦ (let e : a.0 ≡ b.0 = second a.0 b.0 x y a.2 b.2 same in let u : i ≡ length xs + a.0 = a.1 in let v : j ≡ length xs + b.0 = b.1 in omega (arith, e, u, v))
        ]
      ]

  -- what many give is apart where each gives what is, and those that give one key are one
  pub all_apart : {Z : Type 0} (f : Z → List X) (zs : List Z) → ((z : Z) → Has zs z → AreApartBy key (f z))
      → ((i j : ℕ) (z w : Z) (x y : X) → slice_get zs i ≡ Some z → slice_get zs j ≡ Some w → Has (f z) x → Has (f w) y → key x ≡ key y → i ≡ j) → AreApartBy key (flat_map f zs)
  all_apart f [] each one = λ i j x y at_i at_j same. absurd (let e : None ≡ Some x = at_i in cc)
  all_apart f (z ∷ zs) each one =
      apart_behind (f z) (flat_map f zs) (each z (has_here z zs))
      (all_apart f zs (λ w has. each w (has_later z zs w has)) (λ i j u w x y at_i at_j has_x has_y same. (let e : suc i ≡ suc j = one (suc i) (suc j) u w x y at_i at_j has_x has_y same in omega (arith, e))))
      (λ x y has_x has_y same. (let r = in_flat f zs y has_y in let e : 0 ≡ suc r.1.0 = one 0 (suc r.1.0) z r.0 x y refl r.1.1 has_x r.2 same in absurd (omega (arith, e))))

pub map_apart : {X Y K : Type 0} (f : X → Y) (key : Y → K) (xs : List X) → AreApartBy (λ (x : X). key (f x)) xs → AreApartBy key (map f xs)
map_apart f key xs apart i j x y at_i at_j same =
    let a = got_mapped f xs i x at_i in
    let b = got_mapped f xs j y at_j in
    apart i j a.0 b.0 a.1 b.1 (ap key a.2 ∙ same ∙ sym (ap key b.2))
