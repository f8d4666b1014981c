-- Lists that the elements of another list give.
use Rattle.std.proofs.Common.{◌≡◌, ℕ, zero, suc, ◌<◌, List, [], ◌∷◌, ◌++◌, ◌⊎◌, inl, inr, Some, take, refl, sym, subst, ap, ◌∙◌, arith}
use Rattle.std.proofs.lemmas.Option.{same_Some}
use Rattle.std.specs.Prelude.{slice_get, flat_map}
use Rattle.wit_foreign.specs.Passed.wit_arena-Meaning.{Has}
use Rattle.wit_foreign.proofs.Passed.wit_arena-Lists.{has_none, has_here, has_later, has_cases, has_left, has_right}
use Rattle.wit_resolved_scopes.specs.Each.{AreApartBy}
use Rattle.wit_resolved_scopes.proofs.Readying.{either}

-- what stands alone
pub has_one : {X : Type 0} (y x : X) → Has (y ∷ []) x → x ≡ y
has_one y x h = elim (has_cases y [] x h) as (λ _. x ≡ y) [ inl e ↦ e | inr later ↦ absurd (has_none x later) ]

module _ {X Y : Type 0} (f : X → List Y) where
  -- what stands in the whole is given by one of them
  pub in_flat : (xs : List X) (y : Y) → Has (flat_map f xs) y → (x : X) × Has xs x × Has (f x) y
  in_flat [] y h = absurd (has_none y h)
  in_flat (x ∷ xs) y h =
      elim (either (f x) (flat_map f xs) y h) as (λ _. (z : X) × Has (x ∷ xs) z × Has (f z) y) [
        | inl here ↦ (x, has_here x xs, here)
        | inr later ↦ let r = in_flat xs y later in (r.0, has_later x xs r.0 r.1, r.2)
      ]

  -- what one of them gives stands in the whole
  pub flat_has : (xs : List X) (x : X) (y : Y) → Has xs x → Has (f x) y → Has (flat_map f xs) y
  flat_has [] x y h k = absurd (has_none x h)
  flat_has (z ∷ xs) x y (zero, e) k = has_left (f z) (flat_map f xs) y (subst (λ (w : X). Has (f w) y) (sym (same_Some z x e)) k)
  flat_has (z ∷ xs) x y (suc i, e) k = has_right (f z) (flat_map f xs) y (flat_has xs x y (i, e) k)

-- ---- each gives at most one

abbrev pub AtMostOne : {Y : Type 0} → List Y → Type 0
AtMostOne {Y} ys = (ys ≡ []) ⊎ ((y : Y) × (ys ≡ y ∷ []))

-- one more whose key is new
apart_more : {X K : Type 0} (key : X → K) (x : X) (xs : List X) → AreApartBy key xs → ((z : X) → Has xs z → key x ≡ key z → ⊥) → AreApartBy key (x ∷ xs)
apart_more key x xs apart new zero zero a b at_a at_b e = refl
apart_more key x xs apart new zero (suc j) a b at_a at_b e = absurd (new b (j, at_b) (ap key (same_Some x a at_a) ∙ e))
apart_more key x xs apart new (suc i) zero a b at_a at_b e = absurd (new a (i, at_a) (ap key (same_Some x b at_b) ∙ sym e))
apart_more key x xs apart new (suc i) (suc j) a b at_a at_b e = ap suc (apart i j a b at_a at_b e)

module _ {X Y : Type 0} (f : X → List Y) (one : (x : X) → AtMostOne (f x)) where
  -- what they give is apart where those that give one key are one
  pub flat_apart : {K : Type 0} (key : Y → K) (xs : List X)
      → ((i j : ℕ) (x z : X) (y w : Y) → slice_get xs i ≡ Some x → slice_get xs j ≡ Some z → Has (f x) y → Has (f z) w → key y ≡ key w → i ≡ j) → AreApartBy key (flat_map f xs)
  flat_apart key [] h i j y w at_i at_j e = absurd cc
  flat_apart key (x ∷ xs) h i j y w at_i at_j e =
      by (flat_apart key xs (λ i j a b y w at_i at_j has_y has_w e. (let n : suc i ≡ suc j = h (suc i) (suc j) a b y w at_i at_j has_y has_w e in omega (arith, n)))) (one x) i j y w at_i at_j e
    where
      new : (v : Y) → f x ≡ v ∷ [] → (z : Y) → Has (flat_map f xs) z → key v ≡ key z → ⊥
      new v is z has same =
          let r = in_flat f xs z has in
          let n : 0 ≡ suc r.1.0 = h 0 (suc r.1.0) x r.0 v z refl r.1.1 (subst (λ (ys : List Y). Has ys v) (sym is) (has_here v [])) r.2 same in
          absurd (omega (arith, n))

      by : AreApartBy key (flat_map f xs) → AtMostOne (f x) → AreApartBy key (f x ++ flat_map f xs)
      by ih (inl none) = subst (λ (ys : List Y). AreApartBy key (ys ++ flat_map f xs)) (sym none) ih
      by ih (inr (v, is)) = subst (λ (ys : List Y). AreApartBy key (ys ++ flat_map f xs)) (sym is) (apart_more key v (flat_map f xs) ih (new v is))

  -- where one is given: all that those in front give is in front of it
  pub record Given (xs : List X) (n : ℕ) (y : Y) : Type 0 where
    pub place : ℕ
    pub one_is : X
    pub there : slice_get xs place ≡ Some one_is
    pub gives : Has (f one_is) y
    pub before : (l : ℕ) (z : X) (w : Y) → l < place → slice_get xs l ≡ Some z → Has (f z) w → Has (take n (flat_map f xs)) w

  pub given_at : (xs : List X) (n : ℕ) (y : Y) → slice_get (flat_map f xs) n ≡ Some y → Given xs n y
  given_at [] n y at = absurd cc
  given_at (x ∷ xs) n y at = by (λ k there. given_at xs k y there) (one x)
    where
      none_more : f x ≡ [] → Given xs n y → Given (x ∷ xs) n y
      none_more e r = record {
        place = suc r.place;
        one_is = r.one_is;
        there = r.there;
        gives = r.gives;
        before = λ l z w less at_l has. subst (λ (ys : List Y). Has (take n (ys ++ flat_map f xs)) w) (sym e) (earlier l z w less at_l has);
      }
        where
          earlier : (l : ℕ) (z : X) (w : Y) → l < suc r.place → slice_get (x ∷ xs) l ≡ Some z → Has (f z) w → Has (take n (flat_map f xs)) w
          earlier zero z w less at_l has = absurd (has_none w (subst (λ (ys : List Y). Has ys w) (ap f (sym (same_Some x z at_l)) ∙ e) has))
          earlier (suc l) z w less at_l has = r.before l z w (omega (arith, less)) at_l has

      first : (v : Y) → f x ≡ v ∷ [] → v ≡ y → n ≡ 0 → Given (x ∷ xs) n y
      first v e same zero_is = record {
        place = 0;
        one_is = x;
        there = refl;
        gives = subst (λ (ys : List Y). Has ys y) (sym e) (subst (Has (v ∷ [])) same (has_here v []));
        before = λ l z w less at_l has. absurd (omega (arith, less));
      }

      one_more : (v : Y) → f x ≡ v ∷ [] → (m : ℕ) → n ≡ suc m → Given xs m y → Given (x ∷ xs) n y
      one_more v e m is r = record {
        place = suc r.place;
        one_is = r.one_is;
        there = r.there;
        gives = r.gives;
        before = λ l z w less at_l has. subst (λ (k : ℕ). Has (take k (f x ++ flat_map f xs)) w) (sym is) (subst (λ (ys : List Y). Has (take (suc m) (ys ++ flat_map f xs)) w) (sym e) (earlier l z w less at_l has));
      }
        where
          earlier : (l : ℕ) (z : X) (w : Y) → l < suc r.place → slice_get (x ∷ xs) l ≡ Some z → Has (f z) w → Has (v ∷ take m (flat_map f xs)) w
          earlier zero z w less at_l has =
              subst (Has (v ∷ take m (flat_map f xs))) (sym (has_one v w (subst (λ (ys : List Y). Has ys w) (ap f (sym (same_Some x z at_l)) ∙ e) has))) (has_here v (take m (flat_map f xs)))
          earlier (suc l) z w less at_l has = has_later v (take m (flat_map f xs)) w (r.before l z w (omega (arith, less)) at_l has)

      behind : ((k : ℕ) → slice_get (flat_map f xs) k ≡ Some y → Given xs k y) → (v : Y) → f x ≡ v ∷ [] → (k : ℕ) → n ≡ k → slice_get (v ∷ flat_map f xs) k ≡ Some y → Given (x ∷ xs) n y
      behind later v e zero is there = first v e (same_Some v y there) is
      behind later v e (suc m) is there = one_more v e m is (later m there)

      by : ((k : ℕ) → slice_get (flat_map f xs) k ≡ Some y → Given xs k y) → AtMostOne (f x) → Given (x ∷ xs) n y
      by later (inl e) = none_more e (later n (subst (λ (ys : List Y). slice_get (ys ++ flat_map f xs) n ≡ Some y) e at))
      by later (inr (v, e)) = behind later v e n refl (subst (λ (ys : List Y). slice_get (ys ++ flat_map f xs) n ≡ Some y) e at)
