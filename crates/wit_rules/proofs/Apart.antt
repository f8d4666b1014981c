-- Names of one scope that keep their rule stand apart.
use Rattle.std.proofs.Common.{◌≡◌, ℕ, zero, suc, ◌<◌, Bool, true, false, ◌||◌, ◌+◌, List, [], ◌∷◌, ◌++◌, length, inl, inr, Some, map, take, refl, sym, ap, ◌∙◌, arith}
use Rattle.std.proofs.lemmas.Option.{slice_get-map, same_Some}
use Rattle.std.proofs.lemmas.Bool.{cases_lt}
use Rattle.std.proofs.lemmas.Slice.Eq.{bytes_eq-Decides}
use Rattle.std.specs.Prelude.{slice_get, bytes_eq, option_map, flat_map}
use Rattle.std.specs.List.{list_any}
use Rattle.wit_scopes.specs.Passed.wit_words-Slice.{Slice}
use Rattle.wit_scopes.specs.Passed.wit_words-NameKey.{name_key}
use Rattle.wit_rules.specs.declared.fault.PackageRule.TheVariants.{DuplicateName}
use Rattle.wit_rules.specs.Breaks.{IsKept, NamesBreak}

or_true : (b : Bool) → (b || true) ≡ true
or_true true = refl
or_true false = refl

any_taken : {X : Type 0} (f : X → Bool) (xs : List X) (i j : ℕ) (x : X) → i < j → slice_get xs i ≡ Some x → f x ≡ true → list_any f (take j xs) ≡ true
any_taken f [] i j x less there h = absurd cc
any_taken f (y ∷ xs) i zero x less there h = absurd (omega (arith, less))
any_taken f (y ∷ xs) zero (suc j) x less there h = ap (λ b. b || list_any f (take j xs)) (ap f (same_Some y x there) ∙ h)
any_taken f (y ∷ xs) (suc i) (suc j) x less there h = ap (λ b. f y || b) (any_taken f xs i j x (omega (arith, less)) there h) ∙ or_true (f y)

-- a name that stands behind one of the same text breaks the rule
again : (names : List Slice) → IsKept (NamesBreak names) → (i j : ℕ) (a b : Slice) → slice_get names i ≡ Some a → slice_get names j ≡ Some b → a.text ≡ b.text → i < j → ⊥
again names kept i j a b at_i at_j same less =
    let keys : List (List ℕ) = map (λ n. name_key n.text) names in
    let key_i : slice_get keys i ≡ Some (name_key a.text) = slice_get-map (λ n. name_key n.text) names i ∙ ap (option_map (λ n. name_key n.text)) at_i in
    let key_j : slice_get keys j ≡ Some (name_key b.text) = slice_get-map (λ n. name_key n.text) names j ∙ ap (option_map (λ n. name_key n.text)) at_j in
    kept DuplicateName b.span (record {
      rule_is = refl;
      place = j;
      again = record {
        key = name_key b.text;
        there = key_j;
        again = any_taken (bytes_eq (name_key b.text)) keys i j (name_key a.text) less key_i ((bytes_eq-Decides (name_key b.text) (name_key a.text)).1 (ap name_key (sym same)));
      };
      there = slice_get-map (λ n. n.span) names j ∙ ap (option_map (λ n. n.span)) at_j;
    })

-- names of one text stand at one place
pub apart : (names : List Slice) → IsKept (NamesBreak names) → (i j : ℕ) (a b : Slice) → slice_get names i ≡ Some a → slice_get names j ≡ Some b → a.text ≡ b.text → i ≡ j
apart names kept i j a b at_i at_j same =
    elim (cases_lt i j) as (λ _. i ≡ j) [
      | inl less ↦ absurd (again names kept i j a b at_i at_j same less)
      | inr past ↦ elim (cases_lt j i) as (λ _. i ≡ j) [
        | inl more ↦ absurd (again names kept j i b a at_j at_i (sym same) more)
        | inr not_more ↦ omega (arith, past, not_more)
      ]
    ]

-- ---- names that many give, of which each gives at most one

get_right : {X : Type 0} (xs ys : List X) (i : ℕ) (x : X) → slice_get ys i ≡ Some x → slice_get (xs ++ ys) (length xs + i) ≡ Some x
get_right {X} [] ys i x h = let e : length {A = X} [] + i ≡ i = omega arith in rw e h
get_right (y ∷ xs) ys i x h = let e : length (y ∷ xs) + i ≡ suc (length xs + i) = omega arith in rw e (get_right xs ys i x h)

module _ {X : Type 0} (given : X → List Slice) where
  given_place : (xs : List X) (j : ℕ) (y : X) (b : Slice) → slice_get xs j ≡ Some y → given y ≡ b ∷ [] → (q : ℕ) × (slice_get (flat_map given xs) q ≡ Some b)
  given_place [] j y b at h = absurd cc
  given_place (z ∷ xs) zero y b at h = (0, ap (λ (ns : List Slice). slice_get (ns ++ flat_map given xs) 0) (ap given (same_Some z y at) ∙ h))
  given_place (z ∷ xs) (suc j) y b at h = let r = given_place xs j y b at h in (length (given z) + r.0, get_right (given z) (flat_map given xs) r.0 b r.1)

  given_places : (xs : List X) (i j : ℕ) (x y : X) (a b : Slice) → i < j → slice_get xs i ≡ Some x → slice_get xs j ≡ Some y → given x ≡ a ∷ [] → given y ≡ b ∷ []
      → (p : ℕ) × (q : ℕ) × (p < q) × (slice_get (flat_map given xs) p ≡ Some a) × (slice_get (flat_map given xs) q ≡ Some b)
  given_places [] i j x y a b less at_i at_j h k = absurd cc
  given_places (z ∷ xs) i zero x y a b less at_i at_j h k = absurd (omega (arith, less))
  given_places (z ∷ xs) zero (suc j) x y a b less at_i at_j h k =
      let one : given z ≡ a ∷ [] = ap given (same_Some z x at_i) ∙ h in
      let r = given_place xs j y b at_j k in
      (0, suc r.0, omega arith, ap (λ (ns : List Slice). slice_get (ns ++ flat_map given xs) 0) one, ap (λ (ns : List Slice). slice_get (ns ++ flat_map given xs) (suc r.0)) one ∙ r.1)
  given_places (z ∷ xs) (suc i) (suc j) x y a b less at_i at_j h k =
      let r = given_places xs i j x y a b (omega (arith, less)) at_i at_j h k in
      (length (given z) + r.0, length (given z) + r.1, (let l : r.0 < r.1 = r.2 in omega (arith, l)), get_right (given z) (flat_map given xs) r.0 a r.3, get_right (given z) (flat_map given xs) r.1 b r.4)

  -- what gives names of one text is one
  pub givers_apart : (xs : List X) → IsKept (NamesBreak (flat_map given xs)) → (i j : ℕ) (x y : X) (a b : Slice) → slice_get xs i ≡ Some x → slice_get xs j ≡ Some y → given x ≡ a ∷ [] → given y ≡ b ∷ [] → a.text ≡ b.text → i ≡ j
  givers_apart xs kept i j x y a b at_i at_j h k same =
      elim (cases_lt i j) as (λ _. i ≡ j) [
        | inl less ↦ absurd (let r = given_places xs i j x y a b less at_i at_j h k in again (flat_map given xs) kept r.0 r.1 a b r.3 r.4 same r.2)
        | inr past ↦ elim (cases_lt j i) as (λ _. i ≡ j) [
          | inl more ↦ absurd (let r = given_places xs j i y x b a more at_j at_i k h in again (flat_map given xs) kept r.0 r.1 b a r.3 r.4 (sym same) r.2)
          | inr not_more ↦ omega (arith, past, not_more)
        ]
      ]
