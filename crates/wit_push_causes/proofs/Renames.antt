-- A name is changed to one other.
use Rattle.std.proofs.Common.{◌≡◌, ℕ, suc, List, [], ◌∷◌, ◌++◌, ◌⊎◌, inl, inr, refl, sym, ap, ap₂, subst, ◌∙◌, arith, codes}
use Rattle.wit_types.specs.declared.world.IncludeName.{IncludeName}
use Rattle.wit_types.specs.Function.{HasNoDot}
use Rattle.wit_sides.specs.Renames.{through, IsRenamedFunction, of_resource, of_none, HasNoMark, IsRenamed, constructor_of, method_of, static_of, plain}
use Rattle.wit_push_causes.proofs.Lists.{head_of, tail_of}

-- ---- texts at their first dot

first_not : (x : ℕ) (xs : List ℕ) → HasNoDot (x ∷ xs) → x ≡ 46 → ⊥
first_not x xs h e = h 0 0 (omega arith) e

rest_not : (x : ℕ) (xs : List ℕ) → HasNoDot (x ∷ xs) → HasNoDot xs
rest_not x xs h = λ i d l. h (suc i) d (omega (arith, l))

no_dot_in : (xs item : List ℕ) → HasNoDot (xs ++ 46 ∷ item) → ⊥
no_dot_in [] item h = first_not 46 item h refl
no_dot_in (x ∷ xs) item h = no_dot_in xs item (rest_not x (xs ++ 46 ∷ item) h)

split_one : (xs ys a b : List ℕ) → HasNoDot xs → HasNoDot ys → xs ++ 46 ∷ a ≡ ys ++ 46 ∷ b → (xs ≡ ys) × (a ≡ b)
split_one [] [] a b h k e = (refl, tail_of 46 46 a b e)
split_one [] (y ∷ ys) a b h k e = absurd (first_not y ys k (sym (head_of 46 y a (ys ++ 46 ∷ b) e)))
split_one (x ∷ xs) [] a b h k e = absurd (first_not x xs h (head_of x 46 (xs ++ 46 ∷ a) b e))
split_one (x ∷ xs) (y ∷ ys) a b h k e =
    let r = split_one xs ys a b (rest_not x xs h) (rest_not y ys k) (tail_of x y (xs ++ 46 ∷ a) (ys ++ 46 ∷ b) e) in
    (ap₂ (λ (z : ℕ) (zs : List ℕ). z ∷ zs) (head_of x y (xs ++ 46 ∷ a) (ys ++ 46 ∷ b) e) r.0, r.1)

front_gone : (m xs ys : List ℕ) → m ++ xs ≡ m ++ ys → xs ≡ ys
front_gone [] xs ys e = e
front_gone (x ∷ m) xs ys e = front_gone m xs ys (tail_of x x (m ++ xs) (m ++ ys) e)

-- ---- functions of resources

module _ (names : List IncludeName) (mark : List ℕ) where
  abbrev Of : List ℕ → List ℕ → Type 0
  Of name to =
      ((resource : List ℕ) × (item : List ℕ) × HasNoDot resource × (name ≡ resource ++ 46 ∷ item) × (to ≡ mark ++ (through names resource ++ 46 ∷ item)))
      ⊎ (HasNoDot name × (to ≡ mark ++ name))

  of : (name to : List ℕ) → IsRenamedFunction names mark name to → Of name to
  of _ _ (of_resource resource item none) = inl (resource, item, none, refl, refl)
  of _ _ (of_none name none) = inr (none, refl)

  of_one : (name a b : List ℕ) → Of name a → Of name b → a ≡ b
  of_one name a b (inl (r, i, none, is, to)) (inl (s, j, also, at, too)) =
      let e = split_one r s i j none also (sym is ∙ at) in
      to ∙ ap₂ (λ (x y : List ℕ). mark ++ (through names x ++ 46 ∷ y)) e.0 e.1 ∙ sym too
  of_one name a b (inl (r, i, none, is, to)) (inr (dotless, too)) = absurd (no_dot_in r i (subst HasNoDot is dotless))
  of_one name a b (inr (dotless, too)) (inl (r, i, none, is, to)) = absurd (no_dot_in r i (subst HasNoDot is dotless))
  of_one name a b (inr (dotless, to)) (inr (also, too)) = to ∙ sym too

  function_one : (name a b : List ℕ) → IsRenamedFunction names mark name a → IsRenamedFunction names mark name b → a ≡ b
  function_one name a b x y = of_one name a b (of name a x) (of name b y)

-- ---- names

-- the first letter of a mark
abbrev letter : List ℕ → ℕ
letter [] = 0
letter (x ∷ []) = 0
letter (x ∷ (y ∷ xs)) = y

constructor_method : (xs ys : List ℕ) → codes "[constructor]" ++ xs ≡ codes "[method]" ++ ys → ⊥
constructor_method xs ys e = let other : 99 ≡ 109 = ap letter e in absurd (omega (arith, other))

constructor_static : (xs ys : List ℕ) → codes "[constructor]" ++ xs ≡ codes "[static]" ++ ys → ⊥
constructor_static xs ys e = let other : 99 ≡ 115 = ap letter e in absurd (omega (arith, other))

method_static : (xs ys : List ℕ) → codes "[method]" ++ xs ≡ codes "[static]" ++ ys → ⊥
method_static xs ys e = let other : 109 ≡ 115 = ap letter e in absurd (omega (arith, other))

module _ (names : List IncludeName) where
  abbrev Is : List ℕ → List ℕ → Type 0
  Is name to =
      ((resource : List ℕ) × (name ≡ codes "[constructor]" ++ resource) × (to ≡ codes "[constructor]" ++ through names resource))
      ⊎ ((rest : List ℕ) × (name ≡ codes "[method]" ++ rest) × IsRenamedFunction names (codes "[method]") rest to)
      ⊎ ((rest : List ℕ) × (name ≡ codes "[static]" ++ rest) × IsRenamedFunction names (codes "[static]") rest to)
      ⊎ (HasNoMark (codes "[constructor]") name × HasNoMark (codes "[method]") name × HasNoMark (codes "[static]") name × (to ≡ through names name))

  is : (name to : List ℕ) → IsRenamed names name to → Is name to
  is _ _ (constructor_of resource) = inl (resource, refl, refl)
  is _ _ (method_of name to f) = inr (inl (name, refl, f))
  is _ _ (static_of name to f) = inr (inr (inl (name, refl, f)))
  is _ _ (plain name a b c) = inr (inr (inr (a, b, c, refl)))

  is_one : (name a b : List ℕ) → Is name a → Is name b → a ≡ b
  is_one name a b (inl (r, e, to)) (inl (s, f, too)) = to ∙ ap (λ (x : List ℕ). codes "[constructor]" ++ through names x) (front_gone (codes "[constructor]") r s (sym e ∙ f)) ∙ sym too
  is_one name a b (inl (r, e, to)) (inr (inl (s, f, y))) = absurd (constructor_method r s (sym e ∙ f))
  is_one name a b (inl (r, e, to)) (inr (inr (inl (s, f, y)))) = absurd (constructor_static r s (sym e ∙ f))
  is_one name a b (inl (r, e, to)) (inr (inr (inr (c, m, t, too)))) = absurd (c r e)
  is_one name a b (inr (inl (r, e, x))) (inl (s, f, too)) = absurd (constructor_method s r (sym f ∙ e))
  is_one name a b (inr (inl (r, e, x))) (inr (inl (s, f, y))) = function_one names (codes "[method]") r a b x (subst (λ (z : List ℕ). IsRenamedFunction names (codes "[method]") z b) (front_gone (codes "[method]") s r (sym f ∙ e)) y)
  is_one name a b (inr (inl (r, e, x))) (inr (inr (inl (s, f, y)))) = absurd (method_static r s (sym e ∙ f))
  is_one name a b (inr (inl (r, e, x))) (inr (inr (inr (c, m, t, too)))) = absurd (m r e)
  is_one name a b (inr (inr (inl (r, e, x)))) (inl (s, f, too)) = absurd (constructor_static s r (sym f ∙ e))
  is_one name a b (inr (inr (inl (r, e, x)))) (inr (inl (s, f, y))) = absurd (method_static s r (sym f ∙ e))
  is_one name a b (inr (inr (inl (r, e, x)))) (inr (inr (inl (s, f, y)))) = function_one names (codes "[static]") r a b x (subst (λ (z : List ℕ). IsRenamedFunction names (codes "[static]") z b) (front_gone (codes "[static]") s r (sym f ∙ e)) y)
  is_one name a b (inr (inr (inl (r, e, x)))) (inr (inr (inr (c, m, t, too)))) = absurd (t r e)
  is_one name a b (inr (inr (inr (c, m, t, to)))) (inl (s, f, too)) = absurd (c s f)
  is_one name a b (inr (inr (inr (c, m, t, to)))) (inr (inl (s, f, y))) = absurd (m s f)
  is_one name a b (inr (inr (inr (c, m, t, to)))) (inr (inr (inl (s, f, y)))) = absurd (t s f)
  is_one name a b (inr (inr (inr (c, m, t, to)))) (inr (inr (inr (d, n, u, too)))) = to ∙ sym too

  -- where names are spelled alike, so are the ones to which they are changed
  pub renamed_one : (x y a b : List ℕ) → x ≡ y → IsRenamed names x a → IsRenamed names y b → a ≡ b
  renamed_one x y a b e p q = is_one x a b (is x a p) (is x b (subst (λ (z : List ℕ). IsRenamed names z b) (sym e) q))
