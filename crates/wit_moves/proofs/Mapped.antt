-- Lists that are changed in place, from the front on.
use Rattle.std.proofs.Common.{◌≡◌, ℕ, ◌<◌, ◌≤◌, ◌+◌, zero, suc, List, [], ◌∷◌, refl, sym, ap, arith, get_or, length, set, ◌∙◌, add-one, map}
use Rattle.std.proofs.lemmas.List.{length-map, with_items_is}
use Rattle.std.specs.Prelude.{Vec}
use Rattle.std.specs.Vec.{with_items}
use Rattle.std.specs.declared.alloc.Global.{Global}

-- the first of them are mapped
abbrev pub mapped : {X : Type 0} → (X → X) → ℕ → List X → List X
mapped f zero xs = xs
mapped f (suc n) [] = []
mapped f (suc n) (x ∷ xs) = f x ∷ mapped f n xs

module _ {X : Type 0} (f : X → X) where
  here : (k : ℕ) (xs : List X) (d : X) → get_or (mapped f k xs) k d ≡ get_or xs k d
  here zero xs d = refl
  here (suc k) [] d = refl
  here (suc k) (x ∷ xs) d = here k xs d

  next : (k : ℕ) (xs : List X) (d y : X) → k < length xs → y ≡ f (get_or xs k d) → set (mapped f k xs) k y ≡ mapped f (suc k) xs
  next k [] d y l e = absurd (omega arith)
  next zero (x ∷ xs) d y l e = ap (λ (z : X). z ∷ xs) e
  next (suc k) (x ∷ xs) d y l e = ap (λ (zs : List X). f x ∷ zs) (next k xs d y (omega arith) e)

  all : (k : ℕ) (xs : List X) → length xs ≤ k → mapped f k xs ≡ map f xs
  all zero [] l = refl
  all zero (x ∷ xs) l = absurd (omega arith)
  all (suc k) [] l = refl
  all (suc k) (x ∷ xs) l = ap (λ (zs : List X). f x ∷ zs) (all k xs (omega arith))

  -- one more is changed
  pub mapped_more : (k : ℕ) (xs ys : List X) (d y : X) → ys ≡ mapped f k xs → k < length xs → y ≡ f (get_or ys k d) → set ys k y ≡ mapped f (k + 1) xs
  mapped_more k xs ys d y e l same =
      ap (λ (zs : List X). set zs k y) e ∙ next k xs d y l (same ∙ ap f (ap (λ (zs : List X). get_or zs k d) e ∙ here k xs d)) ∙ ap (λ (n : ℕ). mapped f n xs) (sym (add-one k))

  -- all are changed
  pub mapped_all : (k : ℕ) (xs ys : List X) → ys ≡ mapped f k xs → length xs ≤ k → ys ≡ map f xs
  mapped_all k xs ys e l = e ∙ all k xs l

-- a vector whose elements were changed in place
pub changed_items : {X : Type 0} (f : X → X) (v : Vec X Global) (ws now : List X) → ws ≡ map f now → now ≡ v.items → (with_items v ws).items ≡ map f v.items
changed_items f v ws now e lent = (let is = e ∙ ap (map f) lent in with_items_is v ws (ap length is ∙ length-map v.items f ∙ sym v.ok.0) ∙ is)
