-- What the items of a list stand for, of which some are found and the rest is still to come.
use Rattle.std.proofs.Common.{◌≡◌, List, [], ◌∷◌, ◌++◌, Option, Some, None, refl, sym, subst, ap, ◌∙◌, append_assoc}
use Rattle.std.proofs.lemmas.List.{append-nil}
use Rattle.std.specs.Prelude.{option_map}
use Rattle.std.specs.List.{filter_map}
use Rattle.plain_worlds.specs.World.{put, each_of}

module _ {A B : Type 0} (f : A → Option B) (all : List A) where
  -- ---- each stands for something

  abbrev pub AreEach : List B → List A → Type 0
  AreEach found rest = option_map (λ (ys : List B). found ++ ys) (each_of f rest) ≡ each_of f all

  moved : (found : List B) (y : B) (o : Option (List B)) → option_map (λ (ys : List B). (found ++ y ∷ []) ++ ys) o ≡ option_map (λ (ys : List B). found ++ ys) (put (Some y) o)
  moved found y None = refl
  moved found y (Some ys) = ap Some (append_assoc found (y ∷ []) ys)

  nothing : (found : List B) (o : Option (List B)) → option_map (λ (ys : List B). found ++ ys) (put None o) ≡ None
  nothing found None = refl
  nothing found (Some ys) = refl

  pub one_more : (found : List B) (left rest : List A) (x : A) (y : B) → AreEach found left → left ≡ x ∷ rest → f x ≡ Some y → AreEach (found ++ y ∷ []) rest
  one_more found left rest x y are step is =
      moved found y (each_of f rest) ∙ ap (λ (o : Option B). option_map (λ (ys : List B). found ++ ys) (put o (each_of f rest))) (sym is)
      ∙ ap (λ (xs : List A). option_map (λ (ys : List B). found ++ ys) (each_of f xs)) (sym step) ∙ are

  pub none_here : (found : List B) (left rest : List A) (x : A) → AreEach found left → left ≡ x ∷ rest → f x ≡ None → None ≡ each_of f all
  none_here found left rest x are step is =
      sym (nothing found (each_of f rest)) ∙ ap (λ (o : Option B). option_map (λ (ys : List B). found ++ ys) (put o (each_of f rest))) (sym is)
      ∙ ap (λ (xs : List A). option_map (λ (ys : List B). found ++ ys) (each_of f xs)) (sym step) ∙ are

  pub each_found : (found : List B) (left : List A) → AreEach found left → left ≡ [] → Some found ≡ each_of f all
  each_found found left are none =
      ap Some (sym (append-nil found)) ∙ ap (λ (xs : List A). option_map (λ (ys : List B). found ++ ys) (each_of f xs)) (sym none) ∙ are

  -- ---- some do

  abbrev pub AreSome : List B → List A → Type 0
  AreSome found rest = found ++ filter_map f rest ≡ filter_map f all

  pub one_found : (found : List B) (left rest : List A) (x : A) (y : B) → AreSome found left → left ≡ x ∷ rest → f x ≡ Some y → AreSome (found ++ y ∷ []) rest
  one_found found left rest x y are step is =
      let here : found ++ filter_map f (x ∷ rest) ≡ filter_map f all = subst (λ (xs : List A). found ++ filter_map f xs ≡ filter_map f all) step are in
      append_assoc found (y ∷ []) (filter_map f rest) ∙ (rw is at here)

  pub none_found : (found : List B) (left rest : List A) (x : A) → AreSome found left → left ≡ x ∷ rest → f x ≡ None → AreSome found rest
  none_found found left rest x are step is =
      let here : found ++ filter_map f (x ∷ rest) ≡ filter_map f all = subst (λ (xs : List A). found ++ filter_map f xs ≡ filter_map f all) step are in
      (rw is at here)

  pub some_found : (found : List B) (left : List A) → AreSome found left → left ≡ [] → found ≡ filter_map f all
  some_found found left are none = sym (append-nil found) ∙ (subst (λ (xs : List A). found ++ filter_map f xs ≡ filter_map f all) none are)
