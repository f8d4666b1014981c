-- A loop that looks for the first item of which a fact doesn't hold: what it keeps.
use Rattle.std.proofs.Common.{◌≡◌, ℕ, ◌+◌, ◌<◌, Bool, true, List, ◌∷◌, length, get_or, map, drop, sym, ap, subst, ◌∙◌}
use Rattle.std.specs.List.{AllByRecursion as Each, list_all}
use Rattle.std.proofs.lemmas.Bool.{and_parts}
use Rattle.std.proofs.lemmas.List.{drop_more}

module _ {A X : Type 0} (view : A → X) (inside : ℕ → A → Bool) (P : X → Type 0) (xs : List A) where
  -- the fact holds of the items before this one: it holds of all of the rest exactly where it holds of all
  pub record Going (i : ℕ) : Type 0 where
    pub back : Each P (map view (drop i xs)) → Each P (map view xs)
    pub on : Each P (map view xs) → Each P (map view (drop i xs))
    pub within : (n : ℕ) → list_all (inside n) xs ≡ true → list_all (inside n) (drop i xs) ≡ true

  -- and of this one
  pub going_on : (there : List A) → there ≡ xs → (i : ℕ) (a : A) → i < length there → a ≡ get_or there i a → Going i → P (view a) → Going (i + 1)
  going_on there same i a lt read h p =
      let below : i < length xs = subst (λ (l : List A). i < length l) same lt in
      let item : a ≡ get_or xs i a = read ∙ ap (λ (l : List A). get_or l i a) same in
      let here : drop i xs ≡ a ∷ drop (i + 1) xs = drop_more xs i a below ∙ ap (λ (x : A). x ∷ drop (i + 1) xs) (sym item) in
      record {
        back = λ rest. h.back (subst (λ (l : List A). Each P (map view l)) (sym here) (p, rest));
        on = λ all. (subst (λ (l : List A). Each P (map view l)) here (h.on all)).1;
        within = λ n all. (and_parts (inside n a) (list_all (inside n) (drop (i + 1) xs)) (sym (ap (list_all (inside n)) here) ∙ h.within n all)).1;
      }
