-- First places of names.
use Rattle.std.proofs.Common.{◌≡◌, ℕ, ◌<◌, zero, suc, List, [], ◌∷◌, ◌++◌, take, length, arith, Bool, true, false, cond, Option, Some, None, is_some, refl, sym, ap, ◌∙◌, ◌⊎◌, inl, inr}
use Rattle.std.specs.Prelude.{option_map, slice_get, bytes_eq}
use Rattle.std.specs.List.{list_any}
use Rattle.std.proofs.lemmas.Option.{same_Some}
use Rattle.std.proofs.lemmas.Bool.{cases_Bool}
use Rattle.std.proofs.lemmas.Slice.Eq.{bytes_eq-Decides}
use Rattle.name_places.specs.FirstPlaces.{place_of}

-- the first, or else the second
abbrev or_else : Option ℕ → Option ℕ → Option ℕ
or_else None b = b
or_else (Some a) b = Some a

or_none : (a : Option ℕ) → or_else a None ≡ a
or_none None = refl
or_none (Some a) = refl

or_some : (a b : Option ℕ) → is_some a ≡ true → or_else a b ≡ a
or_some None b h = cc
or_some (Some a) b h = refl

one_later : (a : Option ℕ) (b : Bool) (k : ℕ) → option_map suc (or_else a (cond b (Some k) None)) ≡ or_else (option_map suc a) (cond b (Some (suc k)) None)
one_later None true k = refl
one_later None false k = refl
one_later (Some a) b k = refl

place_push : (name : List ℕ) (ns : List (List ℕ)) (n : List ℕ) → place_of name (ns ++ n ∷ []) ≡ or_else (place_of name ns) (cond (bytes_eq name n) (Some (length ns)) None)
place_push name [] n = refl
place_push name (m ∷ ns) n = elim (cases_Bool (bytes_eq name m)) [
  | inl t ↦ rw t refl
  | inr t ↦ rw t (ap (option_map suc) (place_push name ns n) ∙ one_later (place_of name ns) (bytes_eq name n) (length ns))
]

-- names are equal either way round
apart : (a b : List ℕ) → bytes_eq a b ≡ false → bytes_eq b a ≡ false
apart a b f = elim (cases_Bool (bytes_eq b a)) [
  | inl t ↦ let bad : bytes_eq a b ≡ true = rw ((bytes_eq-Decides b a).0 t) ((bytes_eq-Decides a a).1 refl) in cc
  | inr t ↦ t
]

is_none : (a : Option ℕ) → is_some a ≡ false → a ≡ None
is_none None h = refl
is_none (Some a) h = cc

-- in names with one more behind them a name has the place that it had, or it is that one
pub place_pushed : (name : List ℕ) (ns : List (List ℕ)) (n : List ℕ) (p : ℕ) → place_of name (ns ++ n ∷ []) ≡ Some p → (place_of name ns ≡ Some p) ⊎ ((p ≡ length ns) × (name ≡ n))
place_pushed name ns n p h = by (place_of name ns) refl (bytes_eq name n) refl
  where
    by : (o : Option ℕ) → place_of name ns ≡ o → (b : Bool) → bytes_eq name n ≡ b → (place_of name ns ≡ Some p) ⊎ ((p ≡ length ns) × (name ≡ n))
    by (Some q) e b t = inl (e ∙ sym (ap (λ (o : Option ℕ). or_else o (cond (bytes_eq name n) (Some (length ns)) None)) e) ∙ sym (place_push name ns n) ∙ h)
    by None e true t =
        let q : Some (length ns) ≡ Some p =
        sym (ap (λ (o : Option ℕ). or_else o (cond (bytes_eq name n) (Some (length ns)) None)) e ∙ ap (λ (b : Bool). cond b (Some (length ns)) None) t) ∙ sym (place_push name ns n) ∙ h in
        inr (sym (same_Some (length ns) p q), (bytes_eq-Decides name n).0 t)
    by None e false t =
        absurd (let q : None ≡ Some p =
        sym (ap (λ (o : Option ℕ). or_else o (cond (bytes_eq name n) (Some (length ns)) None)) e ∙ ap (λ (b : Bool). cond b (Some (length ns)) None) t) ∙ sym (place_push name ns n) ∙ h in cc)

module _ (ns : List (List ℕ)) (n : List ℕ) (old : List ℕ → Option ℕ) (right : (name : List ℕ) → old name ≡ place_of name ns) where
  -- a name that is there keeps its place
  pub place_of_known : is_some (old n) ≡ true → (name : List ℕ) → old name ≡ place_of name (ns ++ n ∷ [])
  place_of_known there name = elim (cases_Bool (bytes_eq name n)) [
    | inl t ↦
        let known : is_some (place_of name ns) ≡ true = ap is_some (sym (right name)) ∙ ap (λ (x : List ℕ). is_some (old x)) ((bytes_eq-Decides name n).0 t) ∙ there in
        right name ∙ sym (place_push name ns n ∙ or_some (place_of name ns) (cond (bytes_eq name n) (Some (length ns)) None) known)
    | inr t ↦
        let same : or_else (place_of name ns) (cond (bytes_eq name n) (Some (length ns)) None) ≡ place_of name ns = rw t (or_none (place_of name ns)) in
        right name ∙ sym (place_push name ns n ∙ same)
  ]

  -- a name that is new is there at the end
  pub place_of_new : is_some (old n) ≡ false → (new : List ℕ → Option ℕ) → ((name : List ℕ) → new name ≡ cond (bytes_eq n name) (Some (length ns)) (old name)) → (name : List ℕ) → new name ≡ place_of name (ns ++ n ∷ [])
  place_of_new absent new update name = elim (cases_Bool (bytes_eq n name)) [
    | inl t ↦
        let same : n ≡ name = (bytes_eq-Decides n name).0 t in
        let none : place_of name ns ≡ None = sym (right name) ∙ ap old (sym same) ∙ is_none (old n) absent in
        let here : bytes_eq name n ≡ true = ap (λ (x : List ℕ). bytes_eq name x) same ∙ (bytes_eq-Decides name name).1 refl in
        let last : or_else (place_of name ns) (cond (bytes_eq name n) (Some (length ns)) None) ≡ Some (length ns) = rw (none, here) refl in
        let value : cond (bytes_eq n name) (Some (length ns)) (old name) ≡ Some (length ns) = rw t refl in
        update name ∙ value ∙ sym (place_push name ns n ∙ last)
    | inr t ↦
        let other : or_else (place_of name ns) (cond (bytes_eq name n) (Some (length ns)) None) ≡ place_of name ns = rw (apart n name t) (or_none (place_of name ns)) in
        let value : cond (bytes_eq n name) (Some (length ns)) (old name) ≡ old name = rw t refl in
        update name ∙ value ∙ right name ∙ sym (place_push name ns n ∙ other)
  ]

-- where a name gets another value and then its own again, each has the value that it had
pub put_back : (n : List ℕ) (old mid new : List ℕ → Option ℕ) (first other : ℕ) → old n ≡ Some first
    → ((name : List ℕ) → mid name ≡ cond (bytes_eq n name) (Some other) (old name))
    → ((name : List ℕ) → new name ≡ cond (bytes_eq n name) (Some first) (mid name))
    → (name : List ℕ) → new name ≡ old name
put_back n old mid new first other had away back name = elim (cases_Bool (bytes_eq n name)) [
  | inl t ↦
      let value : cond (bytes_eq n name) (Some first) (mid name) ≡ Some first = rw t refl in
      back name ∙ value ∙ sym had ∙ ap old ((bytes_eq-Decides n name).0 t)
  | inr t ↦
      let kept : cond (bytes_eq n name) (Some first) (mid name) ≡ mid name = rw t refl in
      let same : cond (bytes_eq n name) (Some other) (old name) ≡ old name = rw t refl in
      back name ∙ kept ∙ away name ∙ same
]

-- a place lies within the list
pub place_within : (name : List ℕ) (ns : List (List ℕ)) (p : ℕ) → place_of name ns ≡ Some p → p < length ns
place_within name [] p h = absurd cc
place_within name (n ∷ ns) p h = here (λ k e. place_within name ns k e) (bytes_eq name n) refl (place_of name ns) refl
  where
    here : ((k : ℕ) → place_of name ns ≡ Some k → k < length ns) → (b : Bool) → bytes_eq name n ≡ b → (o : Option ℕ) → place_of name ns ≡ o → p < length (n ∷ ns)
    here behind true t o e = (let q : Some 0 ≡ Some p = sym (ap (λ (b : Bool). cond b (Some 0) (option_map suc (place_of name ns))) t) ∙ h in let z : 0 ≡ p = same_Some 0 p q in omega arith)
    here behind false t None e = absurd (let q : None ≡ Some p = sym (ap (λ (b : Bool). cond b (Some 0) (option_map suc (place_of name ns))) t ∙ ap (option_map suc) e) ∙ h in cc)
    here behind false t (Some k) e =
        let q : Some (suc k) ≡ Some p = sym (ap (λ (b : Bool). cond b (Some 0) (option_map suc (place_of name ns))) t ∙ ap (option_map suc) e) ∙ h in
        let less : k < length ns = behind k e in
        let z : suc k ≡ p = same_Some (suc k) p q in omega arith

-- a name that is one of the first names has the same place in all of them
pub place_in_front : (name : List ℕ) (ns : List (List ℕ)) (k p : ℕ) → place_of name (take k ns) ≡ Some p → (place_of name ns ≡ Some p) × (p < k)
place_in_front name ns zero p h = absurd cc
place_in_front name [] (suc k) p h = absurd cc
place_in_front name (n ∷ ns) (suc k) p h = here (λ q e. place_in_front name ns k q e) (bytes_eq name n) refl (place_of name (take k ns)) refl
  where
    here : ((q : ℕ) → place_of name (take k ns) ≡ Some q → (place_of name ns ≡ Some q) × (q < k)) → (b : Bool) → bytes_eq name n ≡ b → (o : Option ℕ) → place_of name (take k ns) ≡ o → (place_of name (n ∷ ns) ≡ Some p) × (p < suc k)
    here behind true t o e =
        let q : Some 0 ≡ Some p = sym (ap (λ (b : Bool). cond b (Some 0) (option_map suc (place_of name (take k ns)))) t) ∙ h in
        let z : 0 ≡ p = same_Some 0 p q in
        (ap (λ (b : Bool). cond b (Some 0) (option_map suc (place_of name ns))) t ∙ q, omega arith)
    here behind false t None e = absurd (let q : None ≡ Some p = sym (ap (λ (b : Bool). cond b (Some 0) (option_map suc (place_of name (take k ns)))) t ∙ ap (option_map suc) e) ∙ h in cc)
    here behind false t (Some q) e =
        let r : Some (suc q) ≡ Some p = sym (ap (λ (b : Bool). cond b (Some 0) (option_map suc (place_of name (take k ns)))) t ∙ ap (option_map suc) e) ∙ h in
        let z : suc q ≡ p = same_Some (suc q) p r in
        let l : q < k = (behind q e).1 in
        (ap (λ (b : Bool). cond b (Some 0) (option_map suc (place_of name ns))) t ∙ ap (option_map suc) (behind q e).0 ∙ r, omega arith)

-- a name has a place exactly where it is one of these
pub place-is_some : (name : List ℕ) (ns : List (List ℕ)) → is_some (place_of name ns) ≡ list_any (bytes_eq name) ns
place-is_some name [] = refl
place-is_some name (n ∷ ns) = elim (cases_Bool (bytes_eq name n)) [
  | inl t ↦ rw t refl
  | inr t ↦ rw t (later (place_of name ns) ∙ place-is_some name ns)
]
  where
    later : (o : Option ℕ) → is_some (option_map suc o) ≡ is_some o
    later None = refl
    later (Some k) = refl

-- at the place of a name stands that name
pub place_names : (name : List ℕ) (ns : List (List ℕ)) (p : ℕ) → place_of name ns ≡ Some p → slice_get ns p ≡ Some name
place_names name [] p h = absurd cc
place_names name (n ∷ ns) p h = here (λ k e. place_names name ns k e) (bytes_eq name n) refl (place_of name ns) refl
  where
    here : ((k : ℕ) → place_of name ns ≡ Some k → slice_get ns k ≡ Some name) → (b : Bool) → bytes_eq name n ≡ b → (o : Option ℕ) → place_of name ns ≡ o → slice_get (n ∷ ns) p ≡ Some name
    here behind true t o e =
        let q : Some 0 ≡ Some p = sym (ap (λ (b : Bool). cond b (Some 0) (option_map suc (place_of name ns))) t) ∙ h in
        ap (slice_get (n ∷ ns)) (sym (same_Some 0 p q)) ∙ ap (λ (x : List ℕ). Some x) (sym ((bytes_eq-Decides name n).0 t))
    here behind false t None e = absurd (let q : None ≡ Some p = sym (ap (λ (b : Bool). cond b (Some 0) (option_map suc (place_of name ns))) t ∙ ap (option_map suc) e) ∙ h in cc)
    here behind false t (Some k) e =
        let q : Some (suc k) ≡ Some p = sym (ap (λ (b : Bool). cond b (Some 0) (option_map suc (place_of name ns))) t ∙ ap (option_map suc) e) ∙ h in
        ap (slice_get (n ∷ ns)) (sym (same_Some (suc k) p q)) ∙ behind k e

-- behind names that are others a name has the place of the next one, where it is that
pub place_next : (name : List ℕ) (ns : List (List ℕ)) (n : List ℕ) (ms : List (List ℕ)) → place_of name ns ≡ None → bytes_eq name n ≡ true → place_of name (ns ++ n ∷ ms) ≡ Some (length ns)
place_next name [] n ms h t = rw t refl
place_next name (m ∷ ns) n ms h t = here (λ f. place_next name ns n ms f t) (bytes_eq name m) refl (place_of name ns) refl
  where
    here : (place_of name ns ≡ None → place_of name (ns ++ n ∷ ms) ≡ Some (length ns)) → (b : Bool) → bytes_eq name m ≡ b → (o : Option ℕ) → place_of name ns ≡ o → place_of name ((m ∷ ns) ++ n ∷ ms) ≡ Some (length (m ∷ ns))
    here behind true e o f = absurd (let q : Some 0 ≡ None = sym (ap (λ (b : Bool). cond b (Some 0) (option_map suc (place_of name ns))) e) ∙ h in cc)
    here behind false e (Some k) f = absurd (let q : Some (suc k) ≡ None = sym (ap (λ (b : Bool). cond b (Some 0) (option_map suc (place_of name ns))) e ∙ ap (option_map suc) f) ∙ h in cc)
    here behind false e None f = rw e (ap (option_map suc) (behind f))

-- behind names that are others stands one that is another
pub place_other : (name : List ℕ) (ns : List (List ℕ)) (n : List ℕ) → place_of name ns ≡ None → bytes_eq name n ≡ false → place_of name (ns ++ n ∷ []) ≡ None
place_other name ns n h t = place_push name ns n ∙ rw (h, t) refl
