-- Names of which no two have one key are distinct, and so are fewer of them.
use Rattle.std.proofs.Common.{◌≡◌, ℕ, Bool, true, false, not, cond, ◌&&◌, ◌||◌, List, [], ◌∷◌, ◌++◌, map, refl, sym, ap, ◌∙◌}
use Rattle.std.specs.Prelude.{bytes_eq, filter}
use Rattle.std.specs.List.{list_any, list_all}
use Rattle.std.proofs.lemmas.Bool.{and_parts, and_from}
use Rattle.std.proofs.lemmas.List.{map-append}
use Rattle.std.proofs.lemmas.List.Folds.{list_any-append}
use Rattle.std.proofs.lemmas.Slice.Eq.{bytes_eq-Decides}
use Rattle.distinct_names.specs.Names.{is_new, all_new}
use Rattle.plain_worlds.specs.World.{FunctionItem, name_key, function_keys, function_fits, functions_fit}

pub not_or : (a b : Bool) → not (a || b) ≡ (not a && not b)
not_or true b = refl
not_or false b = refl

-- ---- one key, one name

module _ (key : List ℕ → List ℕ) where
  other_name : (a b : List ℕ) (t : Bool) → bytes_eq a b ≡ t → not (bytes_eq (key a) (key b)) ≡ true → not t ≡ true
  other_name a b true same e =
      let one : bytes_eq (key a) (key b) ≡ true = (bytes_eq-Decides (key a) (key b)).1 (ap key ((bytes_eq-Decides a b).0 same)) in
      let bad : not true ≡ true = sym (ap not one) ∙ e in
      absurd cc
  other_name a b false same e = refl

  new_of_key : (seen : List (List ℕ)) (name : List ℕ) → is_new (map key seen) (key name) ≡ true → is_new seen name ≡ true
  new_of_key [] name e = refl
  new_of_key (n ∷ seen) name e =
      let parts = and_parts (not (bytes_eq (key name) (key n))) (is_new (map key seen) (key name)) (sym (not_or (bytes_eq (key name) (key n)) (list_any (bytes_eq (key name)) (map key seen))) ∙ e) in
      not_or (bytes_eq name n) (list_any (bytes_eq name) seen) ∙ and_from _ _ (other_name name n (bytes_eq name n) refl parts.0) (new_of_key seen name parts.1)

  pub all_new_of_keys : {X : Type 0} (name : X → List ℕ) (seen : List (List ℕ)) (xs : List X) → all_new (map key seen) (map (λ x. key (name x)) xs) ≡ true → all_new seen (map name xs) ≡ true
  all_new_of_keys name seen [] e = refl
  all_new_of_keys name seen (x ∷ xs) e =
      let parts = and_parts (is_new (map key seen) (key (name x))) (all_new (map key seen ++ key (name x) ∷ []) (map (λ x. key (name x)) xs)) e in
      let rest : all_new (map key (seen ++ name x ∷ [])) (map (λ x. key (name x)) xs) ≡ true = ap (λ s. all_new s (map (λ x. key (name x)) xs)) (map-append key seen (name x ∷ [])) ∙ parts.1 in
      and_from _ _ (new_of_key seen (name x) parts.0) (all_new_of_keys name (seen ++ name x ∷ []) xs rest)

-- ---- fewer names

abbrev Fewer : List (List ℕ) → List (List ℕ) → Type 0
Fewer more fewer = (name : List ℕ) → is_new more name ≡ true → is_new fewer name ≡ true

pub is_new-append : (a b : List (List ℕ)) (name : List ℕ) → is_new (a ++ b) name ≡ (is_new a name && is_new b name)
is_new-append a b name = ap not (list_any-append (bytes_eq name) a b) ∙ not_or (list_any (bytes_eq name) a) (list_any (bytes_eq name) b)

fewer_behind : (more fewer back : List (List ℕ)) → Fewer more fewer → Fewer (more ++ back) (fewer ++ back)
fewer_behind more fewer back h name e =
    let parts = and_parts (is_new more name) (is_new back name) (sym (is_new-append more back name) ∙ e) in
    is_new-append fewer back name ∙ and_from _ _ (h name parts.0) parts.1

all_new_fewer : (more fewer names : List (List ℕ)) → Fewer more fewer → all_new more names ≡ true → all_new fewer names ≡ true
all_new_fewer more fewer [] h e = refl
all_new_fewer more fewer (n ∷ names) h e =
    let parts = and_parts (is_new more n) (all_new (more ++ n ∷ []) names) e in
    and_from _ _ (h n parts.0) (all_new_fewer (more ++ n ∷ []) (fewer ++ n ∷ []) names (fewer_behind more fewer (n ∷ []) h) parts.1)

-- one that was seen is left out
pub all_new_without : (seen : List (List ℕ)) (one : List ℕ) (names : List (List ℕ)) → all_new (seen ++ one ∷ []) names ≡ true → all_new seen names ≡ true
all_new_without seen one names = all_new_fewer (seen ++ one ∷ []) seen names (λ name e. (and_parts (is_new seen name) (is_new (one ∷ []) name) (sym (is_new-append seen (one ∷ []) name) ∙ e)).0)

module _ {X : Type 0} (name : X → List ℕ) (test : X → Bool) where
  abbrev kept : Bool → X → List X → List X
  kept b x xs = cond b (x ∷ filter test xs) (filter test xs)

  pub all_new_filter : (seen : List (List ℕ)) (xs : List X) → all_new seen (map name xs) ≡ true → all_new seen (map name (filter test xs)) ≡ true
  all_new_filter seen [] e = refl
  all_new_filter seen (x ∷ xs) e =
      let parts = and_parts (is_new seen (name x)) (all_new (seen ++ name x ∷ []) (map name xs)) e in
      elim (test x) as (λ b. all_new seen (map name (kept b x xs)) ≡ true) [
        | true ↦ and_from _ _ parts.0 (all_new_filter (seen ++ name x ∷ []) xs parts.1)
        | false ↦ all_new_filter seen xs (all_new_without seen (name x) (map name xs) parts.1)
      ]

  pub list_all_filter : (good : X → Bool) (xs : List X) → list_all good xs ≡ true → list_all good (filter test xs) ≡ true
  list_all_filter good [] e = refl
  list_all_filter good (x ∷ xs) e =
      let parts = and_parts (good x) (list_all good xs) e in
      elim (test x) as (λ b. list_all good (kept b x xs) ≡ true) [
        | true ↦ and_from _ _ parts.0 (list_all_filter good xs parts.1)
        | false ↦ list_all_filter good xs parts.1
      ]

-- ---- functions

pub parameters_differ : (f : FunctionItem) → function_fits f ≡ true → all_new [] (map (λ p. p.name) f.ty.params) ≡ true
parameters_differ f e = all_new_of_keys name_key (λ p. p.name) [] f.ty.params (and_parts _ _ e).1

abbrev pub names_of : List FunctionItem → List (List ℕ)
names_of fs = map (λ f. f.name) fs

pub functions_differ : (fs : List FunctionItem) → functions_fit fs ≡ true → all_new [] (names_of fs) ≡ true
functions_differ fs e = all_new_of_keys name_key (λ f. f.name) [] fs (and_parts (list_all function_fits fs) (all_new [] (function_keys fs)) e).1

-- some of the functions
pub some_fit : (test : FunctionItem → Bool) (fs : List FunctionItem) → functions_fit fs ≡ true → functions_fit (filter test fs) ≡ true
some_fit test fs e =
    let parts = and_parts (list_all function_fits fs) (all_new [] (function_keys fs)) e in
    and_from _ _ (list_all_filter (λ f. name_key f.name) test function_fits fs parts.0) (all_new_filter (λ f. name_key f.name) test [] fs parts.1)
