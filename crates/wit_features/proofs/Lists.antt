-- Names of features, seen through the keys of a set.
use Rattle.std.proofs.Common.{◌≡◌, ℕ, Bool, true, false, cond, ◌⊎◌, inl, inr, List, [], ◌∷◌, ◌++◌, map, refl, sym, ap, ◌∙◌}
use Rattle.std.specs.Prelude.{String, bytes_eq, string_bytes}
use Rattle.std.specs.List.{list_any}
use Rattle.std.specs.declared.alloc.Global.{Global}
use Rattle.wit_features.specs.Features.{FeatureSet, with_name, is_active}

-- a test of the views is a test of what they are views of
list_any_map : {X Y : Type 0} (test : Y → Bool) (f : X → Y) (xs : List X) → list_any test (map f xs) ≡ list_any (λ x. test (f x)) xs
list_any_map test f [] = refl
list_any_map test f (x ∷ xs) = rw (list_any_map test f xs) refl

map_push : {X Y : Type 0} (f : X → Y) (xs : List X) (x : X) → map f (xs ++ x ∷ []) ≡ map f xs ++ f x ∷ []
map_push f [] x = refl
map_push f (y ∷ ys) x = rw (map_push f ys x) refl

abbrev pub spelled : List (String Global) → List (List ℕ)
spelled keys = map string_bytes keys

pub found_from : (s : FeatureSet) (keys : List (String Global)) (name : List ℕ) (b : Bool) → record { all = false; names = spelled keys } ≡ s → b ≡ list_any (λ k. bytes_eq name (string_bytes k)) keys → b ≡ is_active s name
found_from s keys name b view found = found ∙ sym (list_any_map (bytes_eq name) string_bytes keys) ∙ ap (λ (t : FeatureSet). is_active t name) view

either : (b : Bool) → (b ≡ true) ⊎ (b ≡ false)
either true = inl refl
either false = inr refl

pub added_from : (names : List (List ℕ)) (keys later : List (String Global)) (text : String Global) (name : List ℕ) → spelled keys ≡ names → string_bytes text ≡ name
    → later ≡ cond (list_any (λ k. bytes_eq (string_bytes text) (string_bytes k)) keys) keys (keys ++ text ∷ []) → spelled later ≡ with_name names name
added_from names keys later text name view same inserted =
    let is : list_any (λ k. bytes_eq (string_bytes text) (string_bytes k)) keys ≡ list_any (bytes_eq name) names =
    sym (list_any_map (bytes_eq (string_bytes text)) string_bytes keys) ∙ ap (λ ns. list_any (bytes_eq (string_bytes text)) ns) view ∙ ap (λ t. list_any (bytes_eq t) names) same in
    elim (either (list_any (bytes_eq name) names)) as (λ _. spelled later ≡ with_name names name) [
      | inl there ↦ ap spelled (inserted ∙ ap (λ b. cond b keys (keys ++ text ∷ [])) (is ∙ there)) ∙ view ∙ sym (ap (λ b. cond b names (names ++ name ∷ [])) there)
      | inr new_one ↦
          ap spelled (inserted ∙ ap (λ b. cond b keys (keys ++ text ∷ [])) (is ∙ new_one)) ∙ map_push string_bytes keys text ∙ ap (λ ns. ns ++ string_bytes text ∷ []) view ∙ ap (λ t. names ++ t ∷ []) same
          ∙ sym (ap (λ b. cond b names (names ++ name ∷ [])) new_one)
    ]
