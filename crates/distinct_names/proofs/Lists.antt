-- Names, seen through the keys of a set.
use Rattle.std.proofs.Common.{◌≡◌, ℕ, Bool, true, false, not, cond, List, [], ◌∷◌, ◌++◌, map, Bor, refl, sym, ap, ◌∙◌}
use Rattle.std.specs.Prelude.{bytes_eq}
use Rattle.std.specs.List.{list_any}
use Rattle.distinct_names.specs.Names.{is_new}

-- a test of the views is a test of what they are views of
list_any_map : {X Y : Type 0} (test : Y → Bool) (f : X → Y) (xs : List X) → list_any test (map f xs) ≡ list_any (λ x. test (f x)) xs
list_any_map test f [] = refl
list_any_map test f (x ∷ xs) = rw (list_any_map test f xs) refl

map_push : {X Y : Type 0} (f : X → Y) (xs : List X) (x : X) → map f (xs ++ x ∷ []) ≡ map f xs ++ f x ∷ []
map_push f [] x = refl
map_push f (y ∷ ys) x = rw (map_push f ys x) refl

not_true : (b : Bool) → not b ≡ true → b ≡ false
not_true true e = sym e
not_true false e = refl

abbrev spelled : List (Bor (List ℕ)) → List (List ℕ)
spelled keys = map (λ k. k.now) keys

pub is_new_from : (names : List (List ℕ)) (keys : List (Bor (List ℕ))) (name : List ℕ) (b : Bool) → spelled keys ≡ names → b ≡ list_any (λ k. bytes_eq name k.now) keys → not b ≡ is_new names name
is_new_from names keys name b view found =
    ap not (found ∙ sym (list_any_map (bytes_eq name) (λ k. k.now) keys) ∙ ap (λ ns. list_any (bytes_eq name) ns) view)

pub added_from : (names : List (List ℕ)) (keys new : List (Bor (List ℕ))) (name : Bor (List ℕ)) → spelled keys ≡ names → is_new names name.now ≡ true
    → new ≡ cond (list_any (λ k. bytes_eq name.now k.now) keys) keys (keys ++ name ∷ []) → spelled new ≡ names ++ name.now ∷ []
added_from names keys new name view fresh inserted =
    let absent : list_any (λ k. bytes_eq name.now k.now) keys ≡ false =
    sym (list_any_map (bytes_eq name.now) (λ k. k.now) keys) ∙ ap (λ ns. list_any (bytes_eq name.now) ns) view ∙ not_true _ fresh in
    ap spelled (inserted ∙ ap (λ b. cond b keys (keys ++ name ∷ [])) absent) ∙ map_push (λ k. k.now) keys name ∙ ap (λ ns. ns ++ name.now ∷ []) view
