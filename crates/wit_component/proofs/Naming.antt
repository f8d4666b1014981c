-- Distinct names, one more at a time.
use Rattle.std.proofs.Common.{◌≡◌, ℕ, Bool, true, false, ◌&&◌, List, [], ◌∷◌, ◌++◌, map, refl, sym, ap, ◌∙◌, append-nil, append_assoc}
use Rattle.distinct_names.specs.Names.{is_new, all_new}

and_kept : (a b c : Bool) → (a && b) ≡ true → (b ≡ true → c ≡ true) → (a && c) ≡ true
and_kept true b c e f = f e
and_kept false b c e f = absurd cc

first_new : (a : Bool) → a ≡ true → (a && true) ≡ true
first_new true e = refl
first_new false e = absurd cc

all_new_behind : (seen names : List (List ℕ)) (name : List ℕ) → all_new seen names ≡ true → is_new (seen ++ names) name ≡ true → all_new seen (names ++ name ∷ []) ≡ true
all_new_behind seen [] name e h = first_new (is_new seen name) (sym (ap (λ l. is_new l name) (append-nil seen)) ∙ h)
all_new_behind seen (n ∷ names) name e h = and_kept (is_new seen n) (all_new (seen ++ n ∷ []) names) (all_new (seen ++ n ∷ []) (names ++ name ∷ [])) e
    (λ k. all_new_behind (seen ++ n ∷ []) names name k (ap (λ l. is_new l name) (append_assoc seen (n ∷ []) names) ∙ h))

-- a name that is none of distinct names makes one more
pub all_new_push : (names : List (List ℕ)) (name : List ℕ) → all_new [] names ≡ true → is_new names name ≡ true → all_new [] (names ++ name ∷ []) ≡ true
all_new_push names name e h = all_new_behind [] names name e h

-- the names of a list with one item more
pub names_push : {X Y : Type 0} (view : X → Y) (name : Y → List ℕ) (xs : List X) (x : X) → map name (map view (xs ++ x ∷ [])) ≡ map name (map view xs) ++ name (view x) ∷ []
names_push view name [] x = refl
names_push view name (y ∷ ys) x = rw (names_push view name ys x) refl
