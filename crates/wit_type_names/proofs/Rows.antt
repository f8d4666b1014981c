-- Names in rows of types that grow by one more.
use Rattle.std.proofs.Common.{◌≡◌, ℕ, ◌+◌, ◌<◌, List, [], ◌∷◌, ◌++◌, map, take, length, get_or, add-one, append-nil, append_assoc, sym, ap, ◌∙◌}
use Rattle.std.proofs.Math.Seq.{take-suc}
use Rattle.std.proofs.lemmas.List.{map_push}
use Rattle.wit_scopes.specs.Passed.wit_words-Slice.{Slice}
use Rattle.wit_scopes.specs.Passed.wit_productions-TypeTree.{TypeTree, row}
use Rattle.wit_type_names.specs.TypeNames.{names_in, names_in_row, handles_in, handles_in_row}

-- the names in the first types of a row, and in one more
row_push : (ts : List TypeTree) (t : TypeTree) → names_in_row (row (ts ++ t ∷ [])) ≡ names_in_row (row ts) ++ names_in t
row_push [] t = append-nil (names_in t)
row_push (s ∷ ts) t = ap (λ (ns : List Slice). names_in s ++ ns) (row_push ts t) ∙ sym (append_assoc (names_in s) (names_in_row (row ts)) (names_in t))

pub row_more : {X : Type 0} (view : X → TypeTree) (xs : List X) (i : ℕ) (x : X) → i < length xs → x ≡ get_or xs i x
    → names_in_row (row (map view (take (i + 1) xs))) ≡ names_in_row (row (map view (take i xs))) ++ names_in (view x)
row_more view xs i x within is = rw (add-one, take-suc xs i x within, ← is, map_push view (take i xs) x) (row_push (map view (take i xs)) (view x))

-- those of them that handles name
handles_push : (ts : List TypeTree) (t : TypeTree) → handles_in_row (row (ts ++ t ∷ [])) ≡ handles_in_row (row ts) ++ handles_in t
handles_push [] t = append-nil (handles_in t)
handles_push (s ∷ ts) t = ap (λ (ns : List Slice). handles_in s ++ ns) (handles_push ts t) ∙ sym (append_assoc (handles_in s) (handles_in_row (row ts)) (handles_in t))

pub row_handles_more : {X : Type 0} (view : X → TypeTree) (xs : List X) (i : ℕ) (x : X) → i < length xs → x ≡ get_or xs i x
    → handles_in_row (row (map view (take (i + 1) xs))) ≡ handles_in_row (row (map view (take i xs))) ++ handles_in (view x)
row_handles_more view xs i x within is = rw (add-one, take-suc xs i x within, ← is, map_push view (take i xs) x) (handles_push (map view (take i xs)) (view x))
