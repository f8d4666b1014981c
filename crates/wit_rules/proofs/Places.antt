-- What stands at a place of a list.
use Rattle.std.proofs.Common.{◌≡◌, ℕ, ◌+◌, ◌<◌, List, [], ◌∷◌, ◌++◌, Some, map, take, length, get_or, add-one, refl, sym, ap, ◌∙◌}
use Rattle.std.proofs.Math.Seq.{take-suc}
use Rattle.std.proofs.lemmas.Option.{slice_get-map, slice_get-get_or, slice_get_within, get_or_from_slice_get}
use Rattle.std.specs.Prelude.{slice_get, option_map}
use Rattle.wit_rules.specs.declared.labels.Label.{Label}
use Rattle.wit_rules.specs.View as seen

-- the element that code reads at an index
pub read_at : {X : Type 0} (xs : List X) (i : ℕ) (x : X) → i < length xs → x ≡ get_or xs i x → slice_get xs i ≡ Some x
read_at xs i x within is = slice_get-get_or xs i x within ∙ ap Some (sym is)

-- the elements up to a place, and the one there
pub taken : {X : Type 0} (xs : List X) (i : ℕ) (x : X) → slice_get xs i ≡ Some x → take (i + 1) xs ≡ take i xs ++ x ∷ []
taken xs i x there = rw (add-one, take-suc xs i x (slice_get_within xs i x there), get_or_from_slice_get xs i x x there) refl

-- where the name at a place stands
pub label_at : (xs : List Label) (i : ℕ) (d : Label) → i < length xs → slice_get (map (λ n. n.span) (map seen.label xs)) i ≡ Some (get_or xs i d).span
label_at xs i d within =
    slice_get-map (λ n. n.span) (map seen.label xs) i ∙ ap (option_map (λ n. n.span)) (slice_get-map seen.label xs i ∙ ap (option_map seen.label) (slice_get-get_or xs i d within))
