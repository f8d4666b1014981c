-- Names of values and of what these stand for.
use Rattle.std.proofs.Common.{◌≡◌, List, [], ◌∷◌, map, ap, ◌∙◌, refl}
use Rattle.wit_words.specs.Slice.{Slice}

pub viewed_names : {X Y : Type 0} (view : X → Y) (name : Y → Slice) (xs : List X) → map (λ x. name (view x)) xs ≡ map name (map view xs)
viewed_names view name [] = refl
viewed_names view name (x ∷ xs) = ap (λ ns. name (view x) ∷ ns) (viewed_names view name xs)

pub same_names : {X Y : Type 0} (view : X → Y) (name : Y → Slice) (xs ys : List X) → xs ≡ ys → map (λ x. name (view x)) xs ≡ map name (map view ys)
same_names view name xs ys e = ap (map (λ x. name (view x))) e ∙ viewed_names view name ys
