-- Lists that grow by what one more element gives.
use Rattle.std.proofs.Common.{◌≡◌, ℕ, ◌+◌, ◌<◌, List, [], ◌∷◌, ◌++◌, map, take, length, get_or, add-one, append-nil, append_assoc, sym, ap, ◌∙◌}
use Rattle.std.proofs.Math.Seq.{take-suc}
use Rattle.std.proofs.lemmas.List.{map_push}
use Rattle.std.specs.Prelude.{flat_map}

pub flat_map-push : {Y Z : Type 0} (f : Y → List Z) (ys : List Y) (y : Y) → flat_map f (ys ++ y ∷ []) ≡ flat_map f ys ++ f y
flat_map-push f [] y = append-nil (f y)
flat_map-push f (x ∷ ys) y = rw (flat_map-push f ys y) (sym (append_assoc (f x) (flat_map f ys) (f y)))

-- what the first elements give, and one more
pub flat_map-more : {X Y Z : Type 0} (f : Y → List Z) (view : X → Y) (xs : List X) (i : ℕ) (x : X) → i < length xs → x ≡ get_or xs i x
    → flat_map f (map view (take (i + 1) xs)) ≡ flat_map f (map view (take i xs)) ++ f (view x)
flat_map-more f view xs i x within is = rw (add-one, take-suc xs i x within, ← is, map_push view (take i xs) x) (flat_map-push f (map view (take i xs)) (view x))
