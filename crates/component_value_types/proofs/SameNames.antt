-- Names of what is read, through the values.
use Rattle.std.proofs.Common.{◌≡◌, ℕ, List, [], ◌∷◌, map, refl, ap₂}

pub same_names : {X Y : Type 0} (value : X → Y) (named : Y → List ℕ) (name : X → List ℕ) → ((x : X) → named (value x) ≡ name x) → (xs : List X) → map named (map value xs) ≡ map name xs
same_names value named name same [] = refl
same_names value named name same (x ∷ xs) = ap₂ (λ (n : List ℕ) ns. n ∷ ns) (same x) (same_names value named name same xs)
