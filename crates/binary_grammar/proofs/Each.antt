-- What holds of each.
use Rattle.std.proofs.Common.{List, [], ◌∷◌, map}
use Rattle.std.specs.List.{All, AllByRecursion}
use Rattle.std.proofs.lemmas.List.Elements.{recursion_from_All, All-from_recursion}

under : {X Y : Type 0} (P : Y → Type 0) (f : X → Y) (xs : List X) → AllByRecursion P (map f xs) → AllByRecursion (λ x. P (f x)) xs
under P f [] h = tt
under P f (x ∷ xs) h = (h.0, under P f xs h.1)

-- what holds of each view holds of each
pub all_under : {X Y : Type 0} (P : Y → Type 0) (f : X → Y) (xs : List X) → All P (map f xs) → All (λ x. P (f x)) xs
all_under P f xs h = All-from_recursion (λ x. P (f x)) xs (under P f xs (recursion_from_All P (map f xs) h))
