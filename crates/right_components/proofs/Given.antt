-- What a module is given, one by one.
use Rattle.std.proofs.Common.{ℕ, suc, [], ◌∷◌, refl, ap}
use Rattle.right_components.specs.Right.{GivenAreAsMany}

pub given_are_as_many : GivenAreAsMany
given_are_as_many l s [] [] all = refl
given_are_as_many l s [] (g ∷ given) all = absurd all
given_are_as_many l s (e ∷ es) [] all = absurd all
given_are_as_many l s (e ∷ es) (g ∷ given) all = ap (λ (n : ℕ). suc n) (given_are_as_many l s es given all.1)
