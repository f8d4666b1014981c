use Rattle.std.proofs.Common.{◌≡◌, ◌++◌, ℕ, [], ◌∷◌}
use Rattle.wit_core_items.specs.Places.{counted}
use Rattle.wit_core_items.specs.declared.import_places.ImportPlace.TheVariants.{InterfaceFunction}
use Rattle.wit_core_items.proofs.import_places.push_functions.Given as goal

abbrev pub invariant-loop-function : goal.invariant-loop-function
invariant-loop-function l = l.places.items ≡ l.initial.places.items ++ counted (λ (j : ℕ). InterfaceFunction l.entry j ∷ []) l.function
