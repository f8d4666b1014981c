-- Functions that an instance exports (WIT, Item: `func`).
use Rattle.std.specs.Prelude.{◌≡◌, ◌⊎◌, ℕ, List, ◌∷◌, ◌++◌, map, false, string_bytes}
use Rattle.std.specs.Borrow.{Bor}
use Rattle.std.specs.List.{AllByRecursion as Each}
use Rattle.distinct_names.specs.Names.{is_new}
use Rattle.wit_types.specs.declared.function.Function.{Function}
use Rattle.wit_types.specs.declared.interface.TypeDef.{TypeDef}
use Rattle.type_sinks.specs.Passed.type_writing-Functions.{function_form}
use Rattle.type_sinks.specs.Passed.type_writing-Placing.{AreParametersApart}
use Rattle.type_sinks.specs.Passed.type_writing-Refusals.{AreUnready}
use Rattle.type_sinks.specs.declared.inside.InterfaceTypes.{InterfaceTypes}
use Rattle.type_sinks.specs.Views.{HasFunction}

-- behind references
abbrev pub functions_of : List (Bor Function) → List Function
functions_of fs = map (λ f. f.now) fs

abbrev pub function_names : List Function → List (List ℕ)
function_names fs = map (λ (f : Function). string_bytes f.name) fs

-- the instance will have the function under its name
abbrev pub HasFunctionOf : InterfaceTypes → List TypeDef → Function → Type 0
HasFunctionOf t types f = HasFunction t types (string_bytes f.name) f.params.items f.result

-- the names of the parameters of each differ
abbrev pub HaveParametersApart : List Function → Type 0
HaveParametersApart fs = Each (λ (f : Function). AreParametersApart f.params.items) fs

-- a type of the function isn't ready, or its name is there already
abbrev pub IsFunctionUnready : (ℕ → Type 0) → List (List ℕ) → Function → Type 0
IsFunctionUnready ready names f = AreUnready ready (function_form f.params.items f.result).parts ⊎ (is_new names (string_bytes f.name) ≡ false)

-- of one of these, behind those before it
pub record AreFunctionsUnready (ready : ℕ → Type 0) (names : List (List ℕ)) (functions : List Function) : Type 0 where
  pub before : List Function
  pub function : Function
  pub behind : List Function
  pub are : functions ≡ before ++ function ∷ behind
  pub unready : IsFunctionUnready ready (names ++ function_names before) function
