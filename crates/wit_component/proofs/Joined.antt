-- What one definition adds to the spaces, seen in its own space.
use Rattle.std.proofs.Common.{◌≡◌, ℕ, List, [], ◌∷◌, ◌++◌, Option}
use Rattle.std.proofs.lemmas.List.{append-nil}
use Rattle.plain_worlds.specs.World.{FunctionTypeValue}
use Rattle.wit_component.specs.Meaning.{Spaces, CoreFunction, ComponentFunction, CoreInstance, ImportEntry, ExportEntry, no_spaces, joined, instance_space, core_space, function_space}

module _ (s : Spaces) where
  pub one_module : (bytes : List ℕ) → joined s (record no_spaces { modules = bytes ∷ [] }) ≡ record s { modules = s.modules ++ bytes ∷ [] }
  one_module bytes = simp append-nil

  pub one_instance : (i : CoreInstance) → joined s (instance_space i) ≡ record s { instances = s.instances ++ i ∷ [] }
  one_instance i = simp append-nil

  pub one_core : (f : Option CoreFunction) → joined s (core_space f) ≡ record s { core_functions = s.core_functions ++ f ∷ [] }
  one_core f = simp append-nil

  pub one_type : (t : FunctionTypeValue) → joined s (record no_spaces { types = t ∷ [] }) ≡ record s { types = s.types ++ t ∷ [] }
  one_type t = simp append-nil

  pub one_function : (f : Option ComponentFunction) → joined s (function_space f) ≡ record s { functions = s.functions ++ f ∷ [] }
  one_function f = simp append-nil

  pub one_import : (f : Option ComponentFunction) (e : ImportEntry) → joined s (record (function_space f) { imports = e ∷ [] }) ≡ record s { functions = s.functions ++ f ∷ []; imports = s.imports ++ e ∷ [] }
  one_import f e = simp append-nil

  pub one_export : (f : Option ComponentFunction) (e : ExportEntry) → joined s (record (function_space f) { exports = e ∷ [] }) ≡ record s { functions = s.functions ++ f ∷ []; exports = s.exports ++ e ∷ [] }
  one_export f e = simp append-nil
