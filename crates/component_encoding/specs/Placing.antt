-- Where definitions may stand: behind those of which their indices speak, and under names that are new (Component Model Binary, Component
-- Definitions).
use Rattle.std.specs.Prelude.{◌≡◌, ℕ, List, true}
use Rattle.binary_grammar.specs.Several.{grown}
use Rattle.distinct_names.specs.Names.{is_new, with_name, all_new}
use Rattle.wit_types.specs.declared.function.Function.{Function}
use Rattle.linked_imports.specs.Passed.component_imports-Functions.{function_names}
use Rattle.component_entries.specs.Entries.{DefinedValue, nothing}
use Rattle.component_sections.specs.Component.{DefinitionValue, with_definition, Follow}

-- each may stand behind those before it
abbrev pub ArePlaced : List DefinitionValue → Type 0
ArePlaced ds = Follow nothing ds

-- what is known behind them, and the names under which they export something
abbrev pub known_behind : List DefinitionValue → DefinedValue
known_behind ds = grown with_definition nothing ds

abbrev pub names_exported : List DefinitionValue → List (List ℕ)
names_exported ds = (known_behind ds).exports

-- more of them are placed too, and export nothing
pub record StayPlaced (old new : List DefinitionValue) : Type 0 where
  pub placed : ArePlaced old → ArePlaced new
  pub names : names_exported new ≡ names_exported old

-- and so they are where something is exported besides, if its name is new
pub record StayPlacedWith (old new : List DefinitionValue) (name : List ℕ) : Type 0 where
  pub placed : is_new (names_exported old) name ≡ true → ArePlaced old → ArePlaced new
  pub names : names_exported new ≡ with_name (names_exported old) name

-- so they are where functions are exported under their names, if these differ
abbrev pub StayPlacedWithAll : List DefinitionValue → List DefinitionValue → List Function → Type 0
StayPlacedWithAll old new fs = all_new (names_exported old) (function_names fs) ≡ true → ArePlaced old → ArePlaced new
