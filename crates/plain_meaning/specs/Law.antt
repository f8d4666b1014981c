-- The definitions that the linker writes stand for the same by themselves and among all definitions (Component Model, Explainer, Component
-- Definitions).
use Rattle.std.specs.Prelude.{◌≡◌, ℕ, List, map, Some}
use Rattle.std.specs.List.{AllByRecursion as Each}
use Rattle.wasm_types.specs.declared.types.ExportKind.{ExportKind}
use Rattle.wasm_types.specs.declared.types.ExportKind.TheVariants as kinds
use Rattle.wasm_types.specs.Types.{FuncTypeValue}
use Rattle.wasm_format.specs.Module.{ModuleValue, function_type_at}
use Rattle.wasm_format.specs.Grammar.{IsModule}
use Rattle.known_definitions.specs.Definition.{DefinitionValue}
use Rattle.known_definitions.specs.Known.{definition_of}
use Rattle.wit_component.specs.Linking as plain
use Rattle.wit_component.specs.Meaning as plain_spaces
use Rattle.right_components.specs.Main as full
use Rattle.component_meaning.specs.Spaces as full_spaces
use Rattle.plain_meaning.specs.Seen.{IsSeenAs}

-- what is exported has a type in the module, where it's a function (WebAssembly Core, Validation, Exports)
abbrev pub HasType : ModuleValue → ExportKind → ℕ → Type 0
HasType m kinds.Func k = (t : FuncTypeValue) × (function_type_at m k ≡ Some t)
HasType m _ k = Unit {0}

-- so has each function that the module exports
abbrev pub ExportsHaveTypes : ModuleValue → Type 0
ExportsHaveTypes m = Each (λ e. HasType m e.kind e.index) m.exports

-- whatever is defined, where a module's exported functions have types (Explainer, Index Spaces)
abbrev pub PlainDefinitionsStandForTheSame : Type 0
PlainDefinitionsStandForTheSame =
    (bytes : List ℕ) (m : ModuleValue) (ds : List DefinitionValue) → ExportsHaveTypes m
    → IsSeenAs (plain_spaces.meaning (plain.main_of bytes m) ds) (full_spaces.meaning (full.main_of bytes m) (map definition_of ds))

-- so it is in each module that bytes are: they name types and functions that are there (WebAssembly Core, Binary Format, Modules)
abbrev pub ReadModulesHaveTypes : Type 0
ReadModulesHaveTypes = (bytes : List ℕ) (m : ModuleValue) → IsModule bytes m → ExportsHaveTypes m
