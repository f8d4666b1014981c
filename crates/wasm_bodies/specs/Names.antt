-- The names of a module and of its functions (WebAssembly Core, Custom Sections, Name Section).
use Rattle.std.specs.Prelude.{ℕ, List, [], ◌∷◌, map, bytes_eq}
use Rattle.binary_grammar.specs.declared.fault.Rule.TheVariants as rules
use Rattle.binary_grammar.specs.Syntax.{Syntax, bounded, ◌◂◌, ◌>>=◌, some_name, number, byte_is, gives, sized, tested, vec, exactly}
use Rattle.wasm_types.specs.declared.spaces.Spaces.{Spaces}
use Rattle.wasm_types.specs.Types.{Grammar}
use Rattle.wasm_bodies.specs.declared.names.FunctionName.{FunctionName}
use Rattle.wasm_bodies.specs.declared.names.NameSection.{NameSection}

pub record FunctionNameValue : Type 0 where
  pub index : ℕ
  pub name : List ℕ

abbrev pub function_name_value : FunctionName → FunctionNameValue
function_name_value f = record { index = f.index; name = f.name.now }

unfoldable pub function_name : Grammar FunctionNameValue
function_name = do
  i ← (λ f. f.index) ◂ number
  n ← (λ f. f.name) ◂ some_name
  gives (record { index = i; name = n })

pub record NamesValue : Type 0 where
  pub of_module : List ℕ
  pub functions : List FunctionNameValue

abbrev pub names_value : NameSection → NamesValue
names_value s = record { of_module = s.module.now; functions = map function_name_value s.functions.items }

-- `name`
abbrev pub title : List ℕ
title = 0x6e ∷ 0x61 ∷ 0x6d ∷ 0x65 ∷ []

abbrev pub own_name : Grammar (List ℕ)
own_name = tested rules.Unsupported (λ _ n. bytes_eq n title) some_name

-- the section's own name, that of the module, and those of functions
unfoldable pub names : Syntax bounded Spaces NamesValue
names = exactly (do
  t ← (λ _. title) ◂ own_name
  first ← (λ _. 0) ◂ byte_is rules.Unsupported 0
  m ← (λ s. s.of_module) ◂ sized (exactly some_name)
  second ← (λ _. 1) ◂ byte_is rules.Unsupported 1
  fs ← (λ s. s.functions) ◂ sized (exactly (vec function_name))
  gives (record { of_module = m; functions = fs }))
