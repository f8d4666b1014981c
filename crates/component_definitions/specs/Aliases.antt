-- Aliases (Component Model Binary, Alias Definitions).
use Rattle.std.specs.Prelude.{ℕ, List, [], Option, Some, None, Bool, true, false, ◌==◌, ◌||◌, if◌then◌else◌}
use Rattle.component_value_types.specs.Passed.binary_grammar-declared-fault-Rule-TheVariants as rules
use Rattle.component_value_types.specs.Passed.binary_grammar-Syntax.{◌◂◌, ◌>>=◌, one_byte, number, some_name, gives, tested}
use Rattle.component_value_types.specs.Passed.wasm_types-declared-types-ExportKind.{ExportKind}
use Rattle.component_value_types.specs.Scope.{Grammar, index, types_outwards}
use Rattle.component_definitions.specs.declared.sorts.ComponentSort.{ComponentSort}
use Rattle.component_definitions.specs.declared.sorts.ComponentSort.TheVariants as components
use Rattle.component_definitions.specs.declared.sorts.Sort.{Sort}
use Rattle.component_definitions.specs.declared.sorts.Sort.TheVariants as sorts
use Rattle.component_definitions.specs.declared.aliases.Alias.{Alias}
use Rattle.component_definitions.specs.declared.aliases.Alias.TheVariants as code
use Rattle.component_definitions.specs.Sorts.{sort}

pub data AliasValue : Type 0 where
  instance_export : ComponentSort → ℕ → List ℕ → AliasValue
  core_instance_export : ExportKind → ℕ → List ℕ → AliasValue
  outer : ℕ → ℕ → AliasValue

abbrev pub alias_value : Alias → AliasValue
alias_value (code.InstanceExport s i name) = instance_export s i name.now
alias_value (code.CoreInstanceExport k i name) = core_instance_export k i name.now
alias_value (code.Outer count i) = outer count i

-- its parts, and any value where it has another part
abbrev pub alias_sort : AliasValue → Sort
alias_sort (instance_export s i name) = sorts.Component s
alias_sort (core_instance_export k i name) = sorts.Core k
alias_sort (outer count i) = sorts.Component components.Type_

abbrev pub target_byte : AliasValue → ℕ
target_byte (instance_export s i name) = 0
target_byte (core_instance_export k i name) = 1
target_byte (outer count i) = 2

abbrev pub index_in : AliasValue → ℕ
index_in (instance_export s i name) = i
index_in (core_instance_export k i name) = i
index_in (outer count i) = i

abbrev pub name_in : AliasValue → List ℕ
name_in (instance_export s i name) = name
name_in (core_instance_export k i name) = name
name_in (outer count i) = []

abbrev pub count_in : AliasValue → ℕ
count_in (outer count i) = count
count_in _ = 0

-- Where what has this sort may come from: `00` an instance, `01` a core instance, `02`, of types alone, a component or
-- instance type around.
abbrev pub fits_target : Sort → ℕ → Bool
fits_target (sorts.Core k) b = b == 1
fits_target (sorts.Component components.Function) b = b == 0
fits_target (sorts.Component components.Instance) b = b == 0
fits_target (sorts.Component components.Type_) b = (b == 0) || (b == 2)

pub data Target : Type 0 where
  in_instance : ComponentSort → Target
  in_core_instance : ExportKind → Target
  around : Target

abbrev pub target_of : Sort → ℕ → Target
target_of (sorts.Core k) b = in_core_instance k
target_of (sorts.Component s) b = if b == 2 then around else in_instance s

-- so many types are there so many components or instance types outwards
abbrev pub some_or_none : Option ℕ → ℕ
some_or_none None = 0
some_or_none (Some n) = n

abbrev pub is_there : Option ℕ → Bool
is_there None = false
is_there (Some n) = true

abbrev pub alias_behind : Target → Grammar AliasValue
alias_behind (in_instance s) = do
  i ← index_in ◂ index (λ there. there.instances)
  n ← name_in ◂ some_name
  gives (instance_export s i n)
alias_behind (in_core_instance k) = do
  i ← index_in ◂ index (λ there. there.core_instances)
  n ← name_in ◂ some_name
  gives (core_instance_export k i n)
alias_behind around = do
  c ← count_in ◂ tested rules.Index (λ there c. is_there (types_outwards there c)) number
  i ← index_in ◂ index (λ there. some_or_none (types_outwards there c))
  gives (outer c i)

unfoldable pub alias : Grammar AliasValue
alias = do
  s ← alias_sort ◂ sort
  t ← target_byte ◂ tested rules.Tag (λ _ b. fits_target s b) one_byte
  alias_behind (target_of s t)
