-- Sorts (Component Model Binary, Instance Definitions).
use Rattle.std.specs.Prelude.{ℕ, Result, Ok, Err, ◌==◌, if◌then◌else◌}
use Rattle.component_value_types.specs.Passed.binary_grammar-declared-fault-Rule.{Rule}
use Rattle.component_value_types.specs.Passed.binary_grammar-declared-fault-Rule-TheVariants as rules
use Rattle.component_value_types.specs.Passed.binary_grammar-Syntax.{◌◂◌, ◌>>=◌, one_byte, gives, refuses}
use Rattle.component_value_types.specs.Passed.wasm_types-declared-types-ExportKind.{ExportKind}
use Rattle.component_value_types.specs.Passed.wasm_types-declared-types-ExportKind-TheVariants as kinds
use Rattle.component_value_types.specs.Passed.wasm_types-Types.{kind_of, kind_byte}
use Rattle.component_value_types.specs.Passed.wasm_types-Code.{coded}
use Rattle.component_value_types.specs.declared.scope.Scope.{Scope}
use Rattle.component_value_types.specs.Scope.{Grammar}
use Rattle.component_definitions.specs.declared.sorts.ComponentSort.{ComponentSort}
use Rattle.component_definitions.specs.declared.sorts.ComponentSort.TheVariants as components
use Rattle.component_definitions.specs.declared.sorts.Sort.{Sort}
use Rattle.component_definitions.specs.declared.sorts.Sort.TheVariants as sorts

-- how many there are of a sort
abbrev pub core_count : Scope → ExportKind → ℕ
core_count there kinds.Func = there.core_functions
core_count there kinds.Table = there.core_tables
core_count there kinds.Memory = there.core_memories
core_count there kinds.Global = there.core_globals

abbrev pub component_count : Scope → ComponentSort → ℕ
component_count there components.Function = there.functions
component_count there components.Type_ = there.types
component_count there components.Instance = there.instances

abbrev pub count : Scope → Sort → ℕ
count there (sorts.Core k) = core_count there k
count there (sorts.Component s) = component_count there s

-- `01` function, `03` type, `05` instance, or `00` and a core sort
unfoldable pub component_sort_of : ℕ → Result ComponentSort Rule
component_sort_of b =
    if b == 1 then Ok components.Function else
    if b == 3 then Ok components.Type_ else
    if b == 5 then Ok components.Instance else Err rules.Tag

abbrev pub component_sort_byte : ComponentSort → ℕ
component_sort_byte components.Function = 1
component_sort_byte components.Type_ = 3
component_sort_byte components.Instance = 5

abbrev pub sort_byte : Sort → ℕ
sort_byte (sorts.Core k) = 0
sort_byte (sorts.Component s) = component_sort_byte s

-- the core sort, or any where there is none
abbrev pub core_kind : Sort → ExportKind
core_kind (sorts.Core k) = k
core_kind (sorts.Component s) = kinds.Func

-- what a byte begins
pub data SortForm : Type 0 where
  core_form : SortForm
  component_form : Result ComponentSort Rule → SortForm

unfoldable pub sort_form_of : ℕ → SortForm
sort_form_of b = if b == 0 then core_form else component_form (component_sort_of b)

abbrev pub sort_behind : SortForm → Grammar Sort
sort_behind core_form = do
  k ← core_kind ◂ coded kind_of kind_byte
  gives (sorts.Core k)
sort_behind (component_form (Ok s)) = gives (sorts.Component s)
sort_behind (component_form (Err rule)) = refuses rule

unfoldable pub sort : Grammar Sort
sort = do
  b ← sort_byte ◂ one_byte
  sort_behind (sort_form_of b)
