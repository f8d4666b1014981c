-- What there is of each sort behind a definition (Component Model, Explainer, Index Spaces).
use Rattle.std.specs.Prelude.{ℕ, suc, Some}
use Rattle.component_value_types.specs.Passed.wasm_types-declared-types-ExportKind.{ExportKind}
use Rattle.component_value_types.specs.Passed.wasm_types-declared-types-ExportKind-TheVariants as kinds
use Rattle.component_value_types.specs.declared.scope.Scope.{Scope}
use Rattle.component_definitions.specs.declared.sorts.ComponentSort.{ComponentSort}
use Rattle.component_definitions.specs.declared.sorts.ComponentSort.TheVariants as components
use Rattle.component_definitions.specs.declared.sorts.Sort.{Sort}
use Rattle.component_definitions.specs.declared.sorts.Sort.TheVariants as sorts
use Rattle.component_definitions.specs.Sorts.{count}
use Rattle.component_definitions.specs.declared.counting.IndexSpace.{IndexSpace}
use Rattle.component_definitions.specs.declared.counting.IndexSpace.TheVariants as spaces
use Rattle.component_definitions.specs.declared.externs.Description.{Description}
use Rattle.component_definitions.specs.declared.externs.Description.TheVariants as descriptions

abbrev pub with_core : Scope → ExportKind → Scope
with_core there kinds.Func = record there { core_functions = suc there.core_functions }
with_core there kinds.Table = record there { core_tables = suc there.core_tables }
with_core there kinds.Memory = record there { core_memories = suc there.core_memories }
with_core there kinds.Global = record there { core_globals = suc there.core_globals }

abbrev pub with_sort : Scope → ComponentSort → Scope
with_sort there components.Function = record there { functions = suc there.functions }
with_sort there components.Type_ = record there { types = suc there.types }
with_sort there components.Instance = record there { instances = suc there.instances }

-- what has a sort has its index space; modules, core instances and components have theirs
abbrev pub with_one : Scope → IndexSpace → Scope
with_one there (spaces.Of (sorts.Core k)) = with_core there k
with_one there (spaces.Of (sorts.Component s)) = with_sort there s
with_one there spaces.CoreModules = record there { core_modules = suc there.core_modules }
with_one there spaces.CoreInstances = record there { core_instances = suc there.core_instances }
with_one there spaces.Components = record there { components = suc there.components }

abbrev pub count_in : Scope → IndexSpace → ℕ
count_in there (spaces.Of s) = count there s
count_in there spaces.CoreModules = there.core_modules
count_in there spaces.CoreInstances = there.core_instances
count_in there spaces.Components = there.components

-- the sort of what is described so
abbrev pub described_sort : Description → ComponentSort
described_sort (descriptions.Function t) = components.Function
described_sort (descriptions.Equal t) = components.Type_
described_sort descriptions.Resource = components.Type_
described_sort (descriptions.Instance t) = components.Instance

-- within an instance type or a nested component nothing is there yet, and the types around can be named
abbrev pub inside : Scope → Scope
inside there = record {
  core_functions = 0;
  core_tables = 0;
  core_memories = 0;
  core_globals = 0;
  core_modules = 0;
  core_instances = 0;
  components = 0;
  instances = 0;
  functions = 0;
  types = 0;
  outer = Some there.types;
  outermost = there.outer;
}
