-- Instances (Component Model Binary, Core Instance Definitions and Instance Definitions).
use Rattle.std.specs.Prelude.{ℕ, List, [], map, ◌==◌, if◌then◌else◌}
use Rattle.binary_grammar.specs.declared.fault.Rule.TheVariants as rules
use Rattle.binary_grammar.specs.Syntax.{◌◂◌, ◌>>=◌, one_byte, gives, refuses, vec, byte_is}
use Rattle.component_definitions.specs.Passed.wasm_types-Types.{kind_of, kind_byte}
use Rattle.component_definitions.specs.Passed.wasm_types-Code.{coded}
use Rattle.component_definitions.specs.Passed.component_value_types-Combinators.{NamedValue, named_vec, distinct}
use Rattle.component_definitions.specs.Passed.component_value_types-Names.{named_value}
use Rattle.component_definitions.specs.Passed.component_value_types-Scope.{Grammar, index}
use Rattle.component_instances.specs.declared.instances.CoreArgument.{CoreArgument}
use Rattle.component_instances.specs.declared.instances.CoreItem.{CoreItem}
use Rattle.component_instances.specs.declared.instances.Item.{Item}
use Rattle.component_instances.specs.declared.instances.InlineExport.{InlineExport}
use Rattle.component_instances.specs.declared.instances.CoreInstance.{CoreInstance}
use Rattle.component_instances.specs.declared.instances.CoreInstance.TheVariants as cores
use Rattle.component_instances.specs.declared.instances.Instance.{Instance}
use Rattle.component_instances.specs.declared.instances.Instance.TheVariants as instances
use Rattle.component_definitions.specs.Sorts.{sort, count, core_count}
use Rattle.component_definitions.specs.Externs.{extern_name}

-- ---- what stands behind names

abbrev pub core_argument_value : CoreArgument → ℕ
core_argument_value a = a.instance

-- `12` and a core instance
unfoldable pub core_argument : Grammar ℕ
core_argument = do
  k ← (λ _. 0x12) ◂ byte_is rules.Tag 0x12
  i ← (λ x. x) ◂ index (λ there. there.core_instances)
  gives i

unfoldable pub core_item : Grammar CoreItem
core_item = do
  k ← (λ x. x.kind) ◂ coded kind_of kind_byte
  i ← (λ x. x.index) ◂ index (λ there. core_count there k)
  gives (record { kind = k; index = i })

unfoldable pub item : Grammar Item
item = do
  s ← (λ x. x.sort) ◂ sort
  i ← (λ x. x.index) ◂ index (λ there. count there s)
  gives (record { sort = s; index = i })

pub record InlineExportValue : Type 0 where
  pub name : List ℕ
  pub item : Item

abbrev pub inline_export_value : InlineExport → InlineExportValue
inline_export_value e = record { name = e.name.now; item = e.item }

unfoldable pub inline_export : Grammar InlineExportValue
inline_export = do
  n ← (λ e. e.name) ◂ extern_name
  x ← (λ e. e.item) ◂ item
  gives (record { name = n; item = x })

-- ---- core instances: of a module, or of what has names

pub data CoreInstanceValue : Type 0 where
  core_instantiate : ℕ → List (NamedValue ℕ) → CoreInstanceValue
  core_inline : List (NamedValue CoreItem) → CoreInstanceValue

abbrev pub core_instance_value : CoreInstance → CoreInstanceValue
core_instance_value (cores.Instantiate m args) = core_instantiate m (map (named_value core_argument_value) args.items)
core_instance_value (cores.Inline exports) = core_inline (map (named_value (λ x. x)) exports.items)

abbrev pub core_instance_byte : CoreInstanceValue → ℕ
core_instance_byte (core_instantiate m args) = 0
core_instance_byte (core_inline exports) = 1

abbrev pub module_in : CoreInstanceValue → ℕ
module_in (core_instantiate m args) = m
module_in (core_inline exports) = 0

abbrev pub core_arguments_in : CoreInstanceValue → List (NamedValue ℕ)
core_arguments_in (core_instantiate m args) = args
core_arguments_in (core_inline exports) = []

abbrev pub core_exports_in : CoreInstanceValue → List (NamedValue CoreItem)
core_exports_in (core_instantiate m args) = []
core_exports_in (core_inline exports) = exports

pub data InstanceForm : Type 0 where
  instantiates : InstanceForm
  inlines : InstanceForm
  other : InstanceForm

unfoldable pub instance_form_of : ℕ → InstanceForm
instance_form_of b = if b == 0 then instantiates else if b == 1 then inlines else other

abbrev pub core_instance_behind : InstanceForm → Grammar CoreInstanceValue
core_instance_behind instantiates = do
  m ← module_in ◂ index (λ there. there.core_modules)
  args ← core_arguments_in ◂ named_vec core_argument
  gives (core_instantiate m args)
core_instance_behind inlines = do
  es ← core_exports_in ◂ named_vec core_item
  gives (core_inline es)
core_instance_behind other = refuses rules.Tag

unfoldable pub core_instance : Grammar CoreInstanceValue
core_instance = do
  b ← core_instance_byte ◂ one_byte
  core_instance_behind (instance_form_of b)

-- ---- instances: of a component, or of what has names

pub data InstanceValue : Type 0 where
  instantiate : ℕ → List (NamedValue Item) → InstanceValue
  inline : List InlineExportValue → InstanceValue

abbrev pub instance_value : Instance → InstanceValue
instance_value (instances.Instantiate c args) = instantiate c (map (named_value (λ x. x)) args.items)
instance_value (instances.Inline exports) = inline (map inline_export_value exports.items)

abbrev pub instance_byte : InstanceValue → ℕ
instance_byte (instantiate c args) = 0
instance_byte (inline exports) = 1

abbrev pub component_in : InstanceValue → ℕ
component_in (instantiate c args) = c
component_in (inline exports) = 0

abbrev pub arguments_in : InstanceValue → List (NamedValue Item)
arguments_in (instantiate c args) = args
arguments_in (inline exports) = []

abbrev pub exports_in : InstanceValue → List InlineExportValue
exports_in (instantiate c args) = []
exports_in (inline exports) = exports

abbrev pub instance_behind : InstanceForm → Grammar InstanceValue
instance_behind instantiates = do
  c ← component_in ◂ index (λ there. there.components)
  args ← arguments_in ◂ named_vec item
  gives (instantiate c args)
instance_behind inlines = do
  es ← exports_in ◂ distinct (λ e. e.name) (vec inline_export)
  gives (inline es)
instance_behind other = refuses rules.Tag

unfoldable pub instance : Grammar InstanceValue
instance = do
  b ← instance_byte ◂ one_byte
  instance_behind (instance_form_of b)
