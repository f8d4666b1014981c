-- Definitions of types (Component Model Binary, Type Definitions).
use Rattle.std.specs.Prelude.{ℕ, List, [], Option, None, option_map, ◌==◌, if◌then◌else◌}
use Rattle.binary_grammar.specs.declared.fault.Rule.TheVariants as rules
use Rattle.binary_grammar.specs.Syntax.{◌◂◌, ◌>>=◌, one_byte, gives, byte_is}
use Rattle.component_definitions.specs.Passed.component_value_types-Combinators.{optional}
use Rattle.component_definitions.specs.Passed.component_value_types-Scope.{Grammar, index}
use Rattle.component_definitions.specs.Passed.component_value_types-Types as values
use Rattle.component_definitions.specs.Passed.component_value_types-Types.{DefinedTypeValue, defined_type_value, primitive}
use Rattle.component_definitions.specs.Passed.component_value_types-declared-values-PrimitiveValueType-TheVariants as primitives
use Rattle.component_instances.specs.declared.type_definitions.ResourceType.{ResourceType}
use Rattle.component_instances.specs.declared.type_definitions.CoreFunctionIndex.{CoreFunctionIndex}
use Rattle.component_instances.specs.declared.type_definitions.TypeDefinition.{TypeDefinition}
use Rattle.component_instances.specs.declared.type_definitions.TypeDefinition.TheVariants as code
use Rattle.component_instances.specs.Declarators.{DeclaratorValue, instance_type_value, instance_type}

-- ---- resource types: `7f`, and the core function that destroys one, if any

abbrev pub core_function_value : CoreFunctionIndex → ℕ
core_function_value f = f.0

unfoldable pub core_function : Grammar ℕ
core_function = index (λ there. there.core_functions)

abbrev pub resource_type_value : ResourceType → Option ℕ
resource_type_value r = option_map core_function_value r.destructor

unfoldable pub resource_type : Grammar (Option ℕ)
resource_type = do
  k ← (λ _. 0x7f) ◂ byte_is rules.Tag 0x7f
  f ← (λ x. x) ◂ optional core_function
  gives f

-- ---- definitions

pub data TypeDefinitionValue : Type 0 where
  defined : DefinedTypeValue → TypeDefinitionValue
  resource : Option ℕ → TypeDefinitionValue
  of_instance : List DeclaratorValue → TypeDefinitionValue

abbrev pub type_definition_value : TypeDefinition → TypeDefinitionValue
type_definition_value (code.Defined t) = defined (defined_type_value t)
type_definition_value (code.Resource r) = resource (resource_type_value r)
type_definition_value (code.Instance t) = of_instance (instance_type_value t)

abbrev pub which : TypeDefinitionValue → ℕ
which (defined t) = values.which t
which (resource r) = 0x3f
which (of_instance ds) = 0x42

-- its parts, and any value where it has another part
abbrev pub defined_in : TypeDefinitionValue → DefinedTypeValue
defined_in (defined t) = t
defined_in _ = primitive primitives.Bool

abbrev pub resource_in : TypeDefinitionValue → Option ℕ
resource_in (resource r) = r
resource_in _ = None

abbrev pub declarators_in : TypeDefinitionValue → List DeclaratorValue
declarators_in (of_instance ds) = ds
declarators_in _ = []

pub data TypeDefinitionForm : Type 0 where
  a_resource : TypeDefinitionForm
  an_instance : TypeDefinitionForm
  another : ℕ → TypeDefinitionForm

unfoldable pub form_of : ℕ → TypeDefinitionForm
form_of b = if b == 0x3f then a_resource else if b == 0x42 then an_instance else another b

abbrev pub behind : TypeDefinitionForm → Grammar TypeDefinitionValue
behind a_resource = do
  r ← resource_in ◂ resource_type
  gives (resource r)
behind an_instance = do
  ds ← declarators_in ◂ instance_type
  gives (of_instance ds)
behind (another b) = do
  t ← defined_in ◂ values.next b
  gives (defined t)

unfoldable pub type_definition : Grammar TypeDefinitionValue
type_definition = do
  b ← which ◂ one_byte
  behind (form_of b)
