-- Which definitions index meaning knows: core modules, core instances of core functions, aliases of those, types of functions
-- over `bool` and the integers, lifts and lowerings without options, imports and exports of functions (Component Model Binary).
use Rattle.std.specs.Prelude.{ℕ, List, [], ◌∷◌, map, Option, Some, None, option_map}
use Rattle.wasm_types.specs.declared.types.ExportKind.{ExportKind}
use Rattle.wasm_types.specs.declared.types.ExportKind.TheVariants as kinds
use Rattle.component_value_types.specs.declared.values.PrimitiveValueType.{PrimitiveValueType}
use Rattle.component_value_types.specs.declared.values.PrimitiveValueType.TheVariants as types
use Rattle.component_value_types.specs.declared.values.ValueType.{ValueType}
use Rattle.component_value_types.specs.declared.values.ValueType.TheVariants as values
use Rattle.component_value_types.specs.Combinators.{NamedValue}
use Rattle.component_value_types.specs.Types as typed
use Rattle.component_value_types.specs.Types.{DefinedTypeValue, function}
use Rattle.component_definitions.specs.declared.canonical.CanonicalOption.{CanonicalOption}
use Rattle.component_definitions.specs.declared.sorts.ComponentSort.TheVariants as components
use Rattle.component_definitions.specs.declared.sorts.Sort.{Sort}
use Rattle.component_definitions.specs.declared.sorts.Sort.TheVariants as sorts
use Rattle.component_definitions.specs.declared.externs.Description.{Description}
use Rattle.component_definitions.specs.declared.externs.Description.TheVariants as descriptions
use Rattle.component_definitions.specs.Aliases.{AliasValue, core_instance_export}
use Rattle.component_definitions.specs.Canonical.{CanonicalValue, lift, lower}
use Rattle.component_instances.specs.declared.instances.CoreItem.{CoreItem}
use Rattle.component_instances.specs.Instances.{CoreInstanceValue, core_instantiate, core_inline}
use Rattle.component_instances.specs.TypeDefinitions.{TypeDefinitionValue, defined}
use Rattle.component_sections.specs.Passed.component_entries-Entries.{EntryValue, an_alias, a_type, an_import, an_export}
use Rattle.component_sections.specs.Component as whole
use Rattle.component_sections.specs.Component.{a_core_module, a_core_instance, a_canonical, an_entry}
use Rattle.plain_worlds.specs.declared.world.PrimitiveType.{PrimitiveType}
use Rattle.plain_worlds.specs.declared.world.PrimitiveType.TheVariants as primitives
use Rattle.plain_worlds.specs.World.{ParameterValue, FunctionTypeValue, each_of}
use Rattle.known_definitions.specs.Definition.{ArgumentValue, InlineExportValue, DefinitionValue, core_module_of, instantiation_of, inline_of, alias_of, type_of, lift_of, lower_of, import_of, export_of}

-- ---- what each is among all definitions

abbrev pub primitive_value : PrimitiveType → PrimitiveValueType
primitive_value primitives.Bool = types.Bool
primitive_value primitives.S8 = types.S8
primitive_value primitives.U8 = types.U8
primitive_value primitives.S16 = types.S16
primitive_value primitives.U16 = types.U16
primitive_value primitives.S32 = types.S32
primitive_value primitives.U32 = types.U32
primitive_value primitives.S64 = types.S64
primitive_value primitives.U64 = types.U64

abbrev pub value_type : PrimitiveType → ValueType
value_type p = values.Primitive (primitive_value p)

abbrev pub named_parameter : ParameterValue → NamedValue ValueType
named_parameter p = record { name = p.name; item = value_type p.ty }

abbrev pub function_type : FunctionTypeValue → typed.FunctionTypeValue
function_type f = record { params = map named_parameter f.params; result = option_map value_type f.result }

abbrev pub named_argument : ArgumentValue → NamedValue ℕ
named_argument a = record { name = a.name; item = a.instance }

abbrev pub named_function : InlineExportValue → NamedValue CoreItem
named_function e = record { name = e.name; item = record { kind = kinds.Func; index = e.func } }

abbrev pub a_function : Sort
a_function = sorts.Component components.Function

abbrev pub definition_of : DefinitionValue → whole.DefinitionValue
definition_of (core_module_of bytes) = a_core_module bytes
definition_of (instantiation_of m args) = a_core_instance (core_instantiate m (map named_argument args))
definition_of (inline_of exports) = a_core_instance (core_inline (map named_function exports))
definition_of (alias_of instance name) = an_entry (an_alias (core_instance_export kinds.Func instance name))
definition_of (type_of f) = an_entry (a_type (defined (function (function_type f))))
definition_of (lift_of core ty) = a_canonical (lift core [] ty)
definition_of (lower_of func) = a_canonical (lower func [])
definition_of (import_of name ty) = an_entry (an_import (record { name = name; description = descriptions.Function ty }))
definition_of (export_of name func ty) = an_entry (an_export (record { name = name; sort = a_function; index = func; ascribed = option_map (λ t. descriptions.Function t) ty }))

-- ---- what a definition is, if it is one of these

abbrev pub known_primitive : PrimitiveValueType → Option PrimitiveType
known_primitive types.Bool = Some primitives.Bool
known_primitive types.S8 = Some primitives.S8
known_primitive types.U8 = Some primitives.U8
known_primitive types.S16 = Some primitives.S16
known_primitive types.U16 = Some primitives.U16
known_primitive types.S32 = Some primitives.S32
known_primitive types.U32 = Some primitives.U32
known_primitive types.S64 = Some primitives.S64
known_primitive types.U64 = Some primitives.U64
known_primitive types.F32 = None
known_primitive types.F64 = None
known_primitive types.Char = None
known_primitive types.String = None

abbrev pub known_type : ValueType → Option PrimitiveType
known_type (values.Primitive p) = known_primitive p
known_type (values.Index i) = None

abbrev pub known_parameter : NamedValue ValueType → Option ParameterValue
known_parameter p = option_map (λ t. record { name = p.name; ty = t }) (known_type p.item)

abbrev pub known_result : Option ValueType → Option (Option PrimitiveType)
known_result None = Some None
known_result (Some t) = option_map (λ r. Some r) (known_type t)

abbrev pub typed_function : Option (List ParameterValue) → Option (Option PrimitiveType) → Option FunctionTypeValue
typed_function (Some ps) (Some r) = Some (record { params = ps; result = r })
typed_function (Some ps) None = None
typed_function None r = None

abbrev pub known_function_type : typed.FunctionTypeValue → Option FunctionTypeValue
known_function_type f = typed_function (each_of known_parameter f.params) (known_result f.result)

abbrev pub known_argument : NamedValue ℕ → ArgumentValue
known_argument a = record { name = a.name; instance = a.item }

abbrev pub if_function : ExportKind → List ℕ → ℕ → Option InlineExportValue
if_function kinds.Func name index = Some (record { name = name; func = index })
if_function kinds.Table name index = None
if_function kinds.Memory name index = None
if_function kinds.Global name index = None

abbrev pub known_export : NamedValue CoreItem → Option InlineExportValue
known_export e = if_function e.item.kind e.name e.item.index

abbrev pub known_core_instance : CoreInstanceValue → Option DefinitionValue
known_core_instance (core_instantiate m args) = Some (instantiation_of m (map known_argument args))
known_core_instance (core_inline exports) = option_map (λ es. inline_of es) (each_of known_export exports)

abbrev pub if_plain : List CanonicalOption → DefinitionValue → Option DefinitionValue
if_plain [] d = Some d
if_plain (o ∷ os) d = None

abbrev pub known_canonical : CanonicalValue → Option DefinitionValue
known_canonical (lift core options ty) = if_plain options (lift_of core ty)
known_canonical (lower func options) = if_plain options (lower_of func)
known_canonical _ = None

abbrev pub known_alias : AliasValue → Option DefinitionValue
known_alias (core_instance_export kinds.Func instance name) = Some (alias_of instance name)
known_alias _ = None

abbrev pub known_defined : DefinedTypeValue → Option DefinitionValue
known_defined (function f) = option_map (λ t. type_of t) (known_function_type f)
known_defined _ = None

abbrev pub known_type_definition : TypeDefinitionValue → Option DefinitionValue
known_type_definition (defined t) = known_defined t
known_type_definition _ = None

abbrev pub described_import : List ℕ → Description → Option DefinitionValue
described_import name (descriptions.Function t) = Some (import_of name t)
described_import name _ = None

abbrev pub described_export : List ℕ → ℕ → Option Description → Option DefinitionValue
described_export name index None = Some (export_of name index None)
described_export name index (Some (descriptions.Function t)) = Some (export_of name index (Some t))
described_export name index (Some (descriptions.Equal t)) = None
described_export name index (Some descriptions.Resource) = None
described_export name index (Some (descriptions.Instance t)) = None

abbrev pub sorted_export : Sort → Option DefinitionValue → Option DefinitionValue
sorted_export (sorts.Component components.Function) d = d
sorted_export (sorts.Component components.Type_) d = None
sorted_export (sorts.Component components.Instance) d = None
sorted_export (sorts.Core k) d = None

abbrev pub known_entry : EntryValue → Option DefinitionValue
known_entry (an_alias a) = known_alias a
known_entry (a_type t) = known_type_definition t
known_entry (an_import i) = described_import i.name i.description
known_entry (an_export e) = sorted_export e.sort (described_export e.name e.index e.ascribed)

abbrev pub known_of : whole.DefinitionValue → Option DefinitionValue
known_of (a_core_module bytes) = Some (core_module_of bytes)
known_of (a_core_instance i) = known_core_instance i
known_of (whole.a_component c) = None
known_of (whole.an_instance i) = None
known_of (a_canonical c) = known_canonical c
known_of (an_entry e) = known_entry e
