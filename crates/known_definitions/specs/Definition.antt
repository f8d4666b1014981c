-- The definitions that index meaning knows, without where they lie in memory (Component Model, Explainer, Component
-- Definitions).
use Rattle.std.specs.Prelude.{◌≡◌, ℕ, List, map, Option, nat_le, true}
use Rattle.std.specs.List.{list_all}
use Rattle.plain_worlds.specs.World.{ParameterValue, FunctionTypeValue}
use Rattle.known_definitions.specs.declared.definition.Parameter.{Parameter}
use Rattle.known_definitions.specs.declared.definition.FunctionType.{FunctionType}
use Rattle.known_definitions.specs.declared.definition.Argument.{Argument}
use Rattle.known_definitions.specs.declared.definition.InlineExport.{InlineExport}
use Rattle.known_definitions.specs.declared.definition.KnownKind.{KnownKind}
use Rattle.known_definitions.specs.declared.definition.KnownKind.TheVariants as kinds
use Rattle.known_definitions.specs.declared.definition.KnownDefinition.{KnownDefinition}

-- what a core instance is given under a name
pub record ArgumentValue : Type 0 where
  pub name : List ℕ
  pub instance : ℕ

-- what an inline core instance exports under a name
pub record InlineExportValue : Type 0 where
  pub name : List ℕ
  pub func : ℕ

pub data DefinitionValue : Type 0 where
  core_module_of : List ℕ → DefinitionValue
  instantiation_of : ℕ → List ArgumentValue → DefinitionValue
  inline_of : List InlineExportValue → DefinitionValue
  alias_of : ℕ → List ℕ → DefinitionValue
  type_of : FunctionTypeValue → DefinitionValue
  lift_of : ℕ → ℕ → DefinitionValue
  lower_of : ℕ → DefinitionValue
  import_of : List ℕ → ℕ → DefinitionValue
  export_of : List ℕ → ℕ → Option ℕ → DefinitionValue

abbrev pub parameter_value : Parameter → ParameterValue
parameter_value p = record { name = p.name.now; ty = p.ty }

abbrev pub function_type_value : FunctionType → FunctionTypeValue
function_type_value f = record { params = map parameter_value f.params.items; result = f.result }

abbrev pub argument_value : Argument → ArgumentValue
argument_value a = record { name = a.name.now; instance = a.instance }

abbrev pub inline_export_value : InlineExport → InlineExportValue
inline_export_value e = record { name = e.name.now; func = e.func }

abbrev pub kind_value : KnownKind → DefinitionValue
kind_value (kinds.CoreModule bytes) = core_module_of bytes.now
kind_value (kinds.CoreInstance m args) = instantiation_of m (map argument_value args.items)
kind_value (kinds.InlineInstance exports) = inline_of (map inline_export_value exports.items)
kind_value (kinds.CoreAlias instance name) = alias_of instance name.now
kind_value (kinds.FunctionType f) = type_of (function_type_value f)
kind_value (kinds.Lift core ty) = lift_of core ty
kind_value (kinds.Lower func) = lower_of func
kind_value (kinds.Import name ty) = import_of name.now ty
kind_value (kinds.Export name func ty) = export_of name.now func ty

abbrev pub definition_value : KnownDefinition → DefinitionValue
definition_value d = kind_value d.kind

abbrev pub definition_values : List KnownDefinition → List DefinitionValue
definition_values ds = map definition_value ds

-- each begins at one of so many bytes, or at the end
abbrev pub AreWithin : ℕ → List KnownDefinition → Type 0
AreWithin total ds = list_all (λ d. nat_le d.offset total) ds ≡ true
