-- What the indices of a component stand for, by one fold over its definitions: each adds what it stands for, and looks only at
-- what is there already. Nothing is followed: a lift and a lowering keep the index of what they are of (Component Model Binary,
-- Index Spaces; Explainer, Component Definitions).
use Rattle.std.specs.Prelude.{ℕ, List, [], ◌∷◌, ◌++◌, map, fold, length, slice_get, Option, Some, None, is_some, option_map, option_and_then, Bool, true, false, ◌&&◌, ◌==◌, bytes_eq, if◌then◌else◌}
use Rattle.std.specs.List.{flat_map, list_all}
use Rattle.std.specs.Cmp.Lexicographic.{pointwise}
use Rattle.wasm_types.specs.declared.types.ValType.{ValType}
use Rattle.wasm_types.specs.declared.types.ValType.TheVariants as values
use Rattle.wasm_types.specs.declared.types.RefType.TheVariants as references
use Rattle.wasm_types.specs.Types.{FuncTypeValue}
use Rattle.plain_worlds.specs.declared.world.PrimitiveType.{PrimitiveType}
use Rattle.plain_worlds.specs.declared.world.PrimitiveType.TheVariants as primitives
use Rattle.plain_worlds.specs.World.{ParameterValue, FunctionTypeValue}
use Rattle.known_definitions.specs.Definition.{ArgumentValue, InlineExportValue, DefinitionValue, core_module_of, instantiation_of, inline_of, alias_of, type_of, lift_of, lower_of, import_of, export_of}
use Rattle.wit_component.specs.Flat.{flat}
use Rattle.wit_component.specs.Linking.{CoreImport, MainModule}

-- ---- equal types

abbrev pub value_code : ValType → ℕ
value_code values.I32 = 0
value_code values.I64 = 1
value_code values.F32 = 2
value_code values.F64 = 3
value_code values.V128 = 4
value_code (values.Ref references.FuncRef) = 5
value_code (values.Ref references.ExternRef) = 6

abbrev pub same_values : List ValType → List ValType → Bool
same_values = pointwise (λ a b. value_code a == value_code b)

abbrev pub same_core_type : FuncTypeValue → FuncTypeValue → Bool
same_core_type a b = same_values a.params b.params && same_values a.results b.results

abbrev pub type_code : PrimitiveType → ℕ
type_code primitives.Bool = 0
type_code primitives.S8 = 1
type_code primitives.U8 = 2
type_code primitives.S16 = 3
type_code primitives.U16 = 4
type_code primitives.S32 = 5
type_code primitives.U32 = 6
type_code primitives.S64 = 7
type_code primitives.U64 = 8

abbrev pub same_parameter : ParameterValue → ParameterValue → Bool
same_parameter a b = bytes_eq a.name b.name && (type_code a.ty == type_code b.ty)

abbrev pub same_result : Option PrimitiveType → Option PrimitiveType → Bool
same_result None None = true
same_result None (Some p) = false
same_result (Some p) None = false
same_result (Some p) (Some q) = type_code p == type_code q

-- names of parameters, their order and all types are part of a function's type
abbrev pub same_type : FunctionTypeValue → FunctionTypeValue → Bool
same_type a b = pointwise same_parameter a.params b.params && same_result a.result b.result

-- ---- functions

-- whose a core function is: it is what the core instance with that index exports under a name, or the lowering of the function with
-- that index
pub data CoreOrigin : Type 0 where
  of_export : ℕ → List ℕ → CoreOrigin
  of_lower : ℕ → CoreOrigin

-- and a function: the import of a name, or the lift of the core function with that index
pub data Origin : Type 0 where
  of_import : List ℕ → Origin
  of_lift : ℕ → Origin

pub record CoreFunction : Type 0 where
  pub origin : CoreOrigin
  pub ty : FuncTypeValue

pub record ComponentFunction : Type 0 where
  pub origin : Origin
  pub ty : FunctionTypeValue

-- a name, and what it names, if anything
pub record CoreEntry : Type 0 where
  pub name : List ℕ
  pub item : Option CoreFunction

pub record ImportEntry : Type 0 where
  pub name : List ℕ
  pub item : Option FunctionTypeValue

pub record ExportEntry : Type 0 where
  pub name : List ℕ
  pub item : Option ComponentFunction

-- ---- core instances

-- what a core instance is made of: of the main module, with what it is given for each of that module's imports, none where that is
-- not of the core type that is asked; of a core module that wasn't handed in; or of core functions under names
pub data Source : Type 0 where
  of_main : List (Option CoreFunction) → Source
  of_unknown : Source
  of_items : Source

pub record CoreInstance : Type 0 where
  pub source : Source
  pub exports : List CoreEntry

-- ---- the index spaces, and the names of imports and exports

pub record Spaces : Type 0 where
  pub modules : List (List ℕ)
  pub instances : List CoreInstance
  pub core_functions : List (Option CoreFunction)
  pub types : List FunctionTypeValue
  pub functions : List (Option ComponentFunction)
  pub imports : List ImportEntry
  pub exports : List ExportEntry

abbrev pub no_spaces : Spaces
no_spaces = record { modules = []; instances = []; core_functions = []; types = []; functions = []; imports = []; exports = [] }

-- one behind the other
abbrev pub joined : Spaces → Spaces → Spaces
joined s t = record {
  modules = s.modules ++ t.modules;
  instances = s.instances ++ t.instances;
  core_functions = s.core_functions ++ t.core_functions;
  types = s.types ++ t.types;
  functions = s.functions ++ t.functions;
  imports = s.imports ++ t.imports;
  exports = s.exports ++ t.exports;
}

-- ---- looking up

-- an index into a space whose items may stand for nothing
abbrev pub item_at : {X : Type 0} → List (Option X) → ℕ → Option X
item_at xs i = option_and_then (λ x. x) (slice_get xs i)

abbrev pub entry_named : List ℕ → List CoreEntry → Option CoreFunction
entry_named name [] = None
entry_named name (e ∷ es) = if bytes_eq name e.name then e.item else entry_named name es

-- what the instance with that index exports under a name
abbrev pub exported : List CoreInstance → ℕ → List ℕ → Option CoreFunction
exported is k name = option_and_then (λ (i : CoreInstance). entry_named name i.exports) (slice_get is k)

abbrev pub argument_named : List ArgumentValue → List ℕ → Option ℕ
argument_named [] name = None
argument_named (a ∷ more) name = if bytes_eq name a.name then Some a.instance else argument_named more name

-- ---- instances of the main module

-- a core function of the core type that is asked
abbrev pub is_of_core_type : Option FuncTypeValue → Option CoreFunction → Bool
is_of_core_type None f = false
is_of_core_type (Some t) None = false
is_of_core_type (Some t) (Some f) = same_core_type t f.ty

abbrev pub if_matches : Option FuncTypeValue → Option CoreFunction → Option CoreFunction
if_matches t f = if is_of_core_type t f then f else None

-- what an instance is given for an import
abbrev pub given_for : List CoreInstance → List ArgumentValue → CoreImport → Option CoreFunction
given_for is args i = if_matches i.ty (option_and_then (λ k. exported is k i.name) (argument_named args i.place))

abbrev pub all_there : List (Option CoreFunction) → Bool
all_there = list_all is_some

-- what the instance with that index exports
abbrev pub exports_of : MainModule → ℕ → List CoreEntry
exports_of main n = map (λ e. record { name = e.name; item = option_map (λ t. record { origin = of_export n e.name; ty = t }) e.ty }) main.exports

-- one that isn't given all that it asks stands for nothing, and exports nothing
abbrev pub main_instance : MainModule → ℕ → List (Option CoreFunction) → CoreInstance
main_instance main n given = record { source = of_main given; exports = if all_there given then exports_of main n else [] }

abbrev pub is_main : MainModule → Option (List ℕ) → Bool
is_main main None = false
is_main main (Some bytes) = bytes_eq bytes main.bytes

-- what each instance of the main module is given
abbrev pub given_by : Source → List (List (Option CoreFunction))
given_by (of_main given) = given ∷ []
given_by of_unknown = []
given_by of_items = []

abbrev pub all_given : List CoreInstance → List (List (Option CoreFunction))
all_given = flat_map (λ (i : CoreInstance). given_by i.source)

-- ---- definitions

abbrev pub instance_space : CoreInstance → Spaces
instance_space i = record no_spaces { instances = i ∷ [] }

abbrev pub core_space : Option CoreFunction → Spaces
core_space f = record no_spaces { core_functions = f ∷ [] }

abbrev pub function_space : Option ComponentFunction → Spaces
function_space f = record no_spaces { functions = f ∷ [] }

abbrev pub instantiated : MainModule → Spaces → Bool → List ArgumentValue → CoreInstance
instantiated main s true args = main_instance main (length s.instances) (map (given_for s.instances args) main.imports)
instantiated main s false args = record { source = of_unknown; exports = [] }

abbrev pub inline_entries : Spaces → List InlineExportValue → List CoreEntry
inline_entries s es = map (λ e. record { name = e.name; item = item_at s.core_functions e.func }) es

-- canonical definitions (Canonical ABI, canon lift and canon lower)
abbrev pub lowering : ℕ → ComponentFunction → CoreFunction
lowering n f = record { origin = of_lower n; ty = flat f.ty }

-- a lift is a function of its type, whatever the core function is
abbrev pub lifting : ℕ → FunctionTypeValue → ComponentFunction
lifting n t = record { origin = of_lift n; ty = t }

abbrev pub import_with : List ℕ → FunctionTypeValue → ComponentFunction
import_with name t = record { origin = of_import name; ty = t }

-- an exported function has the type that is ascribed to it, if any
abbrev pub ascribed : Spaces → Option ℕ → ComponentFunction → Option ComponentFunction
ascribed s None f = Some f
ascribed s (Some t) f = option_and_then (λ asked. if same_type asked f.ty then Some f else None) (slice_get s.types t)

-- what an export stands for
abbrev pub export_item : Spaces → ℕ → Option ℕ → Option ComponentFunction
export_item s f t = option_and_then (ascribed s t) (item_at s.functions f)

-- what a definition adds
abbrev pub adds : MainModule → Spaces → DefinitionValue → Spaces
adds main s (core_module_of bytes) = record no_spaces { modules = bytes ∷ [] }
adds main s (instantiation_of m args) = instance_space (instantiated main s (is_main main (slice_get s.modules m)) args)
adds main s (inline_of exports) = instance_space (record { source = of_items; exports = inline_entries s exports })
adds main s (alias_of i name) = core_space (exported s.instances i name)
adds main s (type_of t) = record no_spaces { types = t ∷ [] }
adds main s (lift_of c t) = function_space (option_map (lifting c) (slice_get s.types t))
adds main s (lower_of f) = core_space (option_map (lowering f) (item_at s.functions f))
adds main s (import_of name t) = record (function_space (option_map (import_with name) (slice_get s.types t))) { imports = record { name = name; item = slice_get s.types t } ∷ [] }
adds main s (export_of name f t) = record (function_space (export_item s f t)) { exports = record { name = name; item = export_item s f t } ∷ [] }

-- the spaces behind one more definition
abbrev pub after : MainModule → Spaces → DefinitionValue → Spaces
after main s d = joined s (adds main s d)

unfoldable pub meaning : MainModule → List DefinitionValue → Spaces
meaning main ds = fold (after main) no_spaces ds
