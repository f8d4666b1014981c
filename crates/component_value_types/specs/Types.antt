-- Types that stand for values and functions (Component Model Binary, Type Definitions).
use Rattle.std.specs.Prelude.{ℕ, List, [], map, Option, Some, None, option_map, Result, Ok, Err, Bool, true, false, ◌==◌, if◌then◌else◌}
use Rattle.binary_grammar.specs.declared.fault.Rule.{Rule}
use Rattle.binary_grammar.specs.declared.fault.Rule.TheVariants as rules
use Rattle.binary_grammar.specs.Syntax.{◌◂◌, ◌>>=◌, one_byte, number, gives, refuses, vec, byte_is}
use Rattle.wasm_types.specs.Code.{coded}
use Rattle.component_value_types.specs.declared.values.PrimitiveValueType.{PrimitiveValueType}
use Rattle.component_value_types.specs.declared.values.PrimitiveValueType.TheVariants as primitives
use Rattle.component_value_types.specs.declared.values.ValueType.{ValueType}
use Rattle.component_value_types.specs.declared.values.ValueType.TheVariants as values
use Rattle.component_value_types.specs.declared.types.CaseType.{CaseType}
use Rattle.component_value_types.specs.declared.types.FunctionType.{FunctionType}
use Rattle.component_value_types.specs.declared.types.DefinedType.{DefinedType}
use Rattle.component_value_types.specs.declared.types.DefinedType.TheVariants as code
use Rattle.component_value_types.specs.Combinators.{NamedValue, optional, named_vec, labels}
use Rattle.component_value_types.specs.Names.{named_value, label_value}
use Rattle.component_value_types.specs.Scope.{Grammar, index}
use Rattle.component_value_types.specs.Values.{value_type, primitive_of, primitive_byte}

-- a type where there is another part
abbrev pub any_type : ValueType
any_type = values.Primitive primitives.Bool

-- ---- parameters and fields, cases

abbrev pub NamedTypeValue : Type 0
NamedTypeValue = NamedValue ValueType

abbrev pub CaseValue : Type 0
CaseValue = NamedValue (Option ValueType)

-- the type of what a case carries, if it carries something; no other case is refined by it: `00`
abbrev pub case_value : CaseType → Option ValueType
case_value c = option_map (λ t. t) c.ty

unfoldable pub case_type : Grammar (Option ValueType)
case_type = do
  t ← (λ x. x) ◂ optional value_type
  z ← (λ _. 0) ◂ byte_is rules.Tag 0
  gives t

-- ---- function types

pub record FunctionTypeValue : Type 0 where
  pub params : List NamedTypeValue
  pub result : Option ValueType

abbrev pub function_type_value : FunctionType → FunctionTypeValue
function_type_value t = record { params = map (named_value (λ t. t)) t.params.items; result = t.result }

-- `00` and a type, or `01 00`
unfoldable pub result_form_of : ℕ → Result Bool Rule
result_form_of b = if b == 0 then Ok true else if b == 1 then Ok false else Err rules.Tag

abbrev pub result_form_byte : Bool → ℕ
result_form_byte true = 0
result_form_byte false = 1

abbrev pub is_present : Option ValueType → Bool
is_present None = false
is_present (Some t) = true

abbrev pub some_type : Option ValueType → ValueType
some_type None = any_type
some_type (Some t) = t

abbrev pub result_behind : Bool → Grammar (Option ValueType)
result_behind true = do
  t ← some_type ◂ value_type
  gives (Some t)
result_behind false = do
  z ← (λ _. 0) ◂ byte_is rules.Tag 0
  gives None

unfoldable pub function_result : Grammar (Option ValueType)
function_result = do
  is ← is_present ◂ coded result_form_of result_form_byte
  result_behind is

unfoldable pub function_type : Grammar FunctionTypeValue
function_type = do
  params ← (λ t. t.params) ◂ named_vec value_type
  result ← (λ t. t.result) ◂ function_result
  gives (record { params = params; result = result })

-- ---- defined types

pub data DefinedTypeValue : Type 0 where
  primitive : PrimitiveValueType → DefinedTypeValue
  record_of : List NamedTypeValue → DefinedTypeValue
  variant_of : List CaseValue → DefinedTypeValue
  list_of : ValueType → DefinedTypeValue
  fixed_length_list_of : ValueType → ℕ → DefinedTypeValue
  tuple_of : List ValueType → DefinedTypeValue
  flags_of : List (List ℕ) → DefinedTypeValue
  enum_of : List (List ℕ) → DefinedTypeValue
  option_of : ValueType → DefinedTypeValue
  result_of : Option ValueType → Option ValueType → DefinedTypeValue
  own : ℕ → DefinedTypeValue
  borrow : ℕ → DefinedTypeValue
  function : FunctionTypeValue → DefinedTypeValue

abbrev pub defined_type_value : DefinedType → DefinedTypeValue
defined_type_value (code.Primitive p) = primitive p
defined_type_value (code.Record fields) = record_of (map (named_value (λ t. t)) fields.items)
defined_type_value (code.Variant cases) = variant_of (map (named_value case_value) cases.items)
defined_type_value (code.List t) = list_of t
defined_type_value (code.FixedLengthList t n) = fixed_length_list_of t n
defined_type_value (code.Tuple ts) = tuple_of (map (λ t. t) ts.items)
defined_type_value (code.Flags ls) = flags_of (map label_value ls.items)
defined_type_value (code.Enum ls) = enum_of (map label_value ls.items)
defined_type_value (code.Option t) = option_of t
defined_type_value (code.Result ok err) = result_of (option_map (λ t. t) ok) (option_map (λ t. t) err)
defined_type_value (code.Own i) = own i
defined_type_value (code.Borrow i) = borrow i
defined_type_value (code.Function f) = function (function_type_value f)

-- what a byte begins
pub data TypeForm : Type 0 where
  primitive_form : Result PrimitiveValueType Rule → TypeForm
  record_form : TypeForm
  variant_form : TypeForm
  list_form : TypeForm
  fixed_length_list_form : TypeForm
  tuple_form : TypeForm
  flags_form : TypeForm
  enum_form : TypeForm
  option_form : TypeForm
  result_form : TypeForm
  own_form : TypeForm
  borrow_form : TypeForm
  function_form : TypeForm

unfoldable pub form_of : ℕ → TypeForm
form_of b =
    if b == 0x72 then record_form else
    if b == 0x71 then variant_form else
    if b == 0x70 then list_form else
    if b == 0x67 then fixed_length_list_form else
    if b == 0x6f then tuple_form else
    if b == 0x6e then flags_form else
    if b == 0x6d then enum_form else
    if b == 0x6b then option_form else
    if b == 0x6a then result_form else
    if b == 0x69 then own_form else
    if b == 0x68 then borrow_form else
    if b == 0x40 then function_form else primitive_form (primitive_of b)

-- the byte of a type
abbrev pub which : DefinedTypeValue → ℕ
which (primitive p) = primitive_byte p
which (record_of fields) = 0x72
which (variant_of cases) = 0x71
which (list_of t) = 0x70
which (fixed_length_list_of t n) = 0x67
which (tuple_of ts) = 0x6f
which (flags_of ls) = 0x6e
which (enum_of ls) = 0x6d
which (option_of t) = 0x6b
which (result_of ok err) = 0x6a
which (own i) = 0x69
which (borrow i) = 0x68
which (function f) = 0x40

-- its parts, and any value where it has another part
abbrev pub fields_in : DefinedTypeValue → List NamedTypeValue
fields_in (record_of fields) = fields
fields_in _ = []

abbrev pub cases_in : DefinedTypeValue → List CaseValue
cases_in (variant_of cases) = cases
cases_in _ = []

abbrev pub element_in : DefinedTypeValue → ValueType
element_in (list_of t) = t
element_in (fixed_length_list_of t n) = t
element_in (option_of t) = t
element_in _ = any_type

abbrev pub length_in : DefinedTypeValue → ℕ
length_in (fixed_length_list_of t n) = n
length_in _ = 0

abbrev pub elements_in : DefinedTypeValue → List ValueType
elements_in (tuple_of ts) = ts
elements_in _ = []

abbrev pub labels_in : DefinedTypeValue → List (List ℕ)
labels_in (flags_of ls) = ls
labels_in (enum_of ls) = ls
labels_in _ = []

abbrev pub ok_in : DefinedTypeValue → Option ValueType
ok_in (result_of ok err) = ok
ok_in _ = None

abbrev pub err_in : DefinedTypeValue → Option ValueType
err_in (result_of ok err) = err
err_in _ = None

abbrev pub resource_in : DefinedTypeValue → ℕ
resource_in (own i) = i
resource_in (borrow i) = i
resource_in _ = 0

abbrev pub function_in : DefinedTypeValue → FunctionTypeValue
function_in (function f) = f
function_in _ = record { params = []; result = None }

-- what stands behind its byte
abbrev pub behind : TypeForm → Grammar DefinedTypeValue
behind (primitive_form (Ok p)) = gives (primitive p)
behind (primitive_form (Err rule)) = refuses rule
behind record_form = do
  fields ← fields_in ◂ named_vec value_type
  gives (record_of fields)
behind variant_form = do
  cases ← cases_in ◂ named_vec case_type
  gives (variant_of cases)
behind list_form = do
  t ← element_in ◂ value_type
  gives (list_of t)
behind fixed_length_list_form = do
  t ← element_in ◂ value_type
  n ← length_in ◂ number
  gives (fixed_length_list_of t n)
behind tuple_form = do
  ts ← elements_in ◂ vec value_type
  gives (tuple_of ts)
behind flags_form = do
  ls ← labels_in ◂ labels
  gives (flags_of ls)
behind enum_form = do
  ls ← labels_in ◂ labels
  gives (enum_of ls)
behind option_form = do
  t ← element_in ◂ value_type
  gives (option_of t)
behind result_form = do
  ok ← ok_in ◂ optional value_type
  err ← err_in ◂ optional value_type
  gives (result_of ok err)
behind own_form = do
  i ← resource_in ◂ index (λ there. there.types)
  gives (own i)
behind borrow_form = do
  i ← resource_in ◂ index (λ there. there.types)
  gives (borrow i)
behind function_form = do
  f ← function_in ◂ function_type
  gives (function f)

unfoldable pub next : ℕ → Grammar DefinedTypeValue
next b = behind (form_of b)

unfoldable pub defined_type : Grammar DefinedTypeValue
defined_type = do
  b ← which ◂ one_byte
  next b
