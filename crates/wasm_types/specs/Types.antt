-- Types of core modules (WebAssembly Core, Binary Format, Types).
use Rattle.std.specs.Prelude.{ℕ, List, Option, Some, None, Result, Ok, Err, Bool, true, false, nat_le, nat_lt, ◌==◌, ◌&&◌, ◌||◌, if◌then◌else◌}
use Rattle.binary_grammar.specs.declared.fault.Rule.{Rule}
use Rattle.binary_grammar.specs.declared.fault.Rule.TheVariants as rules
use Rattle.binary_grammar.specs.Syntax.{Syntax, unbounded, ◌◂◌, ◌>>=◌, number, gives, tested, vec}
use Rattle.wasm_types.specs.declared.spaces.Spaces.{Spaces}
use Rattle.wasm_types.specs.declared.types.RefType.{RefType}
use Rattle.wasm_types.specs.declared.types.RefType.TheVariants as references
use Rattle.wasm_types.specs.declared.types.ValType.{ValType}
use Rattle.wasm_types.specs.declared.types.ValType.TheVariants as values
use Rattle.wasm_types.specs.declared.types.Mutability.{Mutability}
use Rattle.wasm_types.specs.declared.types.Mutability.TheVariants as mutabilities
use Rattle.wasm_types.specs.declared.types.ExportKind.{ExportKind}
use Rattle.wasm_types.specs.declared.types.ExportKind.TheVariants as kinds
use Rattle.wasm_types.specs.declared.types.FuncType.{FuncType}
use Rattle.wasm_types.specs.declared.types.Limits.{Limits}
use Rattle.wasm_types.specs.declared.types.TableType.{TableType}
use Rattle.wasm_types.specs.declared.types.GlobalType.{GlobalType}
use Rattle.wasm_types.specs.declared.types.EntityType.{EntityType}
use Rattle.wasm_types.specs.declared.types.EntityType.TheVariants as entities
use Rattle.wasm_types.specs.Code.{coded}
pub use Rattle.wasm_types.specs.Spaces.{count}

-- a grammar where so many of each sort are there
abbrev pub Grammar : Type 0 → Type 1
Grammar X = Syntax unbounded Spaces X

-- a number below so many
abbrev pub index : (Spaces → ℕ) → Grammar ℕ
index limit = tested rules.Index (λ there i. nat_lt i (limit there)) number

-- ---- what a byte stands for

-- `63` and `64` begin other reference types of Core 3.0, `69` to `74` are them, and `40` begins a table with an expression
unfoldable pub ref_type_of : ℕ → Result RefType Rule
ref_type_of b =
    if b == 0x70 then Ok references.FuncRef else
    if b == 0x6f then Ok references.ExternRef else
    if nat_le 0x69 b && nat_le b 0x74 then Err rules.Unsupported else
    if b == 0x40 || (b == 0x63 || b == 0x64) then Err rules.Unsupported else Err rules.Tag

abbrev pub ref_type_byte : RefType → ℕ
ref_type_byte references.FuncRef = 0x70
ref_type_byte references.ExternRef = 0x6f

unfoldable pub val_type_of : ℕ → Result ValType Rule
val_type_of b =
    if b == 0x7f then Ok values.I32 else
    if b == 0x7e then Ok values.I64 else
    if b == 0x7d then Ok values.F32 else
    if b == 0x7c then Ok values.F64 else
    if b == 0x7b then Ok values.V128 else
    if b == 0x70 then Ok (values.Ref references.FuncRef) else
    if b == 0x6f then Ok (values.Ref references.ExternRef) else
    if nat_le 0x69 b && nat_le b 0x74 then Err rules.Unsupported else
    if b == 0x63 || b == 0x64 then Err rules.Unsupported else Err rules.Tag

abbrev pub val_type_byte : ValType → ℕ
val_type_byte values.I32 = 0x7f
val_type_byte values.I64 = 0x7e
val_type_byte values.F32 = 0x7d
val_type_byte values.F64 = 0x7c
val_type_byte values.V128 = 0x7b
val_type_byte (values.Ref r) = ref_type_byte r

unfoldable pub mutability_of : ℕ → Result Mutability Rule
mutability_of b = if b == 0 then Ok mutabilities.Const else if b == 1 then Ok mutabilities.Var else Err rules.Tag

abbrev pub mutability_byte : Mutability → ℕ
mutability_byte mutabilities.Const = 0
mutability_byte mutabilities.Var = 1

-- `04` is a tag
unfoldable pub kind_of : ℕ → Result ExportKind Rule
kind_of b =
    if b == 0 then Ok kinds.Func else
    if b == 1 then Ok kinds.Table else
    if b == 2 then Ok kinds.Memory else
    if b == 3 then Ok kinds.Global else
    if b == 4 then Err rules.Unsupported else Err rules.Tag

abbrev pub kind_byte : ExportKind → ℕ
kind_byte kinds.Func = 0
kind_byte kinds.Table = 1
kind_byte kinds.Memory = 2
kind_byte kinds.Global = 3

-- ---- value and function types

unfoldable pub val_type : Grammar ValType
val_type = coded val_type_of val_type_byte

pub record FuncTypeValue : Type 0 where
  pub params : List ValType
  pub results : List ValType

abbrev pub func_type_value : FuncType → FuncTypeValue
func_type_value t = record { params = t.params.items; results = t.results.items }

-- `60`, or another form of Core 3.0: rec, sub final, sub, array, struct
unfoldable pub type_form_of : ℕ → Result ℕ Rule
type_form_of b =
    if b == 0x60 then Ok 0x60 else
    if nat_le 0x4e b && nat_le b 0x50 then Err rules.Unsupported else
    if b == 0x5e || b == 0x5f then Err rules.Unsupported else Err rules.Tag

unfoldable pub func_type : Grammar FuncTypeValue
func_type = do
  form ← (λ _. 0x60) ◂ coded type_form_of (λ b. b)
  params ← (λ t. t.params) ◂ vec val_type
  results ← (λ t. t.results) ◂ vec val_type
  gives (record { params = params; results = results })

-- ---- limits

-- whether a greatest is said; shared ones and those of 64 bits are never read
unfoldable pub bound_of : ℕ → Result Bool Rule
bound_of b = if b == 0 then Ok false else if b == 1 then Ok true else if nat_lt b 8 then Err rules.Unsupported else Err rules.Tag

abbrev pub bound_byte : Bool → ℕ
bound_byte false = 0
bound_byte true = 1

abbrev pub is_bounded : Option ℕ → Bool
is_bounded None = false
is_bounded (Some n) = true

abbrev pub some_or_zero : Option ℕ → ℕ
some_or_zero None = 0
some_or_zero (Some n) = n

abbrev pub limits_behind : Bool → Grammar Limits
limits_behind false = do
  least ← (λ l. l.minimum) ◂ number
  gives (record { minimum = least; maximum = None })
limits_behind true = do
  least ← (λ l. l.minimum) ◂ number
  most ← (λ l. some_or_zero l.maximum) ◂ number
  gives (record { minimum = least; maximum = Some most })

unfoldable pub limits : Grammar Limits
limits = do
  b ← (λ l. is_bounded l.maximum) ◂ coded bound_of bound_byte
  limits_behind b

-- ---- types of tables, globals, and of what is imported

unfoldable pub table_type : Grammar TableType
table_type = do
  e ← (λ t. t.element) ◂ coded ref_type_of ref_type_byte
  l ← (λ t. t.limits) ◂ limits
  gives (record { element = e; limits = l })

unfoldable pub global_type : Grammar GlobalType
global_type = do
  v ← (λ t. t.value) ◂ val_type
  m ← (λ t. t.mutability) ◂ coded mutability_of mutability_byte
  gives (record { value = v; mutability = m })

abbrev pub kind_of_entity : EntityType → ExportKind
kind_of_entity (entities.Function i) = kinds.Func
kind_of_entity (entities.Table t) = kinds.Table
kind_of_entity (entities.Memory l) = kinds.Memory
kind_of_entity (entities.Global g) = kinds.Global

abbrev pub no_limits : Limits
no_limits = record { minimum = 0; maximum = None }

-- its parts, and any value where it has another part
abbrev pub function_of : EntityType → ℕ
function_of (entities.Function i) = i
function_of _ = 0

abbrev pub table_of : EntityType → TableType
table_of (entities.Table t) = t
table_of _ = record { element = references.FuncRef; limits = no_limits }

abbrev pub memory_of : EntityType → Limits
memory_of (entities.Memory l) = l
memory_of _ = no_limits

abbrev pub global_of : EntityType → GlobalType
global_of (entities.Global g) = g
global_of _ = record { value = values.I32; mutability = mutabilities.Const }

abbrev pub entity_behind : ExportKind → Grammar EntityType
entity_behind kinds.Func = do
  i ← function_of ◂ index (λ there. there.types)
  gives (entities.Function i)
entity_behind kinds.Table = do
  t ← table_of ◂ table_type
  gives (entities.Table t)
entity_behind kinds.Memory = do
  l ← memory_of ◂ limits
  gives (entities.Memory l)
entity_behind kinds.Global = do
  g ← global_of ◂ global_type
  gives (entities.Global g)

unfoldable pub entity_type : Grammar EntityType
entity_type = do
  k ← kind_of_entity ◂ coded kind_of kind_byte
  entity_behind k
