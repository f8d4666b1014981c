-- Segments of elements and of data (WebAssembly Core, Binary Format, Modules, Element Section; Data Section).
use Rattle.std.specs.Prelude.{ℕ, ℤ, pos, List, map, ◌==◌, if◌then◌else◌}
use Rattle.binary_grammar.specs.declared.fault.Rule.TheVariants as rules
use Rattle.binary_grammar.specs.Syntax.{◌◂◌, ◌>>=◌, number, signed_number, byte_is, gives, refuses, sized, everything, tested, vec}
use Rattle.wasm_types.specs.Types.{Grammar, index}
use Rattle.wasm_bodies.specs.declared.segments.FunctionIndex.{FunctionIndex}
use Rattle.wasm_bodies.specs.declared.segments.ElementSegment.{ElementSegment}
use Rattle.wasm_bodies.specs.declared.segments.ElementSegment.TheVariants as code
use Rattle.wasm_bodies.specs.declared.segments.DataSegment.{DataSegment}

-- `41`, a number and the end
unfoldable pub offset : Grammar ℤ
offset = do
  opcode ← (λ _. 0x41) ◂ byte_is rules.Unsupported 0x41
  z ← (λ z. z) ◂ signed_number 32
  end ← (λ _. 0x0b) ◂ byte_is rules.Unsupported 0x0b
  gives z

-- ---- elements

abbrev pub function_value : FunctionIndex → ℕ
function_value f = f.0

unfoldable pub function : Grammar ℕ
function = index (λ there. there.functions)

pub data ElementValue : Type 0 where
  active : ℤ → List ℕ → ElementValue
  active_in : ℕ → ℤ → List ℕ → ElementValue
  declared : List ℕ → ElementValue

abbrev pub element_value : ElementSegment → ElementValue
element_value (code.Active z fs) = active z (map function_value fs.items)
element_value (code.ActiveIn t z fs) = active_in t z (map function_value fs.items)
element_value (code.Declared fs) = declared (map function_value fs.items)

abbrev pub element_form : ElementValue → ℕ
element_form (active z fs) = 0
element_form (active_in t z fs) = 2
element_form (declared fs) = 3

abbrev pub functions_in : ElementValue → List ℕ
functions_in (active z fs) = fs
functions_in (active_in t z fs) = fs
functions_in (declared fs) = fs

abbrev pub offset_in : ElementValue → ℤ
offset_in (active z fs) = z
offset_in (active_in t z fs) = z
offset_in (declared fs) = pos 0

abbrev pub table_in : ElementValue → ℕ
table_in (active_in t z fs) = t
table_in _ = 0

pub data ElementForm : Type 0 where
  active_form : ElementForm
  active_in_form : ElementForm
  declared_form : ElementForm
  other_form : ElementForm

unfoldable pub form_of : ℕ → ElementForm
form_of n = if n == 0 then active_form else if n == 2 then active_in_form else if n == 3 then declared_form else other_form

abbrev pub element_behind : ElementForm → Grammar ElementValue
element_behind active_form = do
  z ← offset_in ◂ offset
  fs ← functions_in ◂ vec function
  gives (active z fs)
element_behind active_in_form = do
  t ← table_in ◂ index (λ there. there.tables)
  z ← offset_in ◂ offset
  kind ← (λ _. 0) ◂ byte_is rules.Unsupported 0
  fs ← functions_in ◂ vec function
  gives (active_in t z fs)
element_behind declared_form = do
  kind ← (λ _. 0) ◂ byte_is rules.Unsupported 0
  fs ← functions_in ◂ vec function
  gives (declared fs)
element_behind other_form = refuses rules.Unsupported

-- functions that a table begins with, or that `ref.func` may name
unfoldable pub element : Grammar ElementValue
element = do
  n ← element_form ◂ number
  element_behind (form_of n)

-- ---- data

pub record DataValue : Type 0 where
  pub offset : ℤ
  pub bytes : List ℕ

abbrev pub data_value : DataSegment → DataValue
data_value d = record { offset = d.offset; bytes = d.bytes.now }

-- bytes that the first memory begins with
unfoldable pub data_segment : Grammar DataValue
data_segment = do
  form ← (λ _. 0) ◂ tested rules.Unsupported (λ _ n. n == 0) number
  z ← (λ d. d.offset) ◂ offset
  xs ← (λ d. d.bytes) ◂ sized everything
  gives (record { offset = z; bytes = xs })
