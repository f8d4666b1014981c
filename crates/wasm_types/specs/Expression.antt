-- Constant expressions (WebAssembly Core, Binary Format, Instructions; Validation, Constant Expressions).
use Rattle.std.specs.Prelude.{ℕ, ℤ, pos, negsuc, ◌-◌, List, [], map, Option, Some, None, Result, Ok, Err, Bool, true, nat_le, nat_lt, ◌==◌, ◌&&◌, ◌||◌, if◌then◌else◌}
use Rattle.binary_grammar.specs.declared.fault.Rule.{Rule}
use Rattle.binary_grammar.specs.declared.fault.Rule.TheVariants as rules
use Rattle.binary_grammar.specs.Syntax.{◌◂◌, ◌>>=◌, number, signed_number, some_bytes, gives, refuses, tested, judged, measured, up_to}
use Rattle.wasm_types.specs.declared.spaces.Spaces.{Spaces}
use Rattle.wasm_types.specs.declared.expression.Expression.{Expression}
use Rattle.wasm_types.specs.declared.expression.HeapType.{HeapType}
use Rattle.wasm_types.specs.declared.expression.HeapType.TheVariants as heaps
use Rattle.wasm_types.specs.declared.expression.ConstantInstruction.{ConstantInstruction}
use Rattle.wasm_types.specs.declared.expression.ConstantInstruction.TheVariants as code
use Rattle.wasm_types.specs.Types.{Grammar, index}

-- an instruction, with the bytes of numbers and vectors as they stand; arithmetic by its byte
pub data InstructionValue : Type 0 where
  global_get : ℕ → InstructionValue
  i32_const : ℤ → InstructionValue
  i64_const : ℤ → InstructionValue
  f32_const : List ℕ → InstructionValue
  f64_const : List ℕ → InstructionValue
  v128_const : List ℕ → InstructionValue
  arithmetic : ℕ → InstructionValue
  ref_null : HeapType → InstructionValue
  ref_func : ℕ → InstructionValue

abbrev pub instruction_value : ConstantInstruction → InstructionValue
instruction_value (code.GlobalGet i) = global_get i
instruction_value (code.I32Const z) = i32_const z
instruction_value (code.I64Const z) = i64_const z
instruction_value (code.F32Const xs) = f32_const xs.now
instruction_value (code.F64Const xs) = f64_const xs.now
instruction_value (code.V128Const xs) = v128_const xs.now
instruction_value code.I32Add = arithmetic 0x6a
instruction_value code.I32Sub = arithmetic 0x6b
instruction_value code.I32Mul = arithmetic 0x6c
instruction_value code.I64Add = arithmetic 0x7c
instruction_value code.I64Sub = arithmetic 0x7d
instruction_value code.I64Mul = arithmetic 0x7e
instruction_value (code.RefNull h) = ref_null h
instruction_value (code.RefFunc i) = ref_func i

-- ---- what a byte begins

pub data Opcode : Type 0 where
  global_index : Opcode
  integer_32 : Opcode
  integer_64 : Opcode
  float_32 : Opcode
  float_64 : Opcode
  vector : Opcode
  operation : ℕ → Opcode
  null : Opcode
  function_index : Opcode
  other : Opcode

abbrev pub is_operation : ℕ → Bool
is_operation b = (nat_le 0x6a b && nat_le b 0x6c) || (nat_le 0x7c b && nat_le b 0x7e)

unfoldable pub opcode_of : ℕ → Opcode
opcode_of b =
    if b == 0x23 then global_index else
    if b == 0x41 then integer_32 else
    if b == 0x42 then integer_64 else
    if b == 0x43 then float_32 else
    if b == 0x44 then float_64 else
    if b == 0xd0 then null else
    if b == 0xd2 then function_index else
    if b == 0xfd then vector else
    if is_operation b then operation b else other

-- the operation that a byte stands for
abbrev pub operation_at : ℕ → Option InstructionValue
operation_at b = if is_operation b then Some (arithmetic b) else None

-- the byte of an instruction
abbrev pub which : InstructionValue → ℕ
which (global_get i) = 0x23
which (i32_const z) = 0x41
which (i64_const z) = 0x42
which (f32_const xs) = 0x43
which (f64_const xs) = 0x44
which (v128_const xs) = 0xfd
which (arithmetic b) = b
which (ref_null h) = 0xd0
which (ref_func i) = 0xd2

-- ---- heap types

-- one of the standard's own is a single byte, a number below zero; any other number is the index of a type
abbrev pub heap_of : Spaces → ℤ → Result HeapType Rule
heap_of there (pos n) = if nat_lt n there.types then Ok (heaps.Concrete n) else Err rules.Index
heap_of there (negsuc m) = if nat_le 11 m && nat_le m 22 then Ok (heaps.Abstract (127 - m)) else Err rules.Tag

abbrev pub heap_number : HeapType → ℤ
heap_number (heaps.Abstract b) = negsuc (127 - b)
heap_number (heaps.Concrete n) = pos n

abbrev pub fits_heap : ℕ → HeapType → Bool
fits_heap size (heaps.Abstract b) = size == 1
fits_heap size (heaps.Concrete n) = true

unfoldable pub heap_type : Grammar HeapType
heap_type = measured rules.Tag fits_heap (judged heap_of heap_number (signed_number 33))

-- ---- instructions

-- their parts, and any value where an instruction has another part
abbrev pub index_in : InstructionValue → ℕ
index_in (global_get i) = i
index_in (ref_func i) = i
index_in _ = 0

abbrev pub integer_in : InstructionValue → ℤ
integer_in (i32_const z) = z
integer_in (i64_const z) = z
integer_in _ = pos 0

abbrev pub bytes_in : InstructionValue → List ℕ
bytes_in (f32_const xs) = xs
bytes_in (f64_const xs) = xs
bytes_in (v128_const xs) = xs
bytes_in _ = []

abbrev pub heap_in : InstructionValue → HeapType
heap_in (ref_null h) = h
heap_in _ = heaps.Concrete 0

-- what stands behind its byte
abbrev pub behind : Opcode → Grammar InstructionValue
behind global_index = do
  i ← index_in ◂ index (λ there. there.globals)
  gives (global_get i)
behind integer_32 = do
  z ← integer_in ◂ signed_number 32
  gives (i32_const z)
behind integer_64 = do
  z ← integer_in ◂ signed_number 64
  gives (i64_const z)
behind float_32 = do
  xs ← bytes_in ◂ some_bytes 4
  gives (f32_const xs)
behind float_64 = do
  xs ← bytes_in ◂ some_bytes 8
  gives (f64_const xs)
behind vector = do
  form ← (λ _. 0x0c) ◂ tested rules.Unsupported (λ _ n. n == 0x0c) number
  xs ← bytes_in ◂ some_bytes 16
  gives (v128_const xs)
behind (operation b) = gives (arithmetic b)
behind null = do
  h ← heap_in ◂ heap_type
  gives (ref_null h)
behind function_index = do
  i ← index_in ◂ index (λ there. there.functions)
  gives (ref_func i)
behind other = refuses rules.Unsupported

unfoldable pub next : ℕ → Grammar InstructionValue
next b = behind (opcode_of b)

-- instructions up to their end, `0b`
unfoldable pub expression : Grammar (List InstructionValue)
expression = up_to 0x0b which next

abbrev pub expression_value : Expression → List InstructionValue
expression_value e = map instruction_value e.instructions.items
