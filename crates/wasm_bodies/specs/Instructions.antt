-- The instructions of functions that are generated (WebAssembly Core, Binary Format, Instructions).
use Rattle.std.specs.Prelude.{ℕ, ℤ, pos, ◌==◌, if◌then◌else◌}
use Rattle.binary_grammar.specs.declared.fault.Rule.TheVariants as rules
use Rattle.binary_grammar.specs.Syntax.{◌◂◌, ◌>>=◌, number, signed_number, gives, refuses}
use Rattle.wasm_types.specs.Types.{Grammar, index}
use Rattle.wasm_bodies.specs.declared.instructions.BodyInstruction.{BodyInstruction}
use Rattle.wasm_bodies.specs.declared.instructions.BodyInstruction.TheVariants as code

-- the byte of an instruction
abbrev pub which : BodyInstruction → ℕ
which code.Unreachable = 0x00
which (code.Call f) = 0x10
which (code.CallIndirect t table) = 0x11
which (code.CallRef t) = 0x15
which (code.LocalGet i) = 0x20
which (code.GlobalGet g) = 0x23
which (code.GlobalSet g) = 0x24
which (code.I32Const z) = 0x41
which (code.RefFunc f) = 0xd2

-- what a byte begins
pub data Opcode : Type 0 where
  unreachable_form : Opcode
  call_form : Opcode
  call_indirect_form : Opcode
  call_ref_form : Opcode
  local_get_form : Opcode
  global_get_form : Opcode
  global_set_form : Opcode
  i32_const_form : Opcode
  ref_func_form : Opcode
  other_form : Opcode

unfoldable pub opcode_of : ℕ → Opcode
opcode_of b =
    if b == 0x00 then unreachable_form else
    if b == 0x10 then call_form else
    if b == 0x11 then call_indirect_form else
    if b == 0x15 then call_ref_form else
    if b == 0x20 then local_get_form else
    if b == 0x23 then global_get_form else
    if b == 0x24 then global_set_form else
    if b == 0x41 then i32_const_form else
    if b == 0xd2 then ref_func_form else other_form

-- their parts, and any value where an instruction has another part
abbrev pub index_in : BodyInstruction → ℕ
index_in (code.Call f) = f
index_in (code.CallIndirect t table) = t
index_in (code.CallRef t) = t
index_in (code.LocalGet i) = i
index_in (code.GlobalGet g) = g
index_in (code.GlobalSet g) = g
index_in (code.RefFunc f) = f
index_in _ = 0

abbrev pub table_in : BodyInstruction → ℕ
table_in (code.CallIndirect t table) = table
table_in _ = 0

abbrev pub integer_in : BodyInstruction → ℤ
integer_in (code.I32Const z) = z
integer_in _ = pos 0

-- what stands behind its byte; how many locals there are isn't known
abbrev pub behind : Opcode → Grammar BodyInstruction
behind unreachable_form = gives code.Unreachable
behind call_form = do
  f ← index_in ◂ index (λ there. there.functions)
  gives (code.Call f)
behind call_indirect_form = do
  t ← index_in ◂ index (λ there. there.types)
  table ← table_in ◂ index (λ there. there.tables)
  gives (code.CallIndirect t table)
behind call_ref_form = do
  t ← index_in ◂ index (λ there. there.types)
  gives (code.CallRef t)
behind local_get_form = do
  i ← index_in ◂ number
  gives (code.LocalGet i)
behind global_get_form = do
  g ← index_in ◂ index (λ there. there.globals)
  gives (code.GlobalGet g)
behind global_set_form = do
  g ← index_in ◂ index (λ there. there.globals)
  gives (code.GlobalSet g)
behind i32_const_form = do
  z ← integer_in ◂ signed_number 32
  gives (code.I32Const z)
behind ref_func_form = do
  f ← index_in ◂ index (λ there. there.functions)
  gives (code.RefFunc f)
behind other_form = refuses rules.Unsupported

unfoldable pub next : ℕ → Grammar BodyInstruction
next b = behind (opcode_of b)
