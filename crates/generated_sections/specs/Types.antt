-- Types of generated modules: those of core modules, and references to functions of one type, which slots hold
-- (WebAssembly Core, Binary Format, Types).
use Rattle.std.specs.Prelude.{ℕ, ℤ, pos, negsuc, List, Result, Ok, Err, nat_lt, ◌==◌, if◌then◌else◌}
use Rattle.binary_grammar.specs.declared.fault.Rule.{Rule}
use Rattle.binary_grammar.specs.declared.fault.Rule.TheVariants as rules
use Rattle.binary_grammar.specs.Syntax.{◌◂◌, ◌>>=◌, number, signed_number, some_name, byte_is, gives, tested, judged}
use Rattle.wasm_types.specs.declared.spaces.Spaces.{Spaces}
use Rattle.wasm_types.specs.declared.types.ValType.TheVariants as values
use Rattle.wasm_types.specs.declared.types.Mutability.TheVariants as mutabilities
use Rattle.wasm_types.specs.declared.types.ExportKind.{ExportKind}
use Rattle.wasm_types.specs.declared.types.ExportKind.TheVariants as kinds
use Rattle.wasm_types.specs.declared.types.Limits.{Limits}
use Rattle.wasm_types.specs.Code.{coded}
use Rattle.wasm_types.specs.Types.{Grammar, index, val_type_of, val_type_byte, mutability_of, mutability_byte, kind_of, kind_byte, limits, no_limits}
use Rattle.generated_sections.specs.declared.types.HeldForm.{HeldForm}
use Rattle.generated_sections.specs.declared.types.HeldForm.TheVariants as forms
use Rattle.generated_sections.specs.declared.types.Held.{Held}
use Rattle.generated_sections.specs.declared.types.Held.TheVariants as helds
use Rattle.generated_sections.specs.declared.types.HeldGlobal.{HeldGlobal}
use Rattle.generated_sections.specs.declared.types.SlotTable.{SlotTable}
use Rattle.generated_sections.specs.declared.types.SlotGlobal.{SlotGlobal}
use Rattle.generated_sections.specs.declared.types.ImportType.{ImportType}
use Rattle.generated_sections.specs.declared.types.ImportType.TheVariants as asked
use Rattle.generated_sections.specs.declared.types.Import.{Import}

-- ---- references

-- a heap type that is a type of the module, as a signed number of 33 bits (Heap Types)
abbrev pub referred_of : Spaces → ℤ → Result ℕ Rule
referred_of there (pos n) = if nat_lt n there.types then Ok n else Err rules.Index
referred_of there (negsuc m) = Err rules.Unsupported

unfoldable pub referred : Grammar ℕ
referred = judged referred_of (λ n. pos n) (signed_number 33)

-- `64` begins a reference that isn't null
unfoldable pub held_form_of : ℕ → Result HeldForm Rule
held_form_of b = if b == 0x64 then Ok forms.Reference else elim (val_type_of b) [ Ok t ↦ Ok (forms.Value t) | Err rule ↦ Err rule ]

abbrev pub held_form_byte : HeldForm → ℕ
held_form_byte (forms.Value t) = val_type_byte t
held_form_byte forms.Reference = 0x64

abbrev pub form_of : Held → HeldForm
form_of (helds.Value t) = forms.Value t
form_of (helds.Reference t) = forms.Reference

abbrev pub referred_in : Held → ℕ
referred_in (helds.Value t) = 0
referred_in (helds.Reference t) = t

abbrev pub held_behind : HeldForm → Grammar Held
held_behind (forms.Value t) = gives (helds.Value t)
held_behind forms.Reference = do
  t ← referred_in ◂ referred
  gives (helds.Reference t)

unfoldable pub held : Grammar Held
held = do
  f ← form_of ◂ coded held_form_of held_form_byte
  held_behind f

-- ---- globals and tables

unfoldable pub held_global : Grammar HeldGlobal
held_global = do
  h ← (λ g. g.held) ◂ held
  m ← (λ g. g.mutability) ◂ coded mutability_of mutability_byte
  gives (record { held = h; mutability = m })

-- a table of functions, which never grows
unfoldable pub slot_table : Grammar SlotTable
slot_table = do
  element ← (λ _. 0x70) ◂ byte_is rules.Unsupported 0x70
  bound ← (λ _. 1) ◂ byte_is rules.Unsupported 1
  n ← (λ t. t.size) ◂ number
  m ← (λ t. t.size) ◂ tested rules.Unsupported (λ _ m. m == n) number
  gives (record { size = n })

-- it can be changed, and begins at a function
abbrev pub begun_at : ℕ → Grammar SlotGlobal
begun_at t = do
  mutability ← (λ _. 1) ◂ byte_is rules.Unsupported 1
  opcode ← (λ _. 0xd2) ◂ byte_is rules.Unsupported 0xd2
  f ← (λ g. g.stub) ◂ index (λ there. there.functions)
  end ← (λ _. 0x0b) ◂ byte_is rules.Unsupported 0x0b
  gives (record { ty = t; stub = f })

-- a global that holds a reference
unfoldable pub slot_global : Grammar SlotGlobal
slot_global = do
  form ← (λ _. 0x64) ◂ byte_is rules.Unsupported 0x64
  t ← (λ g. g.ty) ◂ referred
  begun_at t

-- a slot as a global
abbrev pub slot_type : SlotGlobal → HeldGlobal
slot_type g = record { held = helds.Reference g.ty; mutability = mutabilities.Var }

-- ---- imports

abbrev pub kind_of_import : ImportType → ExportKind
kind_of_import (asked.Function t) = kinds.Func
kind_of_import (asked.Table t) = kinds.Table
kind_of_import (asked.Memory l) = kinds.Memory
kind_of_import (asked.Global g) = kinds.Global

-- its parts, and any value where it has another part
abbrev pub function_of : ImportType → ℕ
function_of (asked.Function t) = t
function_of _ = 0

abbrev pub table_of : ImportType → SlotTable
table_of (asked.Table t) = t
table_of _ = record { size = 0 }

abbrev pub memory_of : ImportType → Limits
memory_of (asked.Memory l) = l
memory_of _ = no_limits

abbrev pub global_of : ImportType → HeldGlobal
global_of (asked.Global g) = g
global_of _ = record { held = helds.Value values.I32; mutability = mutabilities.Const }

abbrev pub import_behind : ExportKind → Grammar ImportType
import_behind kinds.Func = do
  t ← function_of ◂ index (λ there. there.types)
  gives (asked.Function t)
import_behind kinds.Table = do
  t ← table_of ◂ slot_table
  gives (asked.Table t)
import_behind kinds.Memory = do
  l ← memory_of ◂ limits
  gives (asked.Memory l)
import_behind kinds.Global = do
  g ← global_of ◂ held_global
  gives (asked.Global g)

unfoldable pub import_type : Grammar ImportType
import_type = do
  k ← kind_of_import ◂ coded kind_of kind_byte
  import_behind k

pub record ImportValue : Type 0 where
  pub place : List ℕ
  pub name : List ℕ
  pub ty : ImportType

abbrev pub import_value : Import → ImportValue
import_value i = record { place = i.module.now; name = i.name.now; ty = i.ty }

unfoldable pub import_entry : Grammar ImportValue
import_entry = do
  p ← (λ i. i.place) ◂ some_name
  n ← (λ i. i.name) ◂ some_name
  t ← (λ i. i.ty) ◂ import_type
  gives (record { place = p; name = n; ty = t })
