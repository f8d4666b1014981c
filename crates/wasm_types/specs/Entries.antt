-- Entries of sections (WebAssembly Core, Binary Format, Modules).
use Rattle.std.specs.Prelude.{ℕ, suc, List}
use Rattle.binary_grammar.specs.Syntax.{◌◂◌, ◌>>=◌, some_name, gives}
use Rattle.wasm_types.specs.declared.entries.Import.{Import}
use Rattle.wasm_types.specs.declared.entries.Export.{Export}
use Rattle.wasm_types.specs.declared.entries.TypeIndex.{TypeIndex}
use Rattle.wasm_types.specs.declared.types.EntityType.{EntityType}
use Rattle.wasm_types.specs.declared.types.ExportKind.{ExportKind}
use Rattle.wasm_types.specs.Code.{coded}
use Rattle.wasm_types.specs.declared.spaces.Spaces.{Spaces}
use Rattle.wasm_types.specs.Spaces.{count}
use Rattle.wasm_types.specs.declared.entries.Global.{Global}
use Rattle.wasm_types.specs.declared.types.GlobalType.{GlobalType}
use Rattle.wasm_types.specs.Expression.{InstructionValue, expression_value, expression}
use Rattle.wasm_types.specs.Types.{Grammar, index, entity_type, kind_of, kind_byte, global_type}

pub record ImportValue : Type 0 where
  pub place : List ℕ
  pub name : List ℕ
  pub ty : EntityType

abbrev pub import_value : Import → ImportValue
import_value i = record { place = i.module.now; name = i.name.now; ty = i.ty }

unfoldable pub import_entry : Grammar ImportValue
import_entry = do
  p ← (λ i. i.place) ◂ some_name
  n ← (λ i. i.name) ◂ some_name
  t ← (λ i. i.ty) ◂ entity_type
  gives (record { place = p; name = n; ty = t })

pub record ExportValue : Type 0 where
  pub name : List ℕ
  pub kind : ExportKind
  pub index : ℕ

abbrev pub export_value : Export → ExportValue
export_value e = record { name = e.name.now; kind = e.kind; index = e.index }

unfoldable pub export_entry : Grammar ExportValue
export_entry = do
  n ← (λ e. e.name) ◂ some_name
  k ← (λ e. e.kind) ◂ coded kind_of kind_byte
  i ← (λ e. e.index) ◂ index (λ there. count there k)
  gives (record { name = n; kind = k; index = i })

abbrev pub type_index_value : TypeIndex → ℕ
type_index_value i = i.0

unfoldable pub type_index : Grammar ℕ
type_index = index (λ there. there.types)

pub record GlobalValue : Type 0 where
  pub ty : GlobalType
  pub init : List InstructionValue

abbrev pub global_value : Global → GlobalValue
global_value g = record { ty = g.ty; init = expression_value g.init }

unfoldable pub global_entry : Grammar GlobalValue
global_entry = do
  t ← (λ g. g.ty) ◂ global_type
  e ← (λ g. g.init) ◂ expression
  gives (record { ty = t; init = e })

-- a global sees those before it
abbrev pub one_more_global : Spaces → GlobalValue → Spaces
one_more_global there g = record there { globals = suc there.globals }
