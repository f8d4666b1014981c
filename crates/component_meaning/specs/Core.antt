-- What core items of a component stand for, and the module that is handed in (Component Model, Explainer, Core Definitions; WebAssembly Core,
-- Modules).
use Rattle.std.specs.Prelude.{ℕ, List, Option, Bool, false, ◌&&◌, ◌==◌}
use Rattle.std.specs.Cmp.Lexicographic.{pointwise}
use Rattle.wasm_types.specs.declared.types.ValType.{ValType}
use Rattle.wasm_types.specs.declared.types.ValType.TheVariants as values
use Rattle.wasm_types.specs.declared.types.RefType.TheVariants as references
use Rattle.wasm_types.specs.declared.types.ExportKind.{ExportKind}
use Rattle.wasm_types.specs.declared.types.ExportKind.TheVariants as kinds
use Rattle.wasm_types.specs.Types.{FuncTypeValue}
use Rattle.component_sections.specs.Passed.component_definitions-declared-canonical-CanonicalOption.{CanonicalOption}

-- ---- core types

-- the type of a function, or what else an item is
pub data CoreType : Type 0 where
  of_function : FuncTypeValue → CoreType
  of_kind : ExportKind → CoreType

abbrev pub kind_of : CoreType → ExportKind
kind_of (of_function t) = kinds.Func
kind_of (of_kind k) = k

abbrev pub kind_code : ExportKind → ℕ
kind_code kinds.Func = 0
kind_code kinds.Table = 1
kind_code kinds.Memory = 2
kind_code kinds.Global = 3

abbrev pub is_of_kind : ExportKind → CoreType → Bool
is_of_kind k t = kind_code k == kind_code (kind_of t)

abbrev pub value_code : ValType → ℕ
value_code values.I32 = 0
value_code values.I64 = 1
value_code values.F32 = 2
value_code values.F64 = 3
value_code values.V128 = 4
value_code (values.Ref references.FuncRef) = 5
value_code (values.Ref references.ExternRef) = 6

abbrev pub same_values : List ValType → List ValType → Bool
same_values = pointwise (λ a b. value_code a == value_code b)

abbrev pub same_function_type : FuncTypeValue → FuncTypeValue → Bool
same_function_type a b = same_values a.params b.params && same_values a.results b.results

-- functions match where their types are the same; of what else is imported nothing is known yet
abbrev pub matches : CoreType → CoreType → Bool
matches (of_function a) (of_function b) = same_function_type a b
matches (of_function a) (of_kind k) = false
matches (of_kind k) t = false

-- ---- the module that is handed in

pub record CoreImport : Type 0 where
  pub place : List ℕ
  pub name : List ℕ
  pub ty : CoreType

pub record CoreExport : Type 0 where
  pub name : List ℕ
  pub ty : CoreType

pub record MainModule : Type 0 where
  pub bytes : List ℕ
  pub imports : List CoreImport
  pub exports : List CoreExport

-- ---- items

-- whose a core item is: it is what the core instance with that index exports under a name, or the lowering of the function with that index,
-- with these options
pub data CoreOrigin : Type 0 where
  of_export : ℕ → List ℕ → CoreOrigin
  of_lower : ℕ → List CanonicalOption → CoreOrigin

pub record CoreItem : Type 0 where
  pub origin : CoreOrigin
  pub ty : CoreType

-- a name, and what it names, if anything
pub record CoreEntry : Type 0 where
  pub name : List ℕ
  pub item : Option CoreItem

-- what a core instance is made of: of the main module, with what it is given for each of that module's imports, none where that doesn't
-- match; of a core module that wasn't handed in; or of core items under names
pub data Source : Type 0 where
  of_main : List (Option CoreItem) → Source
  of_unknown : Source
  of_items : Source

pub record CoreInstance : Type 0 where
  pub source : Source
  pub exports : List CoreEntry
