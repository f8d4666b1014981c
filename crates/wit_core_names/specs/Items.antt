-- What core modules import and export (Component Model, Build Targets).
use Rattle.std.specs.Prelude.{ℕ, Option, option_map}
use Rattle.std.specs.Borrow.{Bor}
use Rattle.wit_names.specs.Passed.wit_types-declared-function-Function.{Function}
use Rattle.wit_names.specs.Passed.wit_types-declared-world_key-WorldKey.{WorldKey}
use Rattle.wit_core_names.specs.declared.items.ResourceIntrinsic.{ResourceIntrinsic}
use Rattle.wit_core_names.specs.declared.items.WasmImport.{WasmImport}
use Rattle.wit_core_names.specs.declared.items.WasmImport.TheVariants as lent_import
use Rattle.wit_core_names.specs.declared.items.WasmExport.{WasmExport}
use Rattle.wit_core_names.specs.declared.items.WasmExport.TheVariants as lent_export
use Rattle.wit_core_names.specs.declared.items.WasmExportKind.{WasmExportKind}

-- a function, or what is done with a resource by its id: of the interface of that key, or of the world itself
pub data CoreImport : Type 0 where
  func : Option WorldKey → Function → CoreImport
  intrinsic : Option WorldKey → ℕ → ResourceIntrinsic → CoreImport

-- one of the functions of an exported one, or the destructor of a resource of an interface; or what a module has once
pub data CoreExport : Type 0 where
  func : Option WorldKey → Function → WasmExportKind → CoreExport
  destructor : WorldKey → ℕ → CoreExport
  memory : CoreExport
  initialize : CoreExport
  realloc : CoreExport

-- ---- what the values of the code stand for

abbrev pub key_of : Option (Bor WorldKey) → Option WorldKey
key_of key = option_map (λ k. k.now) key

abbrev pub import_of : WasmImport → CoreImport
import_of (lent_import.Func interface f) = CoreImport.func (key_of interface) f.now
import_of (lent_import.ResourceIntrinsic interface resource what) = CoreImport.intrinsic (key_of interface) resource what

abbrev pub export_of : WasmExport → CoreExport
export_of (lent_export.Func interface f kind) = CoreExport.func (key_of interface) f.now kind
export_of (lent_export.ResourceDtor interface resource) = CoreExport.destructor interface.now resource
export_of lent_export.Memory = CoreExport.memory
export_of lent_export.Initialize = CoreExport.initialize
export_of lent_export.Realloc = CoreExport.realloc
