-- Definitions that follow others, and what they leave as it was (Component Model, Explainer, Index Spaces).
use Rattle.std.specs.Prelude.{◌≡◌, ℕ, List, ◌∷◌, [], slice_get, Option, Some, None, true, bytes_eq, if◌then◌else◌}
use Rattle.wasm_types.specs.declared.types.ExportKind.{ExportKind}
use Rattle.linked_imports.specs.Passed.component_meaning-Core.{CoreType, is_of_kind, CoreExport, MainModule, of_export, CoreItem, CoreInstance}
use Rattle.linked_imports.specs.Passed.component_meaning-Spaces.{Spaces, joined, exports_of}

abbrev pub Grows : Spaces → Spaces → Type 0
Grows s t = (more : Spaces) × (t ≡ joined s more)

-- only core items are new
pub record AddsCoreItems (old new : Spaces) : Type 0 where
  pub scope : new.scope ≡ old.scope
  pub modules : new.modules ≡ old.modules
  pub instances : new.core_instances ≡ old.core_instances

-- ---- core exports of the main module

-- the type of the first core export of a name
abbrev pub export_named : List CoreExport → List ℕ → Option CoreType
export_named [] name = None
export_named (e ∷ es) name = if bytes_eq name e.name then Some e.ty else export_named es name

-- something of a kind is exported under a name, of this type
pub record Offers (main : MainModule) (kind : ExportKind) (name : List ℕ) (ty : CoreType) : Type 0 where
  pub there : export_named main.exports name ≡ Some ty
  pub kind_is : is_of_kind kind ty ≡ true

-- the core instance with that index is of the main module, and has what that exports
pub record IsMainInstance (main : MainModule) (s : Spaces) (i : ℕ) : Type 0 where
  pub instance : CoreInstance
  pub there : slice_get s.core_instances i ≡ Some instance
  pub has : instance.exports ≡ exports_of main i

-- what an instance exports under a name
abbrev pub export_item : ℕ → List ℕ → CoreType → CoreItem
export_item instance name ty = record { origin = of_export instance name; ty = ty }
