-- What the auditor looks at, one test after the other.
use Rattle.std.specs.Prelude.{◌≡◌, ℕ, ◌≤◌, List, [], ◌∷◌, map, is_some, Option, Some, None, Bool, true, false, ◌&&◌, bytes_eq, if◌then◌else◌}
use Rattle.std.specs.List.{AllByRecursion as Each}
use Rattle.plain_worlds.specs.World.{FunctionTypeValue}
use Rattle.plain_worlds.specs.World.{FunctionItem}
use Rattle.wit_component.specs.Linking.{CoreExport, Linking}
use Rattle.wit_component.specs.Places.{ExportLink}
use Rattle.name_places.specs.FirstPlaces.{place_of}
use Rattle.wasm_types.specs.Types.{FuncTypeValue}
use Rattle.wit_component.specs.Meaning.{CoreOrigin, of_export, of_lower, Origin, of_import, of_lift, CoreFunction, ComponentFunction, ImportEntry, item_at, is_of_core_type, same_type}
use Rattle.wit_component.specs.Right.{IsIn, IsOnce, listed}

-- by so many instances the main module is there once, or not yet
abbrev pub IsSoFar : Bool → List (List (Option CoreFunction)) → Type 0
IsSoFar false all = all ≡ []
IsSoFar true all = IsOnce all

-- a test of a condition finds it met, or a place in so many bytes where it fails
abbrev pub Finds : ℕ → Type 0 → Option ℕ → Type 0
Finds n P None = P
Finds n P (Some offset) = (offset ≤ n) × (P → ⊥)

-- each entry is listed as one of these functions, and each that is wanted is there
pub record IsOutside (fs wanted : List FunctionItem) (es : List ImportEntry) : Type 0 where
  pub known : Each (λ e. IsIn e (map listed fs)) es
  pub there : Each (λ f. IsIn (listed f) es) wanted

-- the function of a name
abbrev pub function_named : List ℕ → List FunctionItem → Option FunctionItem
function_named name [] = None
function_named name (f ∷ fs) = if bytes_eq name f.name then Some f else function_named name fs

-- there is a function, and a type, which is its
abbrev pub is_type_of : Option FunctionItem → Option FunctionTypeValue → Bool
is_type_of None t = false
is_type_of (Some f) None = false
is_type_of (Some f) (Some t) = same_type f.ty t

-- an import, or an export as the outside sees it, is one of these functions
abbrev pub is_listed : List FunctionItem → ImportEntry → Bool
is_listed fs e = is_type_of (function_named e.name fs) e.item

-- one of the names is this function's
abbrev pub is_there : List (List ℕ) → FunctionItem → Bool
is_there names f = is_some (place_of f.name names)

-- the core export that the exported function of a name is linked to, if there is such a function
abbrev pub IsOwnExport : Linking → List ℕ → Option CoreExport → Type 0
IsOwnExport l name None = function_named name l.world.exports ≡ None
IsOwnExport l name (Some e) = (f : FunctionItem) × (function_named name l.world.exports ≡ Some f) × ExportLink l f e

-- it is an instance's export of that name
abbrev pub is_named : CoreOrigin → List ℕ → Bool
is_named (of_export k x) name = bytes_eq x name
is_named (of_lower n) name = false

-- and of that core type
abbrev pub is_export_of : Option CoreFunction → List ℕ → Option FuncTypeValue → Bool
is_export_of None name t = false
is_export_of (Some c) name t = is_named c.origin name && is_of_core_type t (Some c)

-- the lift of one of these core functions, which is that export
abbrev pub is_lift : List (Option CoreFunction) → Origin → List ℕ → Option FuncTypeValue → Bool
is_lift cores (of_import x) name t = false
is_lift cores (of_lift n) name t = is_export_of (item_at cores n) name t

-- a function is the lift of an instance's export of that name and core type
abbrev pub is_lift_of : List (Option CoreFunction) → Option ComponentFunction → List ℕ → Option FuncTypeValue → Bool
is_lift_of cores None name t = false
is_lift_of cores (Some f) name t = is_lift cores f.origin name t

-- the import of this name
abbrev pub is_imported : Origin → List ℕ → Bool
is_imported (of_import x) name = bytes_eq x name
is_imported (of_lift n) name = false

-- a function is the import of this name
abbrev pub is_import_of : Option ComponentFunction → List ℕ → Bool
is_import_of None name = false
is_import_of (Some f) name = is_imported f.origin name

-- the lowering of one of these functions, which is that import
abbrev pub is_lowering : List (Option ComponentFunction) → CoreOrigin → List ℕ → Bool
is_lowering functions (of_export k x) name = false
is_lowering functions (of_lower n) name = is_import_of (item_at functions n) name

-- a core function is the lowering of the import of this name
abbrev pub is_lowering_of : List (Option ComponentFunction) → Option CoreFunction → List ℕ → Bool
is_lowering_of functions None name = false
is_lowering_of functions (Some c) name = is_lowering functions c.origin name
