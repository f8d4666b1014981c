-- Functions that are exported: each lifts a core export of the main module (Component Model, Canonical ABI, canon lift).
use Rattle.std.specs.Prelude.{◌≡◌, ℕ, List, [], ◌∷◌, ◌++◌, length, slice_get, Option, Some, string_bytes}
use Rattle.std.specs.List.{AllByRecursion as Each}
use Rattle.std.specs.Option.{ForSome}
use Rattle.wasm_types.specs.declared.types.ExportKind.{ExportKind}
use Rattle.wasm_types.specs.declared.types.ExportKind.TheVariants as kinds
use Rattle.wasm_types.specs.Entries.{ExportValue}
use Rattle.wasm_types.specs.Types.{FuncTypeValue}
use Rattle.wit_types.specs.declared.mangling.AbiVariant.TheVariants.{GuestExport}
use Rattle.type_writing.specs.Passed.type_meaning-Words.{BinaryTree}
use Rattle.type_writing.specs.Passed.type_meaning-Items.{Origin, from_lift, a_function, Entry, type_at, is_function}
use Rattle.linked_imports.specs.Passed.component_meaning-Core.{CoreType, of_function, MainModule}
use Rattle.linked_imports.specs.Passed.component_meaning-Spaces.{Spaces}
use Rattle.linked_imports.specs.Passed.link_table-Linking.{Linking, types_of}
use Rattle.linked_imports.specs.Passed.link_table-Options.{Options}
use Rattle.linked_imports.specs.Passed.link_table-Table.{ExportEntry}
use Rattle.linked_imports.specs.Passed.link_table-Types.{HasCoreType}
use Rattle.component_definitions.specs.declared.canonical.CanonicalOption.{CanonicalOption}
use Rattle.linked_imports.specs.Passed.link_table-View.{name_at}
use Rattle.linked_imports.specs.Passed.right_components-Ends.{IsNameOfMemory, IsCoreExport, IsOptionOf, is_there, IsLiftOf}
use Rattle.component_encoding.specs.Growing.{Offers}
use Rattle.component_encoding.specs.declared.exports.Taken.{Taken}
use Rattle.component_encoding.specs.declared.exports.Shared.{Shared}

-- ---- core exports that were taken

-- it is the core export at a place
pub record IsTaken (es : List ExportValue) (kind : ExportKind) (s : Spaces) (instance : ℕ) (t : Taken) : Type 0 where
  pub name : List ℕ
  pub there : name_at es t.place ≡ Some name
  pub is : IsCoreExport kind s instance t.index name

pub record AreShared (es : List ExportValue) (s : Spaces) (instance : ℕ) (t : Shared) : Type 0 where
  pub memory : ForSome t.memory (IsTaken es kinds.Memory s instance)
  pub realloc : ForSome t.realloc (IsTaken es kinds.Func s instance)

-- ---- what the main module has to offer

abbrev pub IsOffered : MainModule → ExportKind → List ℕ → Type 0
IsOffered main kind name = (ty : CoreType) × Offers main kind name ty

-- what options name
pub record AreOffered (l : Linking) (main : MainModule) (o : Options) : Type 0 where
  pub memory : (name : List ℕ) → o.memory ≡ Some name → IsNameOfMemory l name name × IsOffered main kinds.Memory name
  pub realloc : (name : List ℕ) → o.realloc ≡ Some name → IsOffered main kinds.Func name

-- what is found for one that is asked for, if it is
pub record IsOptionFor (l : Linking) (s : Spaces) (instance : ℕ) (o : Options) (asked : Option (List ℕ)) (option : ℕ → CanonicalOption) (found : Option ℕ) : Type 0 where
  pub so_many : is_there found ≡ is_there asked
  pub is : (i : ℕ) → found ≡ Some i → IsOptionOf l s instance o (option i)

-- what the lift of an entry is of, and what its options name
pub record IsEntryOffered (l : Linking) (main : MainModule) (e : ExportEntry) : Type 0 where
  pub ty : FuncTypeValue
  pub typed : HasCoreType (types_of l) GuestExport e.function ty
  pub offers : Offers main kinds.Func e.name (of_function ty)
  pub options : AreOffered l main e.options

-- ---- exports

-- it is the function under its name, of the type at an index, and ends as its entry says
pub record IsExportOf (l : Linking) (s : Spaces) (e : ExportEntry) (ty : ℕ) (x : Entry) : Type 0 where
  pub named : x.name ≡ string_bytes e.function.name
  pub origin : Origin
  pub tree : BinaryTree
  pub type_is : type_at is_function s.scope.types ty ≡ Some tree
  pub is : x.item ≡ a_function origin tree
  pub lifts : IsLiftOf l s e origin

-- one more is exported, and nothing else but functions and core items is new
pub record AddsExport (old new : Spaces) (x : Entry) : Type 0 where
  pub types : new.scope.types ≡ old.scope.types
  pub imports : new.scope.imports ≡ old.scope.imports
  pub exports : new.scope.exports ≡ old.scope.exports ++ x ∷ []
  pub modules : new.modules ≡ old.modules
  pub instances : new.core_instances ≡ old.core_instances

-- the lift of a core function, under a name
abbrev pub lifted : List ℕ → ℕ → List CanonicalOption → BinaryTree → Entry
lifted name core options tree = record { name = name; item = a_function (from_lift core options) tree }

-- one more is exported, which is that of an entry
abbrev pub IsOneExported : Linking → Spaces → Spaces → ExportEntry → ℕ → Type 0
IsOneExported l old new e ty = (x : Entry) × AddsExport old new x × IsExportOf l new e ty x

-- these are indices of types of functions
abbrev pub AreTypes : Spaces → List ℕ → Type 0
AreTypes s types = Each (λ (i : ℕ). (tree : BinaryTree) × (type_at is_function s.scope.types i ≡ Some tree)) types

-- these are exported, in order
pub record AreExported (l : Linking) (old new : Spaces) (es : List ExportEntry) (types : List ℕ) : Type 0 where
  pub types_stay : new.scope.types ≡ old.scope.types
  pub imports : new.scope.imports ≡ old.scope.imports
  pub modules : new.modules ≡ old.modules
  pub instances : new.core_instances ≡ old.core_instances
  pub entries : List Entry
  pub exports : new.scope.exports ≡ old.scope.exports ++ entries
  pub so_many : length entries ≡ length es
  pub each : (k : ℕ) (e : ExportEntry) (ty : ℕ) (x : Entry) → slice_get es k ≡ Some e → slice_get types k ≡ Some ty → slice_get entries k ≡ Some x → IsExportOf l new e ty x
