-- The options that a link has, of the module that is linked: its memory, what makes room in that, how it encodes strings (Component Model,
-- Canonical ABI, canon lift and canon lower; Build Targets).
use Rattle.std.specs.Prelude.{◌≡◌, ◌⊎◌, ℕ, Bool, true, false, ◌||◌, List, [], ◌∷◌, slice_get, Option, Some, None, codes}
use Rattle.wasm_types.specs.Entries.{ExportValue}
use Rattle.wasm_types.specs.Types.{FuncTypeValue}
use Rattle.wasm_types.specs.declared.types.ExportKind.TheVariants as kinds
use Rattle.wasm_types.specs.declared.types.ValType.TheVariants.{I32}
use Rattle.wasm_format.specs.Module.{exported_type}
use Rattle.wit_types.specs.declared.function.Function.{Function}
use Rattle.wit_types.specs.declared.mangling.AbiVariant.{AbiVariant}
use Rattle.wit_types.specs.declared.mangling.AbiVariant.TheVariants.{GuestImport, GuestExport}
use Rattle.core_links.specs.Passed.wit_core_items-World.{IsExportedAs}
use Rattle.wit_core_names.specs.Items.{CoreExport}
use Rattle.canonical_options.specs.Passed.flat_types-Signature.{RequiredValue}
use Rattle.canonical_options.specs.Options.{where_asked}
use Rattle.link_lines.specs.declared.encoding.StringEncoding.{StringEncoding}
use Rattle.core_links.specs.Names.{Names, counts_legacy}
use Rattle.core_links.specs.Exports.{IsAt, IsNowhere, IsUnclear}
use Rattle.link_table.specs.Linking.{Linking, types_of}
use Rattle.link_table.specs.declared.fault.TableFault.{TableFault}
use Rattle.link_table.specs.declared.fault.TableFault.TheVariants as faults
use Rattle.core_links.specs.declared.fault.LinkFault.TheVariants as link_faults
use Rattle.link_table.specs.Types.{Requires}

-- ---- core exports that stand for something

abbrev pub Naming : Type 1
Naming = List ℕ → Type 0

-- the names by which something is exported
abbrev pub NamesOf : Names → CoreExport → Naming
NamesOf n x = IsExportedAs n.known (counts_legacy n) x

abbrev pub IsThere : Linking → Naming → ℕ → Type 0
IsThere l Is place = IsAt l.names l.main.exports Is place

abbrev pub IsMissing : Linking → Naming → Type 0
IsMissing l Is = IsNowhere l.main.exports Is

-- ---- the memory

abbrev pub IsMemoryName : Names → Naming
IsMemoryName n = NamesOf n CoreExport.memory

-- the one core export that stands for it is at this place, and is a memory
pub record IsMemoryAt (l : Linking) (place : ℕ) : Type 0 where
  pub is : IsThere l (IsMemoryName l.names) place
  pub export : ExportValue
  pub there : slice_get l.main.exports place ≡ Some export
  pub kind : export.kind ≡ kinds.Memory

-- it has this name
pub record IsMemory (l : Linking) (name : List ℕ) : Type 0 where
  pub place : ℕ
  pub at : IsMemoryAt l place
  pub named : name ≡ at.export.name

-- ---- what makes room

-- that of one side alone, which only the legacy spelling has
abbrev pub own_realloc_name : AbiVariant → List ℕ
own_realloc_name GuestImport = codes "cabi_import_realloc"
own_realloc_name GuestExport = codes "cabi_export_realloc"

abbrev pub IsOwnReallocName : Names → AbiVariant → Naming
IsOwnReallocName n variant name = (counts_legacy n ≡ true) × (name ≡ own_realloc_name variant)

-- that of both sides
abbrev pub IsReallocName : Names → Naming
IsReallocName n = NamesOf n CoreExport.realloc

-- that of a side, where there is one, comes before that of both
abbrev pub IsReallocAt : Linking → AbiVariant → ℕ → Type 0
IsReallocAt l variant place =
    IsThere l (IsOwnReallocName l.names variant) place ⊎ (IsMissing l (IsOwnReallocName l.names variant) × IsThere l (IsReallocName l.names) place)

abbrev pub HasNoRealloc : Linking → AbiVariant → Type 0
HasNoRealloc l variant = IsMissing l (IsOwnReallocName l.names variant) × IsMissing l (IsReallocName l.names)

abbrev pub IsReallocUnclear : Linking → AbiVariant → Type 0
IsReallocUnclear l variant =
    IsUnclear l.names l.main.exports (IsOwnReallocName l.names variant)
    ⊎ (IsMissing l (IsOwnReallocName l.names variant) × IsUnclear l.names l.main.exports (IsReallocName l.names))

-- where the old room is and how much, the alignment, and the new size, to where the new room is
abbrev pub realloc_type : FuncTypeValue
realloc_type = record { params = I32 ∷ I32 ∷ I32 ∷ I32 ∷ []; results = I32 ∷ [] }

-- the core export that stands for it has this name, and its core type
pub record IsRealloc (l : Linking) (variant : AbiVariant) (name : List ℕ) : Type 0 where
  pub place : ℕ
  pub is : IsReallocAt l variant place
  pub export : ExportValue
  pub there : slice_get l.main.exports place ≡ Some export
  pub typed : exported_type l.main export.kind export.index ≡ Some realloc_type
  pub named : name ≡ export.name

-- it is at this place
pub record IsTypedRealloc (l : Linking) (variant : AbiVariant) (place : ℕ) : Type 0 where
  pub is : IsReallocAt l variant place
  pub export : ExportValue
  pub there : slice_get l.main.exports place ≡ Some export
  pub typed : exported_type l.main export.kind export.index ≡ Some realloc_type

-- ---- options

pub record Options : Type 0 where
  pub memory : Option (List ℕ)
  pub realloc : Option (List ℕ)
  pub encoding : Option StringEncoding

abbrev pub IsMemoryIf : Linking → Bool → Option (List ℕ) → Type 0
IsMemoryIf l false found = found ≡ None
IsMemoryIf l true found = (name : List ℕ) × IsMemory l name × (found ≡ Some name)

abbrev pub IsReallocIf : Linking → AbiVariant → Bool → Option (List ℕ) → Type 0
IsReallocIf l variant false found = found ≡ None
IsReallocIf l variant true found = (name : List ℕ) × IsRealloc l variant name × (found ≡ Some name)

-- those that are asked for, which are there
pub record AreOptions (l : Linking) (variant : AbiVariant) (r : RequiredValue) (o : Options) : Type 0 where
  pub memory : IsMemoryIf l r.memory o.memory
  pub realloc : IsReallocIf l variant r.realloc o.realloc
  pub encoding : o.encoding ≡ where_asked r.encoding (Some l.encoding)

-- of a function
abbrev pub AreOptionsOf : Linking → AbiVariant → Function → Options → Type 0
AreOptionsOf l variant f o = (r : RequiredValue) × Requires (types_of l) variant f r × AreOptions l variant r o

-- nothing is asked for, or something is
abbrev pub asks : RequiredValue → Bool
asks r = r.memory || (r.realloc || r.encoding)

-- ---- why a function doesn't have the options that it asks for

-- the memory is missing
abbrev pub LacksMemory : Linking → RequiredValue → Type 0
LacksMemory l r = (r.memory ≡ true) × IsMissing l (IsMemoryName l.names)

-- what makes room is missing, and the memory isn't
abbrev pub LacksRealloc : Linking → AbiVariant → RequiredValue → Type 0
LacksRealloc l variant r = (r.realloc ≡ true) × HasNoRealloc l variant × (LacksMemory l r → ⊥)

-- two core exports stand for one of both, or the name of one stands for something else, too
abbrev pub AreOptionsUnclear : Linking → AbiVariant → RequiredValue → Type 0
AreOptionsUnclear l variant r = ((r.memory ≡ true) × IsUnclear l.names l.main.exports (IsMemoryName l.names)) ⊎ ((r.realloc ≡ true) × IsReallocUnclear l variant)

-- the core export isn't a memory
pub record IsNoMemory (l : Linking) : Type 0 where
  pub place : ℕ
  pub is : IsThere l (IsMemoryName l.names) place
  pub export : ExportValue
  pub there : slice_get l.main.exports place ≡ Some export
  pub kind : export.kind ≡ kinds.Memory → ⊥

-- it hasn't the core type of what makes room
pub record IsReallocMistyped (l : Linking) (variant : AbiVariant) : Type 0 where
  pub place : ℕ
  pub is : IsReallocAt l variant place
  pub export : ExportValue
  pub there : slice_get l.main.exports place ≡ Some export
  pub typed : exported_type l.main export.kind export.index ≡ Some realloc_type → ⊥

abbrev pub AreOptionsMistyped : Linking → AbiVariant → RequiredValue → Type 0
AreOptionsMistyped l variant r = ((r.memory ≡ true) × IsNoMemory l) ⊎ ((r.realloc ≡ true) × IsReallocMistyped l variant)

-- ---- by what is looked for

abbrev pub ambiguous : TableFault
ambiguous = faults.Link link_faults.Ambiguous

abbrev pub wrong_type : TableFault
wrong_type = faults.Link link_faults.WrongCoreType

-- no core export stands for it, two do, or the name of one stands for something else, too
abbrev pub IsPlaceCause : Linking → Naming → TableFault → TableFault → Type 0
IsPlaceCause l Is none fault = ((fault ≡ none) × IsMissing l Is) ⊎ (((fault ≡ ambiguous) × IsUnclear l.names l.main.exports Is) ⊎ (fault ≡ faults.OutOfMemory))

abbrev pub IsMemoryCause : Linking → TableFault → Type 0
IsMemoryCause l fault = IsPlaceCause l (IsMemoryName l.names) faults.NoMemory fault ⊎ ((fault ≡ wrong_type) × IsNoMemory l)

abbrev pub IsReallocPlaceCause : Linking → AbiVariant → TableFault → Type 0
IsReallocPlaceCause l variant fault = ((fault ≡ faults.NoRealloc) × HasNoRealloc l variant) ⊎ (((fault ≡ ambiguous) × IsReallocUnclear l variant) ⊎ (fault ≡ faults.OutOfMemory))

abbrev pub IsReallocCause : Linking → AbiVariant → TableFault → Type 0
IsReallocCause l variant fault = IsReallocPlaceCause l variant fault ⊎ ((fault ≡ wrong_type) × IsReallocMistyped l variant)

-- of a function that asks for this
abbrev pub IsOptionsCause : Linking → AbiVariant → RequiredValue → TableFault → Type 0
IsOptionsCause l variant r fault = ((r.memory ≡ true) × IsMemoryCause l fault) ⊎ ((r.realloc ≡ true) × (LacksMemory l r → ⊥) × IsReallocCause l variant fault)
