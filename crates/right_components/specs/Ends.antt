-- Where the core functions that the main module is given, and the functions that are exported, end (Component Model, Explainer, Canonical
-- Definitions).
use Rattle.std.specs.Prelude.{◌≡◌, ℕ, ◌+◌, List, [], length, Option, Some, None, string_bytes}
use Rattle.std.specs.List.{AllByRecursion as Each}
use Rattle.wasm_types.specs.Entries.{ExportValue}
use Rattle.wasm_types.specs.Types.{FuncTypeValue}
use Rattle.wasm_types.specs.declared.types.ExportKind.{ExportKind}
use Rattle.wasm_types.specs.declared.types.ExportKind.TheVariants as kinds
use Rattle.wit_order.specs.Order.{Has}
use Rattle.wit_types.specs.declared.mangling.AbiVariant.TheVariants.{GuestExport}
use Rattle.wit_types.specs.declared.world_key.WorldKey.{WorldKey}
use Rattle.component_definitions.specs.declared.canonical.CanonicalOption.{CanonicalOption}
use Rattle.component_definitions.specs.declared.canonical.CanonicalOption.TheVariants as options
use Rattle.link_table.specs.Passed.canonical_options-Options.{encoding_option}
use Rattle.link_lines.specs.declared.encoding.StringEncoding.{StringEncoding}
use Rattle.link_table.specs.Passed.type_meaning-Words.{root_import, imported, Label, BinaryTree}
use Rattle.link_table.specs.Passed.type_meaning-Items.{Origin, from_import, from_lift, a_function, item_at}
use Rattle.component_meaning.specs.Core.{of_function, of_export, of_lower, CoreItem}
use Rattle.component_meaning.specs.Spaces.{Spaces, core_at}
use Rattle.link_table.specs.Passed.core_links-Names.{Names}
use Rattle.link_table.specs.Linking.{Linking, types_of}
use Rattle.link_table.specs.Types.{HasCoreType}
use Rattle.link_table.specs.Table.{ImportEntry, ExportEntry}
use Rattle.link_table.specs.Options.{Options, IsMemory}
use Rattle.right_components.specs.Outside.{IsTextOf}

-- ---- imports

-- the import for which an entry stands: of the world itself, or of the instance of an interface
pub data IsImportOf (n : Names) (e : ImportEntry) (l : Label) : Type 0 where
  its_own : e.key ≡ None → l ≡ record { site = root_import; name = string_bytes e.function.name } → IsImportOf n e l
  of_interface : (key : WorldKey) (text : List ℕ) → e.key ≡ Some key → IsTextOf n key text → l ≡ record { site = imported text; name = string_bytes e.function.name } → IsImportOf n e l

-- it is the lowering of that import, without options; of whatever type: that is asked of imports
pub record IsLoweringOf (n : Names) (s : Spaces) (e : ImportEntry) (i : CoreItem) : Type 0 where
  pub function : ℕ
  pub lowers : i.origin ≡ of_lower function []
  pub label : Label
  pub is_import : IsImportOf n e label
  pub binary : BinaryTree
  pub is : item_at s.scope.functions function ≡ a_function (from_import label) binary

-- ---- exports

-- what a core item is: what that instance exports under a name
abbrev pub IsCoreExport : ExportKind → Spaces → ℕ → ℕ → List ℕ → Type 0
IsCoreExport kind s instance i name = (c : CoreItem) × (core_at kind s i ≡ Some c) × (c.origin ≡ of_export instance name)

-- a name of the memory of the module that has that name: it may have more than one
abbrev pub IsNameOfMemory : Linking → List ℕ → List ℕ → Type 0
IsNameOfMemory l of name = (m : IsMemory l of) × (e : ExportValue) × Has l.main.exports e × (e.kind ≡ kinds.Memory) × (e.index ≡ m.at.export.index) × (name ≡ e.name)

-- an option is what the options of an entry say, of an instance of the module
pub data IsOptionOf (l : Linking) (s : Spaces) (instance : ℕ) (o : Options) : CanonicalOption → Type 0 where
  the_memory : (i : ℕ) (of name : List ℕ) → o.memory ≡ Some of → IsNameOfMemory l of name → IsCoreExport kinds.Memory s instance i name → IsOptionOf l s instance o (options.Memory i)
  the_realloc : (i : ℕ) (name : List ℕ) → o.realloc ≡ Some name → IsCoreExport kinds.Func s instance i name → IsOptionOf l s instance o (options.Realloc i)
  the_encoding : (e : StringEncoding) → o.encoding ≡ Some e → IsOptionOf l s instance o (encoding_option e)

-- how many options an entry has
abbrev pub is_there : {A : Type 0} → Option A → ℕ
is_there None = 0
is_there (Some a) = 1

abbrev pub option_count : Options → ℕ
option_count o = is_there o.memory + (is_there o.realloc + is_there o.encoding)

-- a lift has the options of an entry, each once
pub record AreOptionsOf (l : Linking) (s : Spaces) (instance : ℕ) (o : Options) (os : List CanonicalOption) : Type 0 where
  pub each : Each (IsOptionOf l s instance o) os
  pub so_many : length os ≡ option_count o

-- it is the lift of the core export that the entry names, of that core type, with the entry's options
pub record IsLiftOf (l : Linking) (s : Spaces) (e : ExportEntry) (o : Origin) : Type 0 where
  pub core : ℕ
  pub options : List CanonicalOption
  pub lifts : o ≡ from_lift core options
  pub instance : ℕ
  pub item : CoreItem
  pub is : core_at kinds.Func s core ≡ Some item
  pub ends : item.origin ≡ of_export instance e.name
  pub ty : FuncTypeValue
  pub typed : HasCoreType (types_of l) GuestExport e.function ty
  pub matches : item.ty ≡ of_function ty
  pub are : AreOptionsOf l s instance e.options options
