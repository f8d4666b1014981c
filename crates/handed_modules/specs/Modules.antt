-- The modules that are handed to a linker: the main module, and adapters and libraries, each of which has a name (Component Model, Build
-- Targets, Shared-Everything Dynamic Linking).
use Rattle.std.specs.Prelude.{◌≡◌, ℕ, List, [], ◌∷◌, map, Option, Some, None, is_none, Bool, true, false, not, ◌&&◌, ◌||◌, bytes_eq, string_bytes, slice_get, if◌then◌else◌}
use Rattle.std.specs.List.{list_all, list_any, find}
use Rattle.link_lines.specs.declared.encoding.StringEncoding.{StringEncoding}
use Rattle.handed_modules.specs.declared.fault.HandFault.{HandFault}
use Rattle.handed_modules.specs.declared.fault.HandFault.TheVariants as faults
use Rattle.handed_modules.specs.declared.modules.HandedModule.{HandedModule}
use Rattle.handed_modules.specs.declared.modules.ModuleKind.{ModuleKind}
use Rattle.handed_modules.specs.declared.modules.ModuleKind.TheVariants as kinds
use Rattle.handed_modules.specs.Library.{ArgumentInput, are_known, argument_input}

pub record ModuleInput : Type 0 where
  pub name : List ℕ
  pub kind : ModuleKind
  pub bytes : List ℕ
  -- the world whose exports it supplies, by its id
  pub world : ℕ
  -- of its strings
  pub encoding : StringEncoding
  -- what it is instantiated with, if it is a library
  pub arguments : List ArgumentInput

abbrev pub module_input : HandedModule → ModuleInput
module_input m = record { name = string_bytes m.name; kind = m.kind; bytes = m.bytes.now; world = m.world; encoding = m.encoding; arguments = map argument_input m.arguments.items }

-- ---- which of them a module is

-- whose links are: an adapter's or a library's, by its name, or the main module's
abbrev pub owner_of : ModuleKind → List ℕ → Option (List ℕ)
owner_of kinds.Main name = None
owner_of kinds.Adapter name = Some name
owner_of kinds.Library name = Some name

abbrev pub owner : ModuleInput → Option (List ℕ)
owner m = owner_of m.kind m.name

abbrev pub same_owner : Option (List ℕ) → Option (List ℕ) → Bool
same_owner None None = true
same_owner None (Some y) = false
same_owner (Some x) None = false
same_owner (Some x) (Some y) = bytes_eq x y

abbrev pub is_main : ModuleInput → Bool
is_main m = is_none (owner m)

-- the main module, if it was handed in
abbrev pub main_module : List ModuleInput → Option ModuleInput
main_module ms = find is_main ms

-- one that is handed in again takes the place of the one before, and another stands behind all
abbrev pub with_module : ModuleInput → List ModuleInput → List ModuleInput
with_module m [] = m ∷ []
with_module m (n ∷ ns) = if same_owner (owner m) (owner n) then m ∷ ns else n ∷ with_module m ns

-- no two of them are one module
abbrev pub AreApart : List ModuleInput → Type 0
AreApart ms = (i j : ℕ) (a b : ModuleInput) → slice_get ms i ≡ Some a → slice_get ms j ≡ Some b → same_owner (owner a) (owner b) ≡ true → i ≡ j

-- one of them isn't the main module
abbrev pub has_others : List ModuleInput → Bool
has_others ms = list_any (λ m. not (is_main m)) ms

-- ---- why a module isn't taken

-- another stays, and has its bytes
abbrev pub doubles : ModuleInput → ModuleInput → Bool
doubles m n = not (same_owner (owner m) (owner n)) && bytes_eq n.bytes m.bytes

abbrev pub IsDuplicate : List ModuleInput → ModuleInput → Type 0
IsDuplicate ms m = list_any (doubles m) ms ≡ true

-- an adapter or library of that name was handed in, or is this one
abbrev pub knows : List ModuleInput → ModuleInput → List ℕ → Bool
knows ms m name = same_owner (Some name) (owner m) || list_any (λ n. same_owner (Some name) (owner n)) ms

-- an argument names none that is
abbrev pub NamesUnknown : List ModuleInput → ModuleInput → Type 0
NamesUnknown ms m = list_all (λ (a : ArgumentInput). are_known (knows ms m) a.instance) m.arguments ≡ false

-- bytes that were handed in come before names that weren't
abbrev pub IsHandCause : List ModuleInput → ModuleInput → HandFault → Type 0
IsHandCause ms m faults.UnknownAdapter = NamesUnknown ms m × (IsDuplicate ms m → ⊥)
IsHandCause ms m faults.DuplicateModule = IsDuplicate ms m
IsHandCause ms m faults.OutOfMemory = Unit {0}
