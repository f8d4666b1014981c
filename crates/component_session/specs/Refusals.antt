-- Why calls are refused: each a fact of the input, and of the bytes that are judged.
use Rattle.std.specs.Prelude.{◌≡◌, ◌⊎◌, ℕ, List, [], Some, None, true, Any, slice_get}
use Rattle.plain_imports.specs.Imports.{IsBeyond as IsImportBeyond, names_of}
use Rattle.plain_worlds.specs.World.{WorldMeaning, plain_world}
use Rattle.wasm_format.specs.Module.{ModuleValue}
use Rattle.wasm_format.specs.declared.fault.ModuleFault.{ModuleFault}
use Rattle.wasm_format.specs.Grammar.{IsModule, IsModuleFault}
use Rattle.wit_component.specs.declared.fault.Fault.{Fault as LinkFault}
use Rattle.wit_component.specs.declared.fault.Fault.TheVariants as linking
use Rattle.component_session.specs.declared.fault.Fault.{Fault}
use Rattle.component_session.specs.declared.fault.Fault.TheVariants as faults
use Rattle.component_session.specs.Faults.{of_hand, of_module}
use Rattle.wit_component.specs.Linking.{Linking}
use Rattle.wit_component.specs.Cause.{IsStillToCome, IsLinkCause, IsLinkable, IsTooLarge}
use Rattle.core_links.specs.declared.fault.LinkFault.{LinkFault as CoreFault}
use Rattle.core_links.specs.declared.fault.LinkFault.TheVariants as core
use Rattle.linked_components.specs.Passed.link_table-declared-fault-TableFault-TheVariants as tables
use Rattle.linked_components.specs.Passed.link_table-Linking.{Linking as WideLinking}
use Rattle.linked_components.specs.Passed.link_table-Table.{Table, IsTable}
use Rattle.linked_components.specs.Passed.link_table-Cause.{IsTableCause}
use Rattle.linked_components.specs.Build.{HasTwoNames}
use Rattle.linked_components.specs.Tracks.{HasOneTrack, HasOtherNames}
use Rattle.component_audit.specs.Judged.{IsBeyond}
use Rattle.export_keys.specs.Keys.{ExportsMore}
use Rattle.text_graphs.specs.Passed.wit_resolution-Names.{known_of}
use Rattle.wit_types.specs.declared.world.World.{World}
use Rattle.handed_modules.specs.Modules.{ModuleInput, IsHandCause}
use Rattle.handed_modules.specs.declared.fault.HandFault.{HandFault}
use Rattle.component_session.specs.Input.{Input, HasOthers, IsChosen, IsLinkingOf, IsWideLinkingOf, main_in, world_at, worlds_of}

-- ---- what isn't plain

-- a core import of the main module stands for something of the chosen world that isn't one of its plain functions, or for two things
pub record ImportsBeyond (input : Input) : Type 0 where
  pub chosen : ℕ
  pub world : World
  pub plain : WorldMeaning
  pub handed : ModuleInput
  pub core : ModuleValue
  pub chooses : input.world ≡ Some chosen
  pub world_is : slice_get (worlds_of input.resolved) chosen ≡ Some world
  pub plain_is : plain_world world ≡ Some plain
  pub hands : main_in input ≡ Some handed
  pub reads : IsModule handed.bytes core
  pub beyond : Any (IsImportBeyond (known_of input.resolved.graph.tables) world (names_of plain.imports)) core.imports

-- ---- what worlds export

-- the chosen world, and that of the main module, where this is the only one
pub record HaveWorlds (input : Input) (chosen handed : World) : Type 0 where
  pub single : HasOthers input → ⊥
  pub chosen_id : ℕ
  pub main : ModuleInput
  pub chooses : input.world ≡ Some chosen_id
  pub hands : main_in input ≡ Some main
  pub chosen_is : slice_get (worlds_of input.resolved) chosen_id ≡ Some chosen
  pub handed_is : slice_get (worlds_of input.resolved) main.world ≡ Some handed

-- the chosen world exports something under a key under which that of the main module doesn't
abbrev pub LacksExports : Input → Type 0
LacksExports input = (chosen : World) × (handed : World) × HaveWorlds input chosen handed × ExportsMore chosen handed

-- or the other way round
abbrev pub HasOtherExports : Input → Type 0
HasOtherExports input = (chosen : World) × (handed : World) × HaveWorlds input chosen handed × ExportsMore handed chosen

-- the main module is the only one, and its world exports exactly what the chosen one does
pub record AreExportsSupplied (input : Input) : Type 0 where
  pub single : HasOthers input → ⊥
  pub all : LacksExports input → ⊥
  pub alone : HasOtherExports input → ⊥

-- ---- plain and wide inputs

-- all that the chosen world has is linked, and not its plain functions alone: it exports something else, or two names of one of its sides are
-- alike, or a core import stands for something else
pub data IsWide (input : Input) : Type 0 where
  by_world : (w : ℕ) → input.world ≡ Some w → world_at input w ≡ None → IsWide input
  by_import : ImportsBeyond input → IsWide input

-- options ask for canonical names, and those of the interfaces that are imported are others
pub record ChangesNames (input : Input) (l : WideLinking) : Type 0 where
  pub asked : input.options.emit_canonical_names ≡ true
  pub others : HasOtherNames l.names

-- or for one import of interfaces of one version track, and there are such
pub record MergesTracks (input : Input) (l : WideLinking) : Type 0 where
  pub asked : input.options.merge_imports_based_on_semver ≡ true
  pub one : HasOneTrack l.names

-- options ask for names of imports that are still to come: names that are given, canonical ones, or one for interfaces of one version track
pub data OptionsBeyond (input : Input) : Type 0 where
  by_given_names : (input.options.import_name_map ≡ [] → ⊥) → OptionsBeyond input
  by_canonical_names : (l : WideLinking) → IsWideLinkingOf input l → ChangesNames input l → OptionsBeyond input
  by_tracks : (l : WideLinking) → IsWideLinkingOf input l → MergesTracks input l → OptionsBeyond input

-- the chosen world has these plain functions, and they alone are linked
pub record IsPlain (input : Input) (plain : WorldMeaning) : Type 0 where
  pub chosen : IsChosen input plain
  pub here : IsWide input → ⊥

-- ---- why a module isn't taken

-- the module's bytes aren't read: the refusal is that of the module reader
abbrev pub IsModuleCause : List ℕ → Fault → Type 0
IsModuleCause bytes fault = (m : ModuleFault) × (of_module m ≡ fault) × IsModuleFault bytes m

-- or it doesn't go with those that were handed in
abbrev pub IsHandInCause : List ModuleInput → ModuleInput → Fault → Type 0
IsHandInCause modules m fault = IsModuleCause m.bytes fault ⊎ ((why : HandFault) × (of_hand why ≡ fault) × IsHandCause modules m why)

-- ---- why links aren't answered

-- the input links plain functions, and this is so of that
abbrev pub OfLinking : Input → (Linking → Type 0) → Type 0
OfLinking input P = (l : Linking) × IsLinkingOf input l × (IsWide input → ⊥) × P l

-- or it links all that the world has
abbrev pub OfWide : Input → (WideLinking → Type 0) → Type 0
OfWide input P = (l : WideLinking) × IsWideLinkingOf input l × IsWide input × P l

-- there is no link table for one or the other
abbrev pub HasNoTable : Input → LinkFault → CoreFault → Type 0
HasNoTable input fault wide = OfLinking input (λ l. IsLinkCause l fault) ⊎ OfWide input (λ l. IsTableCause l (tables.Link wide))

-- X1 and want of memory are causes of the input's own
abbrev pub IsLinkingCause : Input → LinkFault → Type 0
IsLinkingCause input linking.NotYet = ⊥
IsLinkingCause input linking.DuplicateImport = HasNoTable input linking.DuplicateImport core.DuplicateImport
IsLinkingCause input linking.UnknownImport = HasNoTable input linking.UnknownImport core.UnknownImport
IsLinkingCause input linking.Ambiguous = HasNoTable input linking.Ambiguous core.Ambiguous
IsLinkingCause input linking.LegacyName = HasNoTable input linking.LegacyName core.LegacyName
IsLinkingCause input linking.WrongCoreType = HasNoTable input linking.WrongCoreType core.WrongCoreType
IsLinkingCause input linking.MissingCoreExport = HasNoTable input linking.MissingCoreExport core.MissingCoreExport
IsLinkingCause input linking.TooLarge = ⊥
IsLinkingCause input linking.OutOfMemory = ⊥

-- what is linked doesn't count; adapters and libraries are still to come
abbrev pub IsInputCause : Input → Fault → Type 0
IsInputCause input faults.NotYet = HasOthers input
IsInputCause input faults.NoModule = main_in input ≡ None
IsInputCause input faults.NoWorld = input.world ≡ None
IsInputCause input faults.ExportUnsupplied = LacksExports input
IsInputCause input faults.ExportNotInWorld = HasOtherExports input
IsInputCause input (faults.BadModule cause) = (handed : ModuleInput) × (main_in input ≡ Some handed) × IsModuleCause handed.bytes (faults.BadModule cause)
IsInputCause input faults.UnknownAdapter = ⊥
IsInputCause input faults.DuplicateModule = ⊥
IsInputCause input (faults.Linking cause) = ⊥
IsInputCause input faults.NoMemory = ⊥
IsInputCause input faults.NoRealloc = ⊥
IsInputCause input (faults.Types cause) = ⊥
IsInputCause input faults.OutOfMemory = Unit {0}

-- why links aren't answered
abbrev pub IsCause : Input → Fault → Type 0
IsCause input faults.NotYet = IsInputCause input faults.NotYet ⊎ (OfLinking input IsStillToCome ⊎ (OfWide input (λ l. OptionsBeyond input) ⊎ OfWide input (λ l. IsTableCause l tables.NotYet)))
IsCause input faults.NoModule = IsInputCause input faults.NoModule
IsCause input faults.NoWorld = IsInputCause input faults.NoWorld
IsCause input faults.ExportUnsupplied = IsInputCause input faults.ExportUnsupplied
IsCause input faults.ExportNotInWorld = IsInputCause input faults.ExportNotInWorld
IsCause input (faults.BadModule cause) = IsInputCause input (faults.BadModule cause)
IsCause input faults.UnknownAdapter = ⊥
IsCause input faults.DuplicateModule = ⊥
IsCause input (faults.Linking cause) = IsLinkingCause input cause
IsCause input faults.NoMemory = OfWide input (λ l. IsTableCause l tables.NoMemory)
IsCause input faults.NoRealloc = OfWide input (λ l. IsTableCause l tables.NoRealloc)
IsCause input (faults.Types cause) = OfWide input (λ l. IsTableCause l (tables.Types cause))
IsCause input faults.OutOfMemory = Unit {0}

-- ---- and of what is handed over beside

-- nothing stands in the way of the links of plain functions
pub record IsReady (input : Input) (l : Linking) : Type 0 where
  pub links_input : IsLinkingOf input l
  pub exports : AreExportsSupplied input
  pub plain : IsWide input → ⊥
  pub linkable : IsLinkable l

-- and of those of all that a world has
pub record IsWideReady (input : Input) (l : WideLinking) : Type 0 where
  pub links_input : IsWideLinkingOf input l
  pub exports : AreExportsSupplied input
  pub wide : IsWide input
  pub options : OptionsBeyond input → ⊥
  pub table : Table
  pub is : IsTable l table

-- why a component isn't built: what links are refused for, or 32 bits can't say an index, a count or a size of it; or functions of one interface
-- would be imported under two names, which is still to come
pub data IsBuildCause (input : Input) (fault : Fault) : Type 0 where
  of_links : IsCause input fault → IsBuildCause input fault
  of_size : fault ≡ faults.Linking linking.TooLarge → (l : Linking) → IsReady input l → IsTooLarge l → IsBuildCause input fault
  of_wide_size : fault ≡ faults.Linking linking.TooLarge → (l : WideLinking) → IsWideReady input l → IsBuildCause input fault
  of_names : fault ≡ faults.NotYet → (l : WideLinking) → IsWideReady input l → HasTwoNames l.names l.main.imports → IsBuildCause input fault

-- why bytes aren't judged: the input isn't plain, or what links are refused for, or what the bytes have beyond
pub data IsAuditCause (input : Input) (bytes : List ℕ) (fault : Fault) : Type 0 where
  of_input : IsInputCause input fault → IsAuditCause input bytes fault
  of_world : fault ≡ faults.NotYet → IsWide input → IsAuditCause input bytes fault
  of_links : (IsWide input → ⊥) → IsCause input fault → IsAuditCause input bytes fault
  of_bytes : fault ≡ faults.NotYet → (l : Linking) → IsReady input l → IsBeyond l bytes → IsAuditCause input bytes fault
