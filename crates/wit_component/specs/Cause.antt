-- Why there is no link table, and no component is encoded: each a fact of what is linked.
use Rattle.std.specs.Prelude.{◌≡◌, ◌<◌, ◌⊎◌, List, [], ◌∷◌, length, Bool, true, false, ◌&&◌, ◌||◌, Any, bytes_eq}
use Rattle.std.specs.List.{list_any}
use Rattle.wit_component.specs.declared.fault.Fault.{Fault}
use Rattle.wit_component.specs.declared.fault.Fault.TheVariants as faults
use Rattle.plain_worlds.specs.World.{FunctionItem}
use Rattle.wit_component.specs.CoreNames.{is_legacy_import, is_initialize_name, is_post_return_name, is_hook_name, is_outer_memory}
use Rattle.wit_component.specs.Linking.{CoreImport, Linking}
use Rattle.known_definitions.specs.Component.{Fits}
use Rattle.wit_component.specs.Table.{Entry, entries_of_import, entries_of_export, IsTyped, is_of_memory, IsLinked}
use Rattle.wit_component.specs.Component.{component_of}

-- two imports of one pair of texts
abbrev pub same_pair : CoreImport → CoreImport → Bool
same_pair i j = bytes_eq i.place j.place && bytes_eq i.name j.name

abbrev pub RepeatsPair : List CoreImport → Type 0
RepeatsPair [] = ⊥
RepeatsPair (i ∷ more) = (list_any (same_pair i) more ≡ true) ⊎ RepeatsPair more

-- the module asks for, or offers, what is still to come
abbrev pub IsStillToCome : Linking → Type 0
IsStillToCome l =
    Any (λ i. is_outer_memory i.place i.name ≡ true) l.main.imports
    ⊎ Any (λ e. (is_hook_name e.name || is_initialize_name l.rejects_legacy e.name || list_any (λ f. is_post_return_name l.rejects_legacy f.name e.name) l.world.exports) ≡ true) l.main.exports

-- there is one entry, whose core types differ
abbrev pub IsMistyped : List Entry → Type 0
IsMistyped entries = (e : Entry) × (entries ≡ e ∷ []) × ¬ (IsTyped e)

-- why a core import has no entry; what is still to come stands for something
abbrev pub IsImportCause : Linking → Fault → CoreImport → Type 0
IsImportCause l faults.UnknownImport i = (entries_of_import l i ≡ []) × (is_outer_memory i.place i.name ≡ false)
IsImportCause l faults.Ambiguous i = 1 < length (entries_of_import l i)
IsImportCause l faults.LegacyName i = (l.rejects_legacy ≡ true) × Any (λ f. is_legacy_import i.place i.name f.name ≡ true) l.world.imports
IsImportCause l faults.WrongCoreType i = IsMistyped (entries_of_import l i)
IsImportCause l faults.NotYet i = ⊥
IsImportCause l faults.DuplicateImport i = ⊥
IsImportCause l faults.MissingCoreExport i = ⊥
IsImportCause l faults.TooLarge i = ⊥
IsImportCause l faults.OutOfMemory i = ⊥

-- and why an exported function has none; a text that is also the memory's has two meanings
abbrev pub IsExportCause : Linking → Fault → FunctionItem → Type 0
IsExportCause l faults.MissingCoreExport f = entries_of_export l f ≡ []
IsExportCause l faults.Ambiguous f = (1 < length (entries_of_export l f)) ⊎ Any (λ e. is_of_memory l.rejects_legacy e.line.item ≡ true) (entries_of_export l f)
IsExportCause l faults.WrongCoreType f = IsMistyped (entries_of_export l f)
IsExportCause l faults.NotYet f = ⊥
IsExportCause l faults.DuplicateImport f = ⊥
IsExportCause l faults.UnknownImport f = ⊥
IsExportCause l faults.LegacyName f = ⊥
IsExportCause l faults.TooLarge f = ⊥
IsExportCause l faults.OutOfMemory f = ⊥

-- of one of the core imports, or of one of the exported functions
abbrev pub HasCause : Linking → Fault → Type 0
HasCause l fault = Any (IsImportCause l fault) l.main.imports ⊎ Any (IsExportCause l fault) l.world.exports

-- why there is no link table
abbrev pub IsLinkCause : Linking → Fault → Type 0
IsLinkCause l faults.NotYet = IsStillToCome l
IsLinkCause l faults.DuplicateImport = RepeatsPair l.main.imports
IsLinkCause l faults.UnknownImport = HasCause l faults.UnknownImport
IsLinkCause l faults.Ambiguous = HasCause l faults.Ambiguous
IsLinkCause l faults.LegacyName = HasCause l faults.LegacyName
IsLinkCause l faults.WrongCoreType = HasCause l faults.WrongCoreType
IsLinkCause l faults.MissingCoreExport = HasCause l faults.MissingCoreExport
IsLinkCause l faults.TooLarge = ⊥
IsLinkCause l faults.OutOfMemory = Unit {0}

-- ---- why a component isn't built: what links are refused for, or its size where nothing else is in the way

-- every entry is there, and nothing is asked for that is still to come
pub record IsLinkable (l : Linking) : Type 0 where
  pub plain : IsStillToCome l → ⊥
  pub distinct : RepeatsPair l.main.imports → ⊥
  pub linked : IsLinked l

-- 32 bits can't say an index, a count or a size of the component that is to be written
abbrev pub IsTooLarge : Linking → Type 0
IsTooLarge l = Fits (component_of l) → ⊥

-- why a linking isn't encoded
abbrev pub IsEncodeCause : Linking → Fault → Type 0
IsEncodeCause l fault = IsLinkCause l fault ⊎ ((fault ≡ faults.TooLarge) × IsLinkable l × IsTooLarge l)
