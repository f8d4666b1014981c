-- The byte of a section stands for it.
use Rattle.std.proofs.Common.{◌≡◌, refl}
use Rattle.component_entries.specs.declared.entry.EntryKind.TheVariants as kinds
use Rattle.component_sections.specs.declared.section.SectionId.{SectionId}
use Rattle.component_sections.specs.declared.section.SectionId.TheVariants as ids
use Rattle.component_entries.specs.Entries.{kind_of}
use Rattle.component_sections.specs.Component.{section_byte, section_id_of, definition_behind, definition_in}

pub id_again : (i : SectionId) → definition_behind (section_id_of (section_byte i)) ≡ definition_in i
unfolding section_id_of kind_of
id_again ids.Custom = refl
id_again ids.CoreModule = refl
id_again ids.CoreInstance = refl
id_again ids.CoreType = refl
id_again ids.Component = refl
id_again ids.Instance = refl
id_again ids.Canonical = refl
id_again (ids.Entry kinds.Alias) = refl
id_again (ids.Entry kinds.Type_) = refl
id_again (ids.Entry kinds.Import) = refl
id_again (ids.Entry kinds.Export) = refl
