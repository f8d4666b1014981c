-- Why a linking is refused, said of its input.
use Rattle.std.proofs.Common.{List, ℕ, refl, inl, inr, ap}
use Rattle.wit_component.specs.declared.fault.Fault.{Fault as LinkFault}
use Rattle.wit_component.specs.declared.fault.Fault.TheVariants as linking
use Rattle.core_links.specs.declared.fault.LinkFault.{LinkFault as CoreFault}
use Rattle.core_links.specs.declared.fault.LinkFault.TheVariants as core
use Rattle.linked_components.specs.Passed.link_table-declared-fault-TableFault.{TableFault}
use Rattle.linked_components.specs.Passed.link_table-declared-fault-TableFault-TheVariants as tables
use Rattle.linked_components.specs.Passed.link_table-Linking.{Linking as WideLinking}
use Rattle.linked_components.specs.Passed.link_table-Cause.{IsTableCause}
use Rattle.linked_components.specs.Build.{IsComponentCause}
use Rattle.linked_components.specs.declared.fault.ComponentFault.{ComponentFault}
use Rattle.linked_components.specs.declared.fault.ComponentFault.TheVariants as components
use Rattle.component_session.specs.declared.fault.Fault.{Fault}
use Rattle.component_session.specs.declared.fault.Fault.TheVariants as faults
use Rattle.component_session.specs.Faults.{of_linking, of_core, of_table, of_component}
use Rattle.component_session.specs.Input.{Input, IsLinkingOf, IsWideLinkingOf}
use Rattle.wit_component.specs.Linking.{Linking}
use Rattle.wit_component.specs.Cause.{IsLinkCause, IsEncodeCause}
use Rattle.component_session.specs.Refusals.{AreExportsSupplied, IsWide, OptionsBeyond, IsInputCause, IsCause, IsBuildCause, IsAuditCause, of_links, of_size, of_wide_size, of_names}
use Rattle.component_audit.specs.Judged.{IsJudgeCause}

-- ---- of an input

pub input_cause_is : (input : Input) (fault : Fault) → IsInputCause input fault → IsCause input fault
input_cause_is input faults.NotYet cause = inl cause
input_cause_is input faults.NoModule cause = cause
input_cause_is input faults.NoWorld cause = cause
input_cause_is input faults.ExportUnsupplied cause = cause
input_cause_is input faults.ExportNotInWorld cause = cause
input_cause_is input (faults.BadModule m) cause = cause
input_cause_is input faults.UnknownAdapter cause = absurd cause
input_cause_is input faults.DuplicateModule cause = absurd cause
input_cause_is input (faults.Linking f) cause = absurd cause
input_cause_is input faults.NoMemory cause = absurd cause
input_cause_is input faults.NoRealloc cause = absurd cause
input_cause_is input (faults.Types f) cause = absurd cause
input_cause_is input faults.OutOfMemory cause = tt

pub input_build_cause_is : (input : Input) (fault : Fault) → IsInputCause input fault → IsBuildCause input fault
input_build_cause_is input fault cause = of_links (input_cause_is input fault cause)

pub input_audit_cause_is : (input : Input) (bytes : List ℕ) (fault : Fault) → IsInputCause input fault → IsAuditCause input bytes fault
input_audit_cause_is input bytes fault cause = IsAuditCause.of_input cause

-- ---- of plain functions

module _ (input : Input) (l : Linking) (links : IsLinkingOf input l) (exports : AreExportsSupplied input) (plain : IsWide input → ⊥) where
  pub link_cause_is : (fault : LinkFault) → IsLinkCause l fault → IsCause input (of_linking fault)
  link_cause_is linking.NotYet cause = inr (inl (l, links, plain, cause))
  link_cause_is linking.DuplicateImport cause = inl (l, links, plain, cause)
  link_cause_is linking.UnknownImport cause = inl (l, links, plain, cause)
  link_cause_is linking.Ambiguous cause = inl (l, links, plain, cause)
  link_cause_is linking.LegacyName cause = inl (l, links, plain, cause)
  link_cause_is linking.WrongCoreType cause = inl (l, links, plain, cause)
  link_cause_is linking.MissingCoreExport cause = inl (l, links, plain, cause)
  link_cause_is linking.TooLarge cause = absurd cause
  link_cause_is linking.OutOfMemory cause = tt

  pub encode_cause_is : (fault : LinkFault) → IsEncodeCause l fault → IsBuildCause input (of_linking fault)
  encode_cause_is fault (inl cause) = of_links (link_cause_is fault cause)
  encode_cause_is fault (inr (is, linkable, large)) = of_size (ap of_linking is) l (record { links_input = links; exports = exports; plain = plain; linkable = linkable }) large

  pub audit_cause_is : (bytes : List ℕ) (fault : LinkFault) → IsJudgeCause l bytes fault → IsAuditCause input bytes (of_linking fault)
  audit_cause_is bytes linking.NotYet (inl cause) = IsAuditCause.of_links plain (link_cause_is linking.NotYet cause)
  audit_cause_is bytes linking.NotYet (inr (linkable, beyond)) = IsAuditCause.of_bytes refl l (record { links_input = links; exports = exports; plain = plain; linkable = linkable }) beyond
  audit_cause_is bytes linking.DuplicateImport cause = IsAuditCause.of_links plain (link_cause_is linking.DuplicateImport cause)
  audit_cause_is bytes linking.UnknownImport cause = IsAuditCause.of_links plain (link_cause_is linking.UnknownImport cause)
  audit_cause_is bytes linking.Ambiguous cause = IsAuditCause.of_links plain (link_cause_is linking.Ambiguous cause)
  audit_cause_is bytes linking.LegacyName cause = IsAuditCause.of_links plain (link_cause_is linking.LegacyName cause)
  audit_cause_is bytes linking.WrongCoreType cause = IsAuditCause.of_links plain (link_cause_is linking.WrongCoreType cause)
  audit_cause_is bytes linking.MissingCoreExport cause = IsAuditCause.of_links plain (link_cause_is linking.MissingCoreExport cause)
  audit_cause_is bytes linking.TooLarge cause = absurd cause
  audit_cause_is bytes linking.OutOfMemory cause = IsAuditCause.of_links plain tt

-- ---- of all that a world has

pub options_cause_is : (input : Input) (l : WideLinking) → IsWideLinkingOf input l → IsWide input → OptionsBeyond input → IsCause input faults.NotYet
options_cause_is input l links wide cause = inr (inr (inl (l, links, wide, cause)))

module _ (input : Input) (l : WideLinking) (links : IsWideLinkingOf input l) (exports : AreExportsSupplied input) (wide : IsWide input) (options : OptionsBeyond input → ⊥) where
  core_cause_is : (fault : CoreFault) → IsTableCause l (tables.Link fault) → IsCause input (of_core fault)
  core_cause_is core.NotYet cause = absurd cause
  core_cause_is core.DuplicateImport cause = inr (l, links, wide, cause)
  core_cause_is core.UnknownImport cause = inr (l, links, wide, cause)
  core_cause_is core.Ambiguous cause = inr (l, links, wide, cause)
  core_cause_is core.LegacyName cause = inr (l, links, wide, cause)
  core_cause_is core.WrongCoreType cause = inr (l, links, wide, cause)
  core_cause_is core.MissingCoreExport cause = inr (l, links, wide, cause)
  core_cause_is core.OutOfMemory cause = tt

  pub table_cause_is : (fault : TableFault) → IsTableCause l fault → IsCause input (of_table fault)
  table_cause_is tables.NotYet cause = inr (inr (inr (l, links, wide, cause)))
  table_cause_is (tables.Link fault) cause = core_cause_is fault cause
  table_cause_is tables.NoMemory cause = (l, links, wide, cause)
  table_cause_is tables.NoRealloc cause = (l, links, wide, cause)
  table_cause_is (tables.Types fault) cause = (l, links, wide, cause)
  table_cause_is tables.OutOfMemory cause = tt

  pub component_cause_is : (fault : ComponentFault) → IsComponentCause l fault → IsBuildCause input (of_component fault)
  component_cause_is (components.Table fault) (inl cause) = of_links (table_cause_is fault cause)
  component_cause_is (components.Table fault) (inr (is, (t, at), two)) = of_names (ap of_table is) l (record { links_input = links; exports = exports; wide = wide; options = options; table = t; is = at }) two
  component_cause_is components.TooLarge (t, at) = of_wide_size refl l (record { links_input = links; exports = exports; wide = wide; options = options; table = t; is = at })
