-- Of inputs that differ in options which change no answer, the same is so.
use Rattle.std.proofs.Common.{◌≡◌, ◌⊎◌, Bool, List, ℕ, inl, inr}
use Rattle.link_lines.specs.Line.{LinkValue}
use Rattle.wit_types.specs.declared.world.World.{World}
use Rattle.wit_component.specs.Linking.{Linking}
use Rattle.wit_component.specs.declared.fault.Fault.{Fault as LinkFault}
use Rattle.wit_component.specs.declared.fault.Fault.TheVariants as linking
use Rattle.wit_component.specs.Cause.{IsLinkCause, IsStillToCome}
use Rattle.core_links.specs.declared.fault.LinkFault.{LinkFault as CoreFault}
use Rattle.core_links.specs.declared.fault.LinkFault.TheVariants as core
use Rattle.linked_components.specs.Passed.link_table-declared-fault-TableFault.{TableFault}
use Rattle.linked_components.specs.Passed.link_table-declared-fault-TableFault-TheVariants as tables
use Rattle.linked_components.specs.Passed.link_table-Cause.{IsTableCause}
use Rattle.linked_components.specs.Passed.link_table-Linking.{Linking as WideLinking}
use Rattle.component_audit.specs.declared.verdict.Verdict.{Verdict}
use Rattle.component_audit.specs.declared.verdict.Verdict.TheVariants.{Yes, Finding}
use Rattle.component_session.specs.declared.fault.Fault.{Fault}
use Rattle.component_session.specs.declared.fault.Fault.TheVariants as faults
use Rattle.component_session.specs.Input.{Input, IsLinkingOf, IsWideLinkingOf}
use Rattle.component_session.specs.Refusals.{ImportsBeyond, HaveWorlds, LacksExports, HasOtherExports, AreExportsSupplied, IsWide, by_world, by_import, ChangesNames, MergesTracks, OptionsBeyond, by_given_names, by_canonical_names, by_tracks, OfLinking, OfWide, HasNoTable, IsInputCause, IsLinkingCause, IsCause, IsReady, IsWideReady, IsBuildCause, IsAuditCause}
use Rattle.component_session.specs.Headline.{IsRight, IsPlainTable, IsWideTable, IsLinkTable, IsPlainlyBuilt, IsWidelyBuilt, IsBuilt, IsVerdict, IsJudged}
use Rattle.component_session.specs.Switches.{with_switches, IsAnsweredAlike}

-- ---- what is linked, and what isn't plain

module _ (input : Input) (references names validates : Bool) where
  abbrev other : Input
  other = with_switches input references names validates

  links_alike : (l : Linking) → IsLinkingOf input l → IsLinkingOf other l
  links_alike l h = record { alone = h.alone; chosen = h.chosen; handed = h.handed; core = h.core; chooses = h.chooses; world = h.world; hands = h.hands; reads = h.reads; main = h.main; rejects = h.rejects }

  abbrev wide_links_alike : (l : WideLinking) → IsWideLinkingOf input l → IsWideLinkingOf other l
  wide_links_alike l h = record { alone = h.alone; chosen = h.chosen; handed = h.handed; chooses = h.chooses; names = h.names; hands = h.hands; reads = h.reads; encoding = h.encoding; rejects = h.rejects }

  beyond : ImportsBeyond input → ImportsBeyond other
  beyond h = record { chosen = h.chosen; world = h.world; plain = h.plain; handed = h.handed; core = h.core; chooses = h.chooses; world_is = h.world_is; plain_is = h.plain_is; hands = h.hands; reads = h.reads; beyond = h.beyond }

  wide : IsWide input → IsWide other
  wide (by_world w chosen none) = by_world w chosen none
  wide (by_import h) = by_import (beyond h)

  worlds : (chosen handed : World) → HaveWorlds input chosen handed → HaveWorlds other chosen handed
  worlds chosen handed h = record { single = h.single; chosen_id = h.chosen_id; main = h.main; chooses = h.chooses; hands = h.hands; chosen_is = h.chosen_is; handed_is = h.handed_is }

  lacks : LacksExports input → LacksExports other
  lacks (chosen, handed, are, more) = (chosen, handed, worlds chosen handed are, more)

  has_others : HasOtherExports input → HasOtherExports other
  has_others (chosen, handed, are, more) = (chosen, handed, worlds chosen handed are, more)

  options : OptionsBeyond input → OptionsBeyond other
  options (by_given_names some) = by_given_names some
  options (by_canonical_names l of h) = by_canonical_names l (wide_links_alike l of) (record { asked = h.asked; others = h.others })
  options (by_tracks l of h) = by_tracks l (wide_links_alike l of) (record { asked = h.asked; one = h.one })

-- ---- what is answered

module _ (input : Input) (references names validates : Bool) where
  abbrev new : Input
  new = with_switches input references names validates

  not_wide : (IsWide input → ⊥) → IsWide new → ⊥
  not_wide none h = none (wide new input.options.shim_return_call_ref input.options.debug_names input.options.validate h)

  supplied : AreExportsSupplied input → AreExportsSupplied new
  supplied h = record {
    single = h.single;
    all = λ l. h.all (lacks new input.options.shim_return_call_ref input.options.debug_names input.options.validate l);
    alone = λ l. h.alone (has_others new input.options.shim_return_call_ref input.options.debug_names input.options.validate l);
  }

  no_options : (OptionsBeyond input → ⊥) → OptionsBeyond new → ⊥
  no_options none h = none (options new input.options.shim_return_call_ref input.options.debug_names input.options.validate h)

  ready : (l : Linking) → IsReady input l → IsReady new l
  ready l h = record { links_input = links_alike input references names validates l h.links_input; exports = supplied h.exports; plain = not_wide h.plain; linkable = h.linkable }

  abbrev wide_ready : (l : WideLinking) → IsWideReady input l → IsWideReady new l
  wide_ready l h = record {
    links_input = wide_links_alike input references names validates l h.links_input;
    exports = supplied h.exports;
    wide = wide input references names validates h.wide;
    options = no_options h.options;
    table = h.table;
    is = h.is;
  }

  right : (bytes : List ℕ) → IsRight input bytes → IsRight new bytes
  right bytes h = record { linking = h.linking; links_input = links_alike input references names validates h.linking h.links_input; definitions = h.definitions; format = h.format; meets = h.meets }

  table : (found : List LinkValue) → IsLinkTable input found → IsLinkTable new found
  table found (IsLinkTable.plain h) = IsLinkTable.plain (record { linking = h.linking; ready = ready h.linking h.ready; links = h.links })
  table found (IsLinkTable.wide h) = IsLinkTable.wide (record { linking = h.linking; ready = wide_ready h.linking h.ready; links = h.links })

  built : (bytes : List ℕ) → IsBuilt input bytes → IsBuilt new bytes
  built bytes (inl h) = inl (record { linking = h.linking; ready = ready h.linking h.ready; fits = h.fits; right = right bytes h.right; imports = h.imports })
  built bytes (inr h) = inr (record { linking = h.linking; ready = wide_ready h.linking h.ready; right = h.right })

  verdict_is : (l : Linking) (bytes : List ℕ) (verdict : Verdict) → IsVerdict input l bytes verdict → IsVerdict new l bytes verdict
  verdict_is l bytes Yes h = right bytes h
  verdict_is l bytes (Finding kind offset) h = h

  judged : (bytes : List ℕ) (verdict : Verdict) → IsJudged input bytes verdict → IsJudged new bytes verdict
  judged bytes verdict h = record { linking = h.linking; ready = ready h.linking h.ready; here = h.here; says = verdict_is h.linking bytes verdict h.says }

  -- ---- what is refused

  of_linking : (P : Linking → Type 0) → OfLinking input P → OfLinking new P
  of_linking P (l, links, plain, cause) = (l, links_alike input references names validates l links, not_wide plain, cause)

  of_wide : (P : WideLinking → Type 0) → OfWide input P → OfWide new P
  of_wide P (l, links, is_wide, cause) = (l, wide_links_alike input references names validates l links, wide input references names validates is_wide, cause)

  no_table : (fault : LinkFault) (wide_fault : CoreFault) → HasNoTable input fault wide_fault → HasNoTable new fault wide_fault
  no_table fault wide_fault (inl h) = inl (of_linking (λ l. IsLinkCause l fault) h)
  no_table fault wide_fault (inr h) = inr (of_wide (λ l. IsTableCause l (tables.Link wide_fault)) h)

  linking_refused : (fault : LinkFault) → IsLinkingCause input fault → IsLinkingCause new fault
  linking_refused linking.NotYet cause = absurd cause
  linking_refused linking.DuplicateImport cause = no_table linking.DuplicateImport core.DuplicateImport cause
  linking_refused linking.UnknownImport cause = no_table linking.UnknownImport core.UnknownImport cause
  linking_refused linking.Ambiguous cause = no_table linking.Ambiguous core.Ambiguous cause
  linking_refused linking.LegacyName cause = no_table linking.LegacyName core.LegacyName cause
  linking_refused linking.WrongCoreType cause = no_table linking.WrongCoreType core.WrongCoreType cause
  linking_refused linking.MissingCoreExport cause = no_table linking.MissingCoreExport core.MissingCoreExport cause
  linking_refused linking.TooLarge cause = absurd cause
  linking_refused linking.OutOfMemory cause = absurd cause

  table_refused : (fault : TableFault) → OfWide input (λ l. IsTableCause l fault) → OfWide new (λ l. IsTableCause l fault)
  table_refused fault h = of_wide (λ l. IsTableCause l fault) h

  input_refused : (fault : Fault) → IsInputCause input fault → IsInputCause new fault
  input_refused faults.NotYet cause = cause
  input_refused faults.NoModule cause = cause
  input_refused faults.NoWorld cause = cause
  input_refused faults.ExportUnsupplied cause = lacks input references names validates cause
  input_refused faults.ExportNotInWorld cause = has_others input references names validates cause
  input_refused (faults.BadModule m) cause = cause
  input_refused faults.UnknownAdapter cause = absurd cause
  input_refused faults.DuplicateModule cause = absurd cause
  input_refused (faults.Linking fault) cause = absurd cause
  input_refused faults.NoMemory cause = absurd cause
  input_refused faults.NoRealloc cause = absurd cause
  input_refused (faults.Types fault) cause = absurd cause
  input_refused faults.OutOfMemory cause = cause

  refused : (fault : Fault) → IsCause input fault → IsCause new fault
  refused faults.NotYet (inl others) = inl others
  refused faults.NotYet (inr (inl cause)) = inr (inl (of_linking IsStillToCome cause))
  refused faults.NotYet (inr (inr (inl (l, links, is_wide, asks)))) = inr (inr (inl (l, wide_links_alike input references names validates l links, wide input references names validates is_wide, options input references names validates asks)))
  refused faults.NotYet (inr (inr (inr cause))) = inr (inr (inr (table_refused tables.NotYet cause)))
  refused faults.NoModule cause = cause
  refused faults.NoWorld cause = cause
  refused faults.ExportUnsupplied cause = lacks input references names validates cause
  refused faults.ExportNotInWorld cause = has_others input references names validates cause
  refused (faults.BadModule m) cause = cause
  refused faults.UnknownAdapter cause = absurd cause
  refused faults.DuplicateModule cause = absurd cause
  refused (faults.Linking fault) cause = linking_refused fault cause
  refused faults.NoMemory cause = table_refused tables.NoMemory cause
  refused faults.NoRealloc cause = table_refused tables.NoRealloc cause
  refused (faults.Types fault) cause = table_refused (tables.Types fault) cause
  refused faults.OutOfMemory cause = cause

  build_refused : (fault : Fault) → IsBuildCause input fault → IsBuildCause new fault
  build_refused fault (IsBuildCause.of_links cause) = IsBuildCause.of_links (refused fault cause)
  build_refused fault (IsBuildCause.of_size is l h large) = IsBuildCause.of_size is l (ready l h) large
  build_refused fault (IsBuildCause.of_wide_size is l h) = IsBuildCause.of_wide_size is l (wide_ready l h)
  build_refused fault (IsBuildCause.of_names is l h two) = IsBuildCause.of_names is l (wide_ready l h) two

  audit_refused : (bytes : List ℕ) (fault : Fault) → IsAuditCause input bytes fault → IsAuditCause new bytes fault
  audit_refused bytes fault (IsAuditCause.of_input cause) = IsAuditCause.of_input (input_refused fault cause)
  audit_refused bytes fault (IsAuditCause.of_world is h) = IsAuditCause.of_world is (wide input references names validates h)
  audit_refused bytes fault (IsAuditCause.of_links plain cause) = IsAuditCause.of_links (not_wide plain) (refused fault cause)
  audit_refused bytes fault (IsAuditCause.of_bytes is l h beyond) = IsAuditCause.of_bytes is l (ready l h) beyond

  pub answered_alike : IsAnsweredAlike input (with_switches input references names validates)
  answered_alike = record { links = table; built = built; judged = judged; refused = refused; build_refused = build_refused; audit_refused = audit_refused }
