-- Where nothing stands in the way of an input, no cause of a refusal holds.
use Rattle.std.proofs.Common.{◌≡◌, ◌⊎◌, true, false, Some, List, [], ℕ, refl, sym, ap, subst, ◌∙◌, arith, inl, inr}
use Rattle.std.specs.Prelude.{slice_get}
use Rattle.std.proofs.lemmas.Option.{same_Some}
use Rattle.wasm_types.specs.Entries.{ImportValue}
use Rattle.wasm_format.specs.declared.fault.ModuleFault.{ModuleFault}
use Rattle.wasm_format.specs.declared.fault.ModuleFault.TheVariants as modules
use Rattle.wasm_format.specs.Module.{ModuleValue}
use Rattle.wasm_format.specs.Grammar.{IsModule, IsModuleFault}
use Rattle.wasm_format.proofs.Modules.{one_break, one_module}
use Rattle.wit_component.specs.declared.fault.Fault.{Fault as LinkFault}
use Rattle.wit_component.specs.declared.fault.Fault.TheVariants as linking
use Rattle.component_session.specs.declared.fault.ModuleCause.{ModuleCause}
use Rattle.component_session.specs.declared.fault.Fault.{Fault}
use Rattle.component_session.specs.declared.fault.Fault.TheVariants as faults
use Rattle.wit_component.specs.Linking.{Linking, main_of}
use Rattle.wit_component.specs.Cause.{IsLinkCause, IsStillToCome, IsTooLarge}
use Rattle.wit_component.proofs.NoCause.{no_link_cause}
use Rattle.core_links.specs.Names.{Names}
use Rattle.core_links.specs.declared.fault.LinkFault.{LinkFault as CoreFault}
use Rattle.core_links.specs.declared.fault.LinkFault.TheVariants as core
use Rattle.linked_components.specs.Passed.link_table-Linking.{Linking as WideLinking}
use Rattle.linked_components.specs.Passed.link_table-Cause.{IsTableCause}
use Rattle.linked_components.specs.Passed.link_table-declared-fault-TableFault.{TableFault}
use Rattle.linked_components.specs.Passed.link_table-declared-fault-TableFault-TheVariants as tables
use Rattle.linked_components.specs.Build.{LinkedHaveNoCause, HasTwoNames}
use Rattle.linked_components.specs.Passed.right_components-Outside.{AreInterfaceNames}
use Rattle.linked_components.specs.Passed.type_sinks-Root.{InterfaceNames}
use Rattle.linked_components.specs.Passed.wit_graph-Graph.{IsGraph}
use Rattle.handed_modules.specs.Modules.{ModuleInput}
use Rattle.component_session.specs.Input.{Input, main_in, world_at, IsLinkingOf, IsWideLinkingOf}
use Rattle.component_session.specs.Faults.{of_module}
use Rattle.component_session.specs.Refusals.{ChangesNames, MergesTracks, OptionsBeyond, by_canonical_names, by_given_names, by_tracks, OfWide, HasNoTable, IsLinkingCause, IsCause, IsBuildCause, IsReady, IsWideReady}
use Rattle.component_session.specs.Headline.{IsPlainlyBuilt, IsWidelyBuilt}

-- ---- an input is linked in one way

pub one_linking : (input : Input) (l m : Linking) → IsLinkingOf input l → IsLinkingOf input m → l ≡ m
one_linking input l m h k =
    let chosen = same_Some h.chosen k.chosen (sym h.chooses ∙ k.chooses) in
    let world = same_Some l.world m.world (sym h.world ∙ ap (world_at input) chosen ∙ k.world) in
    let handed = same_Some h.handed k.handed (sym h.hands ∙ k.hands) in
    let core = one_module k.handed.bytes h.core k.core (subst (λ (x : ModuleInput). IsModule x.bytes h.core) handed h.reads) k.reads in
    let main : l.main ≡ m.main = h.main ∙ ap (λ (x : ModuleInput). main_of x.bytes h.core) handed ∙ ap (main_of k.handed.bytes) core ∙ sym k.main in
    let rejects : l.rejects_legacy ≡ m.rejects_legacy = h.rejects ∙ sym k.rejects in
    λ i. record { world = world i; main = main i; rejects_legacy = rejects i }

-- ---- of an input

no_module_cause : (bytes : List ℕ) (core : ModuleValue) → IsModule bytes core → (m : ModuleFault) → IsModuleFault bytes m → m ≡ modules.OutOfMemory
no_module_cause bytes core h modules.OutOfMemory cause = refl
no_module_cause bytes core h modules.TooLarge cause = absurd (omega (arith, h.small))
no_module_cause bytes core h modules.Malformed (small, e, breaks, is) = absurd ((one_break bytes e breaks).0 core h)
no_module_cause bytes core h modules.Unsupported (small, e, breaks, is) = absurd ((one_break bytes e breaks).0 core h)

no_bad_module : (input : Input) (here : ModuleInput) (read_as : ModuleValue) → main_in input ≡ Some here → IsModule here.bytes read_as → (m : ModuleCause) → IsCause input (faults.BadModule m) → ⊥
no_bad_module input here read_as given reads m (handed, hands, (n, is, cause)) =
    let same = same_Some here handed (sym given ∙ hands) in
    let read = subst (λ (x : ModuleInput). IsModule x.bytes read_as) same reads in
    let memory = no_module_cause handed.bytes read_as read n cause in
    let bad : of_module modules.OutOfMemory ≡ faults.BadModule m = ap of_module (sym memory) ∙ is in
    absurd cc

-- ---- where plain functions are linked

module _ (input : Input) (l : Linking) (h : IsReady input l) where
  linked_cause : (fault : LinkFault) (wide : CoreFault) → HasNoTable input fault wide → fault ≡ linking.OutOfMemory
  linked_cause fault wide (inl (m, links, plain, cause)) = no_link_cause l h.linkable fault (subst (λ (x : Linking). IsLinkCause x fault) (one_linking input m l links h.links_input) cause)
  linked_cause fault wide (inr (m, links, is_wide, cause)) = absurd (h.plain is_wide)

  no_linking_cause : (fault : LinkFault) → IsLinkingCause input fault → ⊥
  no_linking_cause linking.NotYet cause = absurd cause
  no_linking_cause linking.DuplicateImport cause = let bad = linked_cause linking.DuplicateImport core.DuplicateImport cause in absurd cc
  no_linking_cause linking.UnknownImport cause = let bad = linked_cause linking.UnknownImport core.UnknownImport cause in absurd cc
  no_linking_cause linking.Ambiguous cause = let bad = linked_cause linking.Ambiguous core.Ambiguous cause in absurd cc
  no_linking_cause linking.LegacyName cause = let bad = linked_cause linking.LegacyName core.LegacyName cause in absurd cc
  no_linking_cause linking.WrongCoreType cause = let bad = linked_cause linking.WrongCoreType core.WrongCoreType cause in absurd cc
  no_linking_cause linking.MissingCoreExport cause = let bad = linked_cause linking.MissingCoreExport core.MissingCoreExport cause in absurd cc
  no_linking_cause linking.TooLarge cause = absurd cause
  no_linking_cause linking.OutOfMemory cause = absurd cause

  no_wide_cause : {P : WideLinking → Type 0} (fault : Fault) → OfWide input P → fault ≡ faults.OutOfMemory
  no_wide_cause {P} fault (m, links, is_wide, cause) = absurd (h.plain is_wide)

  pub no_cause : (fault : Fault) → IsCause input fault → fault ≡ faults.OutOfMemory
  no_cause faults.NotYet (inl others) = absurd (h.links_input.alone others)
  no_cause faults.NotYet (inr (inl (m, links, plain, cause))) = absurd (h.linkable.plain (subst IsStillToCome (one_linking input m l links h.links_input) cause))
  no_cause faults.NotYet (inr (inr (inl cause))) = no_wide_cause faults.NotYet cause
  no_cause faults.NotYet (inr (inr (inr cause))) = no_wide_cause faults.NotYet cause
  no_cause faults.NoModule cause = let bad = sym h.links_input.hands ∙ cause in absurd cc
  no_cause faults.NoWorld cause = let bad = sym h.links_input.chooses ∙ cause in absurd cc
  no_cause faults.ExportUnsupplied cause = absurd (h.exports.all cause)
  no_cause faults.ExportNotInWorld cause = absurd (h.exports.alone cause)
  no_cause (faults.BadModule m) cause = absurd (no_bad_module input h.links_input.handed h.links_input.core h.links_input.hands h.links_input.reads m cause)
  no_cause faults.UnknownAdapter cause = absurd cause
  no_cause faults.DuplicateModule cause = absurd cause
  no_cause (faults.Linking fault) cause = absurd (no_linking_cause fault cause)
  no_cause faults.NoMemory cause = no_wide_cause faults.NoMemory cause
  no_cause faults.NoRealloc cause = no_wide_cause faults.NoRealloc cause
  no_cause (faults.Types fault) cause = no_wide_cause (faults.Types fault) cause
  no_cause faults.OutOfMemory cause = refl

-- ---- where all that a world has is linked

pub one_wide_linking : (input : Input) (l m : WideLinking) → IsWideLinkingOf input l → IsWideLinkingOf input m → l ≡ m
one_wide_linking input l m h k =
    let chosen = same_Some h.chosen k.chosen (sym h.chooses ∙ k.chooses) in
    let worlds = input.resolved.graph.tables.worlds.elaborated in
    let world = same_Some l.names.world m.names.world (sym h.names.world_is ∙ ap (slice_get worlds) chosen ∙ k.names.world_is) in
    let packages = h.names.packages_are ∙ sym k.names.packages_are in
    let interfaces = h.names.interfaces_are ∙ sym k.names.interfaces_are in
    let types = h.names.types_are ∙ sym k.names.types_are in
    let handed = same_Some h.handed k.handed (sym h.hands ∙ k.hands) in
    let main = one_module k.handed.bytes l.main m.main (subst (λ (x : ModuleInput). IsModule x.bytes l.main) handed h.reads) k.reads in
    let encoding : l.encoding ≡ m.encoding = h.encoding ∙ ap (λ (x : ModuleInput). x.encoding) handed ∙ sym k.encoding in
    let rejects = h.rejects ∙ sym k.rejects in
    λ i. record {
      names = record { known = record { packages = packages i; interfaces = interfaces i; types = types i }; world = world i; rejects_legacy = rejects i };
      main = main i;
      encoding = encoding i;
    }

-- no option of its is beyond where no names are given, and none of its own imports changes or is one with another
pub options_here : (input : Input) (l : WideLinking) → IsWideLinkingOf input l → input.options.import_name_map ≡ [] → (ChangesNames input l → ⊥) → (MergesTracks input l → ⊥) → OptionsBeyond input → ⊥
options_here input l links none same apart (by_given_names some) = some none
options_here input l links none same apart (by_canonical_names m of changes) = same (subst (ChangesNames input) (one_wide_linking input m l of links) changes)
options_here input l links none same apart (by_tracks m of merges) = apart (subst (MergesTracks input) (one_wide_linking input m l of links) merges)

module _ (input : Input) (l : WideLinking) (law : LinkedHaveNoCause) (whole : IsGraph input.resolved.graph) (h : IsWideReady input l) where
  no_table_cause : (fault : TableFault) → OfWide input (λ m. IsTableCause m fault) → fault ≡ tables.OutOfMemory
  no_table_cause fault (m, links, wide, cause) =
      law l h.table (input.resolved.graph.tables, h.links_input.chosen, whole.whole, h.links_input.names) h.is fault (subst (λ (x : WideLinking). IsTableCause x fault) (one_wide_linking input m l links h.links_input) cause)

  no_link : (fault : LinkFault) (wide : CoreFault) → HasNoTable input fault wide → tables.Link wide ≡ tables.OutOfMemory
  no_link fault wide (inl (m, links, plain, cause)) = absurd (plain h.wide)
  no_link fault wide (inr cause) = no_table_cause (tables.Link wide) cause

  no_core_cause : (fault : LinkFault) → IsLinkingCause input fault → ⊥
  no_core_cause linking.NotYet cause = absurd cause
  no_core_cause linking.DuplicateImport cause = let bad = no_link linking.DuplicateImport core.DuplicateImport cause in absurd cc
  no_core_cause linking.UnknownImport cause = let bad = no_link linking.UnknownImport core.UnknownImport cause in absurd cc
  no_core_cause linking.Ambiguous cause = let bad = no_link linking.Ambiguous core.Ambiguous cause in absurd cc
  no_core_cause linking.LegacyName cause = let bad = no_link linking.LegacyName core.LegacyName cause in absurd cc
  no_core_cause linking.WrongCoreType cause = let bad = no_link linking.WrongCoreType core.WrongCoreType cause in absurd cc
  no_core_cause linking.MissingCoreExport cause = let bad = no_link linking.MissingCoreExport core.MissingCoreExport cause in absurd cc
  no_core_cause linking.TooLarge cause = absurd cause
  no_core_cause linking.OutOfMemory cause = absurd cause

  pub wide_no_cause : (fault : Fault) → IsCause input fault → fault ≡ faults.OutOfMemory
  wide_no_cause faults.NotYet (inl others) = absurd (h.links_input.alone others)
  wide_no_cause faults.NotYet (inr (inl (m, links, plain, cause))) = absurd (plain h.wide)
  wide_no_cause faults.NotYet (inr (inr (inl (m, links, wide, cause)))) = absurd (h.options cause)
  wide_no_cause faults.NotYet (inr (inr (inr cause))) = let bad = no_table_cause tables.NotYet cause in absurd cc
  wide_no_cause faults.NoModule cause = let bad = sym h.links_input.hands ∙ cause in absurd cc
  wide_no_cause faults.NoWorld cause = let bad = sym h.links_input.chooses ∙ cause in absurd cc
  wide_no_cause faults.ExportUnsupplied cause = absurd (h.exports.all cause)
  wide_no_cause faults.ExportNotInWorld cause = absurd (h.exports.alone cause)
  wide_no_cause (faults.BadModule m) cause = absurd (no_bad_module input h.links_input.handed l.main h.links_input.hands h.links_input.reads m cause)
  wide_no_cause faults.UnknownAdapter cause = absurd cause
  wide_no_cause faults.DuplicateModule cause = absurd cause
  wide_no_cause (faults.Linking fault) cause = absurd (no_core_cause fault cause)
  wide_no_cause faults.NoMemory cause = let bad = no_table_cause tables.NoMemory cause in absurd cc
  wide_no_cause faults.NoRealloc cause = let bad = no_table_cause tables.NoRealloc cause in absurd cc
  wide_no_cause (faults.Types fault) cause = let bad = no_table_cause (tables.Types fault) cause in absurd cc
  wide_no_cause faults.OutOfMemory cause = refl

-- ---- of a component that is built

pub no_build_cause : (input : Input) (bytes : List ℕ) → IsPlainlyBuilt input bytes → (fault : Fault) → IsBuildCause input fault → fault ≡ faults.OutOfMemory
no_build_cause input bytes h fault (IsBuildCause.of_links cause) = no_cause input h.linking h.ready fault cause
no_build_cause input bytes h fault (IsBuildCause.of_size is m ready large) = absurd (h.fits (subst IsTooLarge (one_linking input m h.linking ready.links_input h.ready.links_input) large))
no_build_cause input bytes h fault (IsBuildCause.of_wide_size is m ready) = absurd (h.ready.plain ready.wide)
no_build_cause input bytes h fault (IsBuildCause.of_names is m ready two) = absurd (h.ready.plain ready.wide)

-- a list by ids has one name for each interface
no_two_names : (n : Names) (is : List ImportValue) (names : InterfaceNames) → AreInterfaceNames n is names → HasTwoNames n is → ⊥
no_two_names n is names are two =
    let one = two.under_one in
    let other = two.under_other in
    two.apart (sym (are.needed one.key two.id one.function two.one one.is_key one.needed one.text_is) ∙ are.needed other.key two.id other.function two.other other.is_key other.needed other.text_is)

pub no_wide_build_cause : (input : Input) (bytes : List ℕ) → LinkedHaveNoCause → IsGraph input.resolved.graph → IsWidelyBuilt input bytes → (fault : Fault) → IsBuildCause input fault → (fault ≡ faults.OutOfMemory) ⊎ (fault ≡ faults.Linking linking.TooLarge)
no_wide_build_cause input bytes law whole h fault (IsBuildCause.of_links cause) = inl (wide_no_cause input h.linking law whole h.ready fault cause)
no_wide_build_cause input bytes law whole h fault (IsBuildCause.of_size is m ready large) = absurd (ready.plain h.ready.wide)
no_wide_build_cause input bytes law whole h fault (IsBuildCause.of_wide_size is m ready) = inr is
no_wide_build_cause input bytes law whole h fault (IsBuildCause.of_names is m ready two) =
    absurd (no_two_names h.linking.names h.linking.main.imports h.right.right.names h.right.right.names_are (subst (λ (x : WideLinking). HasTwoNames x.names x.main.imports) (one_wide_linking input m h.linking ready.links_input h.ready.links_input) two))
