-- What the auditor's answers say of bytes.
use Rattle.std.specs.Prelude.{◌≡◌, ◌≢◌, ℕ, ◌≤◌, ◌+◌, ◌⊎◌, List, length, Any}
use Rattle.binary_grammar.specs.declared.fault.Rule.{Rule}
use Rattle.known_definitions.specs.Definition.{DefinitionValue}
use Rattle.component_sections.specs.Component.{BreaksComponent}
use Rattle.known_definitions.specs.Component.{IsComponent, HasUnknown}
use Rattle.wit_component.specs.declared.fault.Fault.{Fault}
use Rattle.wit_component.specs.declared.fault.Fault.TheVariants as faults
use Rattle.wit_component.specs.declared.finding.FindingKind.{FindingKind}
use Rattle.wit_component.specs.declared.finding.FindingKind.TheVariants as findings
use Rattle.component_audit.specs.declared.verdict.Verdict.{Verdict}
use Rattle.component_audit.specs.declared.verdict.Verdict.TheVariants.{Yes, Finding}
use Rattle.wit_component.specs.Linking.{Linking}
use Rattle.wit_component.specs.Cause.{IsLinkCause, IsLinkable}
use Rattle.wit_component.specs.Meaning.{Spaces, meaning}
use Rattle.wit_component.specs.Right.{Holds, MeetsAll}

-- ---- verdicts

-- the condition of this kind fails of what a component stands for
abbrev pub Denies : Linking → Spaces → FindingKind → Type 0
Denies l s kind = Holds l s kind → ⊥

-- what a verdict says of what a component of so many bytes stands for
abbrev pub SaysOf : Linking → Spaces → ℕ → Verdict → Type 0
SaysOf l s n Yes = MeetsAll l s
SaysOf l s n (Finding kind offset) = (offset ≤ n) × Denies l s kind

-- F1 names the place where the bytes break a rule of the grammar; each other kind a condition that fails
abbrev pub IsFinding : Linking → List ℕ → FindingKind → ℕ → Type 0
IsFinding l bytes findings.Format offset = (rule : Rule) × (left : ℕ) × BreaksComponent bytes (record { rule = rule; left = left }) × (offset + left ≡ length bytes)
IsFinding l bytes kind offset = (ds : List DefinitionValue) × IsComponent bytes ds × Denies l (meaning l.main ds) kind

-- what a verdict says of bytes
abbrev pub Says : Linking → List ℕ → Verdict → Type 0
Says l bytes Yes = (ds : List DefinitionValue) × IsComponent bytes ds × MeetsAll l (meaning l.main ds)
Says l bytes (Finding kind offset) = (offset ≤ length bytes) × IsFinding l bytes kind offset

-- ---- refusals

-- the bytes have a definition that index meaning doesn't know, or a core module that wasn't handed in
abbrev pub IsBeyond : Linking → List ℕ → Type 0
IsBeyond l bytes =
    HasUnknown bytes
    ⊎ ((ds : List DefinitionValue) × IsComponent bytes ds × Any (λ m. m ≢ l.main.bytes) (meaning l.main ds).modules)

-- why bytes aren't judged: what links are refused for, or what they have beyond
abbrev pub IsJudgeCause : Linking → List ℕ → Fault → Type 0
IsJudgeCause l bytes faults.NotYet = IsLinkCause l faults.NotYet ⊎ (IsLinkable l × IsBeyond l bytes)
IsJudgeCause l bytes faults.DuplicateImport = IsLinkCause l faults.DuplicateImport
IsJudgeCause l bytes faults.UnknownImport = IsLinkCause l faults.UnknownImport
IsJudgeCause l bytes faults.Ambiguous = IsLinkCause l faults.Ambiguous
IsJudgeCause l bytes faults.LegacyName = IsLinkCause l faults.LegacyName
IsJudgeCause l bytes faults.WrongCoreType = IsLinkCause l faults.WrongCoreType
IsJudgeCause l bytes faults.MissingCoreExport = IsLinkCause l faults.MissingCoreExport
IsJudgeCause l bytes faults.TooLarge = ⊥
IsJudgeCause l bytes faults.OutOfMemory = Unit {0}
