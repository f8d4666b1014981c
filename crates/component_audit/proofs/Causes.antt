-- Bytes that aren't judged.
use Rattle.std.proofs.Common.{◌≡◌, ◌≢◌, ◌⊎◌, ◌≤◌, List, ℕ, length, None, Any, sym, subst, inl, inr}
use Rattle.binary_grammar.specs.declared.fault.Fault.{Fault as Broken}
use Rattle.binary_grammar.proofs.Lawful.{lawful}
use Rattle.component_entries.specs.Entries.{nothing}
use Rattle.component_sections.specs.Component as whole
use Rattle.component_sections.specs.Component.{component, BreaksComponent}
use Rattle.component_sections.proofs.Reading.{one_break}
use Rattle.plain_worlds.specs.World.{each_of}
use Rattle.known_definitions.specs.Known.{known_of}
use Rattle.wit_component.specs.declared.fault.Fault.{Fault}
use Rattle.wit_component.specs.declared.fault.Fault.TheVariants as faults
use Rattle.known_definitions.specs.Definition.{DefinitionValue}
use Rattle.known_definitions.specs.Component.{IsComponent}
use Rattle.known_definitions.proofs.Laws.{one_list, no_break, not_known}
use Rattle.wit_component.specs.Linking.{Linking}
use Rattle.wit_component.specs.Cause.{IsLinkable}
use Rattle.wit_component.specs.Meaning.{Spaces, meaning}
use Rattle.wit_component.specs.declared.finding.FindingKind.TheVariants as findings
use Rattle.component_audit.specs.declared.verdict.Verdict.{Verdict}
use Rattle.component_audit.specs.declared.verdict.Verdict.TheVariants.{Yes, Finding}
use Rattle.component_audit.specs.Judged.{IsBeyond, IsJudgeCause, Says, SaysOf}

-- memory ran out, or a core module isn't the one that was handed in
abbrev pub IsNotJudged : Linking → Spaces → Fault → Type 0
IsNotJudged l s fault = (fault ≡ faults.OutOfMemory) ⊎ ((fault ≡ faults.NotYet) × Any (λ m. m ≢ l.main.bytes) s.modules)

pub judge_cause_is : (l : Linking) (bytes : List ℕ) (ds : List DefinitionValue) → IsLinkable l → IsComponent bytes ds → (fault : Fault) → IsNotJudged l (meaning l.main ds) fault → IsJudgeCause l bytes fault
judge_cause_is l bytes ds linkable is fault (inl memory) = subst (IsJudgeCause l bytes) (sym memory) tt
judge_cause_is l bytes ds linkable is fault (inr (later, other)) = subst (IsJudgeCause l bytes) (sym later) (inr (linkable, inr (ds, is, other)))

-- a rule is broken within the bytes
pub break_within : (bytes : List ℕ) (e : Broken) → BreaksComponent bytes e → e.left ≤ length bytes
break_within bytes e h = (lawful component nothing).within bytes e ((lawful component nothing).broken bytes e h)

pub is_beyond : (l : Linking) (bytes : List ℕ) (xs : List whole.DefinitionValue) → IsLinkable l → whole.IsComponent bytes xs → each_of known_of xs ≡ None → IsJudgeCause l bytes faults.NotYet
is_beyond l bytes xs linkable is none = inr (linkable, inl (xs, is, none))

-- bytes that break a rule aren't beyond what is judged: they are no component
pub broken_is_here : (l : Linking) (bytes : List ℕ) (e : Broken) → BreaksComponent bytes e → IsBeyond l bytes → ⊥
broken_is_here l bytes e broken (inl (xs, is, none)) = (one_break bytes e broken).0 xs is
broken_is_here l bytes e broken (inr (ds, is, other)) = no_break bytes ds e broken is

-- nor is a component of known definitions whose core modules were all handed in: bytes have one list of definitions
pub known_is_here : (l : Linking) (bytes : List ℕ) (ds : List DefinitionValue) → IsComponent bytes ds → (Any (λ m. m ≢ l.main.bytes) (meaning l.main ds).modules → ⊥) → IsBeyond l bytes → ⊥
known_is_here l bytes ds is handed (inl unknown) = not_known bytes ds unknown is
known_is_here l bytes ds is handed (inr (es, has, other)) = handed (subst (λ fs. Any (λ m. m ≢ l.main.bytes) (meaning l.main fs).modules) (one_list bytes es ds has is) other)

-- what is said of what the definitions stand for is said of their bytes
pub says_of : (l : Linking) (bytes : List ℕ) (ds : List DefinitionValue) (n : ℕ) → IsComponent bytes ds → n ≡ length bytes → (v : Verdict) → SaysOf l (meaning l.main ds) n v → Says l bytes v
says_of l bytes ds n is same Yes h = (ds, is, h)
says_of l bytes ds n is same (Finding findings.Format offset) h = absurd (h.1 tt)
says_of l bytes ds n is same (Finding findings.Import offset) h = (subst (λ k. offset ≤ k) same h.0, (ds, is, h.1))
says_of l bytes ds n is same (Finding findings.Export offset) h = (subst (λ k. offset ≤ k) same h.0, (ds, is, h.1))
says_of l bytes ds n is same (Finding findings.Module offset) h = (subst (λ k. offset ≤ k) same h.0, (ds, is, h.1))
says_of l bytes ds n is same (Finding findings.Link offset) h = (subst (λ k. offset ≤ k) same h.0, (ds, is, h.1))
says_of l bytes ds n is same (Finding findings.Fill offset) h = absurd (h.1 tt)
says_of l bytes ds n is same (Finding findings.SlotReach offset) h = absurd (h.1 tt)
says_of l bytes ds n is same (Finding findings.Name offset) h = absurd (h.1 tt)
