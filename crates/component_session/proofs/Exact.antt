-- Of bytes that are right for an input in whose way nothing stands, the auditor says yes.
use Rattle.std.proofs.Common.{◌≡◌, ◌≢◌, List, ℕ, refl, subst, inl, inr}
use Rattle.wit_component.specs.Passed.known_definitions-Definition.{DefinitionValue}
use Rattle.wit_component.specs.Passed.known_definitions-Component.{IsComponent}
use Rattle.wit_component.proofs.Passed.known_definitions-Laws.{one_list, no_break, not_known}
use Rattle.component_session.specs.declared.fault.Fault.{Fault}
use Rattle.component_session.specs.declared.fault.Fault.TheVariants as faults
use Rattle.wit_component.specs.declared.finding.FindingKind.{FindingKind}
use Rattle.wit_component.specs.declared.finding.FindingKind.TheVariants as findings
use Rattle.component_audit.specs.declared.verdict.Verdict.{Verdict}
use Rattle.component_audit.specs.declared.verdict.Verdict.TheVariants.{Yes, Finding}
use Rattle.component_session.specs.Input.{Input}
use Rattle.wit_component.specs.Linking.{Linking}
use Rattle.wit_component.specs.Meaning.{meaning}
use Rattle.component_session.specs.Headline.{IsRight, IsJudged}
use Rattle.component_session.specs.Refusals.{IsReady, IsAuditCause}
use Rattle.wit_component.specs.Right.{MeetsAll}
use Rattle.component_audit.specs.Judged.{IsFinding, IsBeyond}
use Rattle.wit_component.proofs.NoCause.{any_each}
use Rattle.component_session.proofs.NoCause.{one_linking, no_cause}
use Rattle.component_session.proofs.Refusals.{input_cause_is}

-- what right bytes stand for meets all conditions, however they are linked and read
meets : (input : Input) (bytes : List ℕ) → IsRight input bytes → (l : Linking) → IsReady input l → (ds : List DefinitionValue) → IsComponent bytes ds → MeetsAll l (meaning l.main ds)
meets input bytes h l ready ds is =
    let linking = one_linking input h.linking l h.links_input ready.links_input in
    let definitions = one_list bytes h.definitions ds h.format is in
    subst (λ (k : Linking). MeetsAll k (meaning k.main ds)) linking (subst (λ es. MeetsAll h.linking (meaning h.linking.main es)) definitions h.meets)

none_found : (input : Input) (bytes : List ℕ) → IsRight input bytes → (l : Linking) → IsReady input l → (kind : FindingKind) (offset : ℕ) → IsFinding l bytes kind offset → ⊥
none_found input bytes h l ready findings.Format offset d = no_break bytes h.definitions (record { rule = d.0; left = d.1 }) d.2 h.format
none_found input bytes h l ready kind offset (ds, is, denies) = denies (meets input bytes h l ready ds is kind)

pub right_is_yes : (input : Input) (bytes : List ℕ) → IsRight input bytes → (verdict : Verdict) → IsJudged input bytes verdict → verdict ≡ Yes
right_is_yes input bytes h Yes judged = refl
right_is_yes input bytes h (Finding kind offset) judged = absurd (none_found input bytes h judged.linking judged.ready kind offset judged.says.1)

-- ---- refusals

none_beyond : (input : Input) (bytes : List ℕ) → IsRight input bytes → (l : Linking) → IsReady input l → IsBeyond l bytes → ⊥
none_beyond input bytes h l ready (inl unknown) = not_known bytes h.definitions unknown h.format
none_beyond input bytes h l ready (inr (ds, is, other)) =
    let at = any_each (λ m. m ≡ l.main.bytes) (λ m. m ≢ l.main.bytes) (meaning l.main ds).modules (meets input bytes h l ready ds is findings.Module).modules other in
    at.2 at.1

pub right_is_judged : (input : Input) (bytes : List ℕ) (l : Linking) → IsReady input l → IsRight input bytes → (fault : Fault) → IsAuditCause input bytes fault → fault ≡ faults.OutOfMemory
right_is_judged input bytes l ready h fault (IsAuditCause.of_input cause) = no_cause input l ready fault (input_cause_is input fault cause)
right_is_judged input bytes l ready h fault (IsAuditCause.of_world later wide) = absurd (ready.plain wide)
right_is_judged input bytes l ready h fault (IsAuditCause.of_links plain cause) = no_cause input l ready fault cause
right_is_judged input bytes l ready h fault (IsAuditCause.of_bytes later k is beyond) = absurd (none_beyond input bytes h k is beyond)
