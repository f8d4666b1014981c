-- Options that change no answer of this shape: they speak of stand-ins, of the modules that are generated for these, and of looking at what was built.
use Rattle.std.specs.Prelude.{ℕ, Bool, List}
use Rattle.link_lines.specs.Line.{LinkValue}
use Rattle.component_audit.specs.declared.verdict.Verdict.{Verdict}
use Rattle.component_session.specs.declared.fault.Fault.{Fault}
use Rattle.component_session.specs.Input.{Input}
use Rattle.component_session.specs.Refusals.{IsCause, IsBuildCause, IsAuditCause}
use Rattle.component_session.specs.Headline.{IsLinkTable, IsBuilt, IsJudged}

-- the same input with these options switched on or off
abbrev pub with_switches : Input → Bool → Bool → Bool → Input
with_switches input references names validates = record input { options = record input.options { shim_return_call_ref = references; debug_names = names; validate = validates } }

-- what is answered for the one is so of the other
pub record IsAnsweredAlike (one other : Input) : Type 0 where
  pub links : (found : List LinkValue) → IsLinkTable one found → IsLinkTable other found
  pub built : (bytes : List ℕ) → IsBuilt one bytes → IsBuilt other bytes
  pub judged : (bytes : List ℕ) (verdict : Verdict) → IsJudged one bytes verdict → IsJudged other bytes verdict
  pub refused : (fault : Fault) → IsCause one fault → IsCause other fault
  pub build_refused : (fault : Fault) → IsBuildCause one fault → IsBuildCause other fault
  pub audit_refused : (bytes : List ℕ) (fault : Fault) → IsAuditCause one bytes fault → IsAuditCause other bytes fault
