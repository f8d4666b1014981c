-- The texts of verdicts, byte by byte.
use Rattle.std.specs.Prelude.{ℕ, List, ◌∷◌, ◌++◌, codes}
use Rattle.std.specs.Fmt.{decimal}
use Rattle.wit_component.specs.Findings.{finding_number, finding_name}
use Rattle.component_audit.specs.declared.verdict.Verdict.{Verdict}
use Rattle.component_audit.specs.declared.verdict.Verdict.TheVariants as verdicts

-- `yes`, or a finding as `finding F5 Link at 123`
abbrev pub verdict_text : Verdict → List ℕ
verdict_text verdicts.Yes = codes "yes"
verdict_text (verdicts.Finding kind offset) = codes "finding F" ++ (decimal (finding_number kind) ++ 32 ∷ (finding_name kind ++ (codes " at " ++ decimal offset)))
