use Rattle.std.proofs.Common.{Result, subst}
use Rattle.wit_rules.specs.declared.files.Declared.{Declared}
use Rattle.wit_rules.specs.declared.fault.PackageFault.{PackageFault}
use Rattle.wit_package.specs.Steps.{IsDeclaredIf}
use Rattle.wit_package.proofs.Stepping.{refused_by_files}
use Rattle.wit_package.proofs.resolve.resolved_if.Goals as goal

pub returns-in-Err-clause-cause : goal.returns-in-Err-clause-cause
returns-in-Err-clause-cause c = λ files is. refused_by_files files c.in-Err.fault (subst (λ (r : Result Declared PackageFault). IsDeclaredIf files r) c.in-Err.is is)
