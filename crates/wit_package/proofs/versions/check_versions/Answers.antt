use Rattle.std.proofs.Common.{◌∷◌}
use Rattle.wit_syntax.specs.AstView as view
use Rattle.wit_scopes.proofs.Outcomes.{if_err, on_ok}
use Rattle.wit_placeholders.specs.Passed.wit_foreign-View as asked
use Rattle.wit_rules.specs.Breaks.{IsFaultOf}
use Rattle.wit_package.specs.Faults.{VersionsBreak, packages_in}
use Rattle.wit_package.proofs.Naming.{first_breaks, others_break, names_kept}
use Rattle.wit_package.proofs.versions.check_versions.Goals as goal

pub returns-in-Ok-clause-ok : goal.returns-in-Ok-clause-ok
returns-in-Ok-clause-ok c = on_ok c.check_needs.result (names_kept (view.package_name c.args.me.now) (packages_in (asked.needs c.args.needs.now)) c.in-Ok.ensures.ok) c.check_needs.ensures.ok

pub returns-in-Ok-clause-cause : goal.returns-in-Ok-clause-cause
returns-in-Ok-clause-cause c =
    let p = view.package_name c.args.me.now in
    let ps = packages_in (asked.needs c.args.needs.now) in
    if_err c.check_needs.result (IsFaultOf (VersionsBreak ps)) (IsFaultOf (VersionsBreak (p ∷ ps))) (others_break p ps) c.check_needs.ensures.cause

pub returns-in-Err-clause-cause : goal.returns-in-Err-clause-cause
returns-in-Err-clause-cause c = first_breaks (view.package_name c.args.me.now) (packages_in (asked.needs c.args.needs.now)) c.in-Err.fault c.in-Err.ensures.cause
