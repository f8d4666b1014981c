use Rattle.std.proofs.Common.{map}
use Rattle.wit_syntax.specs.AstView as view
use Rattle.wit_syntax.specs.declared.ast.File.{File}
use Rattle.wit_rules.specs.Breaks.{IsFaultOf, AnyBreaks}
use Rattle.wit_rules.specs.Facts.{FileBreaks, PackageBreaks}
use Rattle.wit_rules.proofs.Breaking.{viewed_kept}
use Rattle.wit_checked_files.proofs.Refused.{file_refused}
use Rattle.wit_scopes.proofs.Outcomes.{on_ok, if_err}
use Rattle.wit_checked_files.proofs.files.check_files.Goals as goal

pub returns-clause-ok : goal.returns-clause-ok
returns-clause-ok c =
    on_ok c.check_all.result (λ kept. record { headers = c.in_ok-check_headers.ensures.ok; names = viewed_kept FileBreaks view.file c.args.files.now kept }) c.check_all.ensures.ok

pub returns-clause-cause : goal.returns-clause-cause
returns-clause-cause c =
    if_err c.check_all.result (IsFaultOf (AnyBreaks (λ (f : File). FileBreaks (view.file f)) c.args.files.now)) (IsFaultOf (PackageBreaks (view.package_name c.args.me.now) (map view.file c.args.files.now)))
    (file_refused (view.package_name c.args.me.now) c.args.files.now) c.check_all.ensures.cause
