use Rattle.std.proofs.Common.{◌<◌, length, rules, arith}
use Rattle.wit_syntax.specs.declared.ast.File.{File}
use Rattle.wit_syntax.specs.AstView as view
use Rattle.wit_rules.specs.Breaks.{Breaks}
use Rattle.wit_rules.specs.Facts.{HeaderBreaks}
use Rattle.wit_rules.proofs.Breaking.{all_kept, kept_more, viewed_kept}
use Rattle.wit_rules.proofs.Places.{read_at}
use Rattle.wit_checked_files.proofs.files.check_headers.Goals as goal

pub loop-file-preserved : goal.loop-file-preserved
loop-file-preserved c =
    let within : c.loop-file.file-index < length c.args.files.now = search rules in
    let breaks_of : File → Breaks = λ f. HeaderBreaks (view.package_name c.args.me.now) (view.file f) in
    kept_more breaks_of c.args.files.now c.loop-file.file-index c.file-item.result (read_at c.args.files.now c.loop-file.file-index c.file-item.result within c.file-item.is) c.loop-file.invariant c.in_ok-check_header.ensures.ok

pub returns-clause-ok : goal.returns-clause-ok
returns-clause-ok c =
    let breaks_of : File → Breaks = λ f. HeaderBreaks (view.package_name c.args.me.now) (view.file f) in
    viewed_kept (HeaderBreaks (view.package_name c.args.me.now)) view.file c.args.files.now (all_kept breaks_of c.args.files.now (λ k x less at. c.loop-file.invariant k x (omega (arith, c.loop-file-test.false, less)) at))
