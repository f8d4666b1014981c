use Rattle.wit_syntax.specs.AstView as view
use Rattle.wit_rules.specs.Facts.{HeaderBreaks}
use Rattle.wit_rules.proofs.Breaking.{AreKept}
use Rattle.wit_checked_files.proofs.files.check_headers.Given as goal

abbrev pub invariant-loop-file : goal.invariant-loop-file
invariant-loop-file l = AreKept (λ f. HeaderBreaks (view.package_name l.me) (view.file f)) l.files l.file-index
