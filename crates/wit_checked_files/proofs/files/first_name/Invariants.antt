use Rattle.std.proofs.Common.{◌≡◌, map, drop}
use Rattle.wit_syntax.specs.AstView as view
use Rattle.wit_rules.specs.Facts.{package_name}
use Rattle.wit_checked_files.proofs.files.first_name.Given as goal

abbrev pub invariant-loop-file : goal.invariant-loop-file
invariant-loop-file l = package_name (map view.file l.files) ≡ package_name (map view.file (drop l.file-index l.files))
