use Rattle.std.proofs.Common.{◌≡◌, map, drop}
use Rattle.wit_syntax.specs.AstView as view
use Rattle.wit_rules.specs.Facts.{header_place}
use Rattle.wit_checked_files.proofs.files.header_place.Given as goal

abbrev pub invariant-loop-file : goal.invariant-loop-file
invariant-loop-file l = header_place (map view.file l.files) ≡ header_place (map view.file (drop l.file-index l.files))
