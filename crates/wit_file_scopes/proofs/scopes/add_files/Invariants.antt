use Rattle.std.proofs.Common.{◌≡◌, map, take, length}
use Rattle.wit_syntax.specs.AstView as view
use Rattle.wit_scopes.specs.View as seen
use Rattle.wit_file_scopes.proofs.scopes.add_files.Given as goal

abbrev pub invariant-loop-file : goal.invariant-loop-file
invariant-loop-file l = (l.number ≡ length l.yielded) × seen.ArePackageScopes (view.package_name l.me) (map view.file (take (length l.yielded) l.fn.files.items)) l.found
