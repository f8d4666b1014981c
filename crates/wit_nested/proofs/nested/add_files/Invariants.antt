use Rattle.std.proofs.Common.{map, take, length}
use Rattle.wit_scopes.specs.Passed.wit_syntax-AstView as view
use Rattle.wit_nested.specs.View as seen
use Rattle.wit_nested.proofs.nested.add_files.Given as goal

abbrev pub invariant-loop-file : goal.invariant-loop-file
invariant-loop-file l = seen.AreParted (map view.file (take (length l.yielded) l.fn.files.items)) l.parted
