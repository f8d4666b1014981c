use Rattle.std.proofs.Common.{◌≡◌, ◌++◌, map, take}
use Rattle.wit_syntax.specs.AstView as view
use Rattle.wit_syntax.specs.Paths.{paths, of_each, file_item_paths}
use Rattle.wit_syntax.proofs.paths.add_of_file.Given as goal

abbrev pub invariant-loop-gated : goal.invariant-loop-gated
invariant-loop-gated l = paths l.found.items ≡ paths l.initial.found.items ++ of_each file_item_paths (map (view.gated view.file_item) (take l.gated-index l.items))
