use Rattle.std.proofs.Common.{◌≡◌, ◌++◌, map, take}
use Rattle.wit_syntax.specs.AstView as view
use Rattle.wit_syntax.specs.Paths.{paths, package_paths}
use Rattle.wit_syntax.proofs.paths.add_of_package.Given as goal

abbrev pub invariant-loop-gated : goal.invariant-loop-gated
invariant-loop-gated l = paths l.found.items ≡ paths l.initial.found.items ++ package_paths (map (view.gated view.ast_item) (take l.gated-index l.items))
