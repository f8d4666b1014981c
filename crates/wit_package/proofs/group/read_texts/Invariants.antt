use Rattle.std.proofs.Common.{◌≡◌, take}
use Rattle.wit_package.specs.Group as spec
use Rattle.wit_package.specs.GroupView as seen
use Rattle.wit_package.proofs.group.read_texts.Given as goal

abbrev pub invariant-loop-path : goal.invariant-loop-path
invariant-loop-path l = (l.map ≡ take l.path-index (seen.texts l.texts)) × spec.AreRead l.map (seen.trees l.files.items)
