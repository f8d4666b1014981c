use Rattle.std.proofs.Common.{◌≡◌, ◌++◌, map, take}
use Rattle.wit_rules.specs.View as seen
use Rattle.wit_checked_files.proofs.labels.add_names.Given as goal

abbrev pub invariant-loop-item : goal.invariant-loop-item
invariant-loop-item g l = map seen.label l.found.items ≡ map seen.label l.initial.found.items ++ map g.T.Named.name (take l.item-index l.items)
