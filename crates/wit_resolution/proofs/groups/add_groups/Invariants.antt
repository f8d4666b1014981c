use Rattle.wit_resolution.proofs.Taking.{Taking}
use Rattle.wit_resolution.proofs.groups.add_groups.Given as goal

abbrev pub invariant-loop-group : goal.invariant-loop-group
invariant-loop-group l = Taking l.fn.source_map l.fn.packages.items l.fn.groups.items l.source_map l.packages.items l.group-iterator.rest.items
