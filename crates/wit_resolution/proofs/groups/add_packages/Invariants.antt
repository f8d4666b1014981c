use Rattle.wit_resolution.proofs.Taking.{Adding}
use Rattle.wit_resolution.proofs.groups.add_packages.Given as goal

abbrev pub invariant-loop-package : goal.invariant-loop-package
invariant-loop-package l = Adding l.offset l.fn.packages.items l.fn.own.items l.packages.items l.package-iterator.rest.items
