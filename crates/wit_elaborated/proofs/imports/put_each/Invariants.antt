use Rattle.std.proofs.Common.{◌≡◌}
use Rattle.indexmap.specs.IndexMap.{insert_all}
use Rattle.wit_elaborated.proofs.imports.put_each.Given as goal

abbrev pub invariant-loop-key : goal.invariant-loop-key
invariant-loop-key g l = insert_all g.K.PartialEq.eq l.found.entries l.key-iterator.rest.items ≡ insert_all g.K.PartialEq.eq l.fn.found.entries l.fn.entries.items
