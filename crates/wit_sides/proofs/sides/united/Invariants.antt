use Rattle.std.proofs.Common.{◌≡◌, []}
use Rattle.wit_sides.specs.Sides as spec
use Rattle.wit_sides.proofs.sides.united.Given as goal

abbrev pub invariant-loop-key : goal.invariant-loop-key
invariant-loop-key g l = spec.with_entries g.K.PartialEq.eq l.found.entries l.key-iterator.rest.items ≡ spec.with_entries g.K.PartialEq.eq [] l.fn.entries.items
