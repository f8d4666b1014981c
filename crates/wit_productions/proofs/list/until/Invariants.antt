use Rattle.std.proofs.Common.{◌≡◌, map, length}
use Rattle.wit_productions.specs.Production.{until, onto}
use Rattle.wit_productions.proofs.list.until.Given as goal

abbrev pub invariant-loop-alloc : goal.invariant-loop-alloc
invariant-loop-alloc g l = (until g.T.Part.production l.fn.shut).read l.fn.tokens ≡ onto (map g.T.Part.tree l.found.items) ((until g.T.Part.production l.fn.shut).read l.tokens)

abbrev pub decreases-loop-alloc : goal.decreases-loop-alloc
decreases-loop-alloc g l = length l.tokens
