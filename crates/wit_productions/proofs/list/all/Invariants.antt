use Rattle.std.proofs.Common.{◌≡◌, map, length}
use Rattle.wit_productions.specs.Production.{all, onto}
use Rattle.wit_productions.proofs.list.all.Given as goal

abbrev pub invariant-loop-alloc : goal.invariant-loop-alloc
invariant-loop-alloc g l = (all g.T.Part.production).read l.fn.tokens ≡ onto (map g.T.Part.tree l.found.items) ((all g.T.Part.production).read l.tokens)

abbrev pub decreases-loop-alloc : goal.decreases-loop-alloc
decreases-loop-alloc g l = length l.tokens
