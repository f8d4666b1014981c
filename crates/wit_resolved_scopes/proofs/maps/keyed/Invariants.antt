use Rattle.std.proofs.Common.{◌≡◌, length, take}
use Rattle.wit_resolved_scopes.proofs.maps.keyed.Given as goal

abbrev pub invariant-loop-key : goal.invariant-loop-key
invariant-loop-key g l = l.found.entries ≡ take (length l.yielded) l.fn.pairs.items
