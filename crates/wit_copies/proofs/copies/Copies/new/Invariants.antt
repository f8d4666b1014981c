use Rattle.std.proofs.Common.{◌≡◌, take}
use Rattle.wit_copies.proofs.copies.Copies.new.Given as goal

abbrev pub invariant-loop-id : goal.invariant-loop-id
invariant-loop-id l = l.places.keys ≡ take l.id-index l.ids
