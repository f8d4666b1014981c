use Rattle.std.proofs.Common.{nat_eq}
use Rattle.indexmap.specs.IndexMap.{get}
use Rattle.wit_finding.specs.Places as spec
use Rattle.wit_finding.proofs.places.places_known.Given as goal

abbrev pub invariant-loop-index : goal.invariant-loop-index
invariant-loop-index g l = spec.ArePlacedBy (get nat_eq l.known) l.index-counter l.places
