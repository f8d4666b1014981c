use Rattle.std.proofs.Common.{nat_eq}
use Rattle.std.proofs.lemmas.Result.{IfOk-weaker}
use Rattle.indexmap.specs.IndexMap.{get}
use Rattle.wit_finding.specs.Places.{ArePlacedBy, ArePlaced}
use Rattle.wit_finding.proofs.Placing.{placed_known}
use Rattle.wit_finding.proofs.places.places.Goals as goal

pub returns : goal.returns
returns g c = IfOk-weaker c.places_known.result (ArePlacedBy (get nat_eq c.in_ok-known.known) c.args.so_many) (ArePlaced c.args.pairs.now c.args.so_many) (λ places by. placed_known c.args.pairs.now (get nat_eq c.in_ok-known.known) c.args.so_many places c.in_ok-known.ensures by) c.places_known.ensures
