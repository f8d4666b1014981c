use Rattle.wit_placed.proofs.Listing.{types_listed}
use Rattle.wit_placed.proofs.listed.law_moved_types_are_listed.Goals as goal

pub returns : goal.returns
returns c = types_listed
