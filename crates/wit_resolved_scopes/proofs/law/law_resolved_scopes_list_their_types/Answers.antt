use Rattle.wit_resolved_scopes.proofs.Listing.{resolved_listed}
use Rattle.wit_resolved_scopes.proofs.law.law_resolved_scopes_list_their_types.Goals as goal

pub returns : goal.returns
returns c = resolved_listed
