use Rattle.wit_resolved_scopes.proofs.Meant.{resolved_scopes_stand}
use Rattle.wit_resolved_scopes.proofs.law.law_resolved_scopes_stand_for_their_meaning.Goals as goal

pub returns : goal.returns
returns c = resolved_scopes_stand
