use Rattle.wit_resolved_scopes.proofs.Placing.{resolved_scopes_are_in}
use Rattle.wit_resolved_scopes.proofs.law.law_resolved_scopes_are_in_the_arena.Goals as goal

pub returns : goal.returns
returns c = resolved_scopes_are_in
