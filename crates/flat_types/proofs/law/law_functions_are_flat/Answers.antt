use Rattle.flat_types.proofs.Signing.{functions_are_flat}
use Rattle.flat_types.proofs.law.law_functions_are_flat.Goals as goal

pub returns : goal.returns
returns c = functions_are_flat
