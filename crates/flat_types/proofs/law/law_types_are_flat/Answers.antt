use Rattle.flat_types.proofs.Agreeing.{types_are_flat}
use Rattle.flat_types.proofs.law.law_types_are_flat.Goals as goal

pub returns : goal.returns
returns c = types_are_flat
