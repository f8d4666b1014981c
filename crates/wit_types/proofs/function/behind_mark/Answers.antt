use Rattle.std.proofs.Common.{inr, refl}
use Rattle.wit_types.proofs.function.behind_mark.Goals as goal

pub returns-in-None : goal.returns-in-None
returns-in-None c = inr (c.in-None.ensures.cases, refl)
