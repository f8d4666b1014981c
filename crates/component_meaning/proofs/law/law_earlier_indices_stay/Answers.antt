use Rattle.component_meaning.proofs.Staying.{stays}
use Rattle.component_meaning.proofs.law.law_earlier_indices_stay.Goals as goal

pub returns : goal.returns
returns c = stays
