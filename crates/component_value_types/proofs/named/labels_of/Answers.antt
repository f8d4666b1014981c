use Rattle.std.proofs.Common.{refl}
use Rattle.component_value_types.proofs.named.labels_of.Goals as goal

pub returns-clause-gives : goal.returns-clause-gives
returns-clause-gives c = c.distinct_vec_of.ensures.gives (λ l. l) (λ x. refl)
