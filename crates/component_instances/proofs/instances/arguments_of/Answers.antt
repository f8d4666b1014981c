use Rattle.std.proofs.Common.{refl}
use Rattle.component_instances.proofs.instances.arguments_of.Goals as goal

pub returns-clause-gives : goal.returns-clause-gives
returns-clause-gives c = c.distinct_vec_of.ensures.gives (λ e. e.name) (λ x. refl)
