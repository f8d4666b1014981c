use Rattle.component_value_types.specs.Types.{next, form_of}
use Rattle.component_value_types.proofs.types.DefinedType.put_behind.Goals as goal

pub returns-in-Result-clause-typed : goal.returns-in-Result-clause-typed
unfolding next form_of
returns-in-Result-clause-typed c = rw c.in-Result.is c.put_both.ensures.typed

pub returns-in-Result-clause-large : goal.returns-in-Result-clause-large
unfolding next form_of
returns-in-Result-clause-large c = rw c.in-Result.is c.put_both.ensures.large
