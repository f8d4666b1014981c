use Rattle.encodable_worlds.proofs.Encodable.{encodable}
use Rattle.encodable_worlds.proofs.law.law_worlds_are_encodable.Goals as goal

pub returns : goal.returns
returns c = λ t world l names whole named of called so_many.
    encodable t world l names whole named of called so_many c.law_earlier_types_are_apart.ensures c.law_types_use_earlier.ensures c.law_functions_are_there.ensures c.law_worlds_have_texts_apart.ensures c.law_asked_are_imported.ensures c.law_own_types_are_listed.ensures
    c.law_worlds_are_writable.ensures c.law_own_are_imported.ensures c.law_remembered_may_be_taken.ensures
