use Rattle.wit_resolved_scopes.specs.Scope.{functions_among}
use Rattle.wit_resolved_scopes.specs.Texts.{labelled_texts, own_members, side_members}
use Rattle.wit_worlds.proofs.Keys.{entries_apart}
use Rattle.wit_worlds.proofs.law.law_entries_have_keys_of_their_own.Goals as goal

pub returns : goal.returns
returns c = λ ps w table fs ids side es one named each apart i j e f at_i at_j same.
    entries_apart ps one w.name.text (functions_among (own_members w.members)) fs (labelled_texts w) ids table named (side_members side w.members) es each apart i j e f at_i at_j same
