use Rattle.wit_well_formed.proofs.NamesWithin.{nameless_are_forms}
use Rattle.wit_well_formed.proofs.within.law_nameless_types_are_forms.Goals as goal

pub returns : goal.returns
returns c = nameless_are_forms
