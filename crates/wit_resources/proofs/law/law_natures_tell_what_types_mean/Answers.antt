use Rattle.wit_resources.proofs.Told.{natures_tell_what_types_mean}
use Rattle.wit_resources.proofs.law.law_natures_tell_what_types_mean.Goals as goal

pub returns : goal.returns
returns c = natures_tell_what_types_mean
