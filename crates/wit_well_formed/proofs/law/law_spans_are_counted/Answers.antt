use Rattle.wit_well_formed.proofs.Whole.{spans}
use Rattle.wit_well_formed.proofs.law.law_spans_are_counted.Goals as goal

pub returns : goal.returns
returns c = spans
