use Rattle.wit_component.proofs.NoCause.{no_link_cause, no_encode_cause}
use Rattle.wit_component.proofs.law.law_linkable_has_no_cause.Goals as goal

pub returns-clause-links : goal.returns-clause-links
returns-clause-links c = no_link_cause

pub returns-clause-component : goal.returns-clause-component
returns-clause-component c = no_encode_cause
