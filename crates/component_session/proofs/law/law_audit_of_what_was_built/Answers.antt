use Rattle.component_session.proofs.Exact.{right_is_yes, right_is_judged}
use Rattle.wit_component.proofs.Results.{both_map}
use Rattle.component_session.proofs.law.law_audit_of_what_was_built.Goals as goal

pub returns : goal.returns
returns c =
    both_map c.audit.result
    (right_is_yes c.args.session.now c.args.bytes.now c.requires.right)
    (right_is_judged c.args.session.now c.args.bytes.now c.requires.linking c.requires.ready c.requires.right)
    c.audit.ensures.verdict c.audit.ensures.cause
