use Rattle.wit_component.specs.View as view
use Rattle.wit_component.proofs.Results.{moved_up}
use Rattle.component_session.specs.Faults.{of_linking}
use Rattle.component_session.specs.Refusals.{IsAuditCause}
use Rattle.component_session.proofs.Headline.{judged}
use Rattle.component_session.proofs.Refusals.{audit_cause_is}
use Rattle.component_session.proofs.session.Session.plain_judgement.Goals as goal

pub returns-in_err-verdict-clause-cause : goal.returns-in_err-verdict-clause-cause
returns-in_err-verdict-clause-cause c =
    let fault = c.in_err-verdict.field-0.0 in
    moved_up c.from_residual.result (of_linking fault) (IsAuditCause c.args.self.now c.args.bytes.now) c.from_residual.ensures.1
    (audit_cause_is c.args.self.now (view.linking c.plain_linking-linking.result) c.plain_linking-linking.ensures c.requires.exports c.requires.plain.here c.args.bytes.now fault c.in_err-verdict.ensures.cause)

pub returns-clause-verdict : goal.returns-clause-verdict
returns-clause-verdict c =
    judged c.args.self.now (view.linking c.plain_linking-linking.result) c.plain_linking-linking.ensures c.requires.exports c.requires.plain.here c.args.bytes.now c.in_ok-verdict.verdict c.in_ok-verdict.ensures.here c.in_ok-verdict.ensures.verdict c.in_ok-verdict.ensures.linkable
