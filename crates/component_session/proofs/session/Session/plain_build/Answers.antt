use Rattle.wit_component.specs.View as view
use Rattle.wit_component.proofs.Results.{moved_up}
use Rattle.component_session.specs.Refusals.{IsBuildCause}
use Rattle.component_session.specs.Faults.{of_linking}
use Rattle.component_session.proofs.Headline.{built}
use Rattle.component_session.proofs.Refusals.{encode_cause_is}
use Rattle.component_session.proofs.session.Session.plain_build.Goals as goal

pub returns-in_err-bytes-clause-cause : goal.returns-in_err-bytes-clause-cause
returns-in_err-bytes-clause-cause c =
    let fault = c.in_err-bytes.field-0.0 in
    moved_up c.from_residual.result (of_linking fault) (IsBuildCause c.args.self.now) c.from_residual.ensures.1
    (encode_cause_is c.args.self.now (view.linking c.plain_linking-linking.result) c.plain_linking-linking.ensures c.requires.exports c.requires.plain.here fault c.in_err-bytes.ensures.cause)

pub returns-clause-right : goal.returns-clause-right
returns-clause-right c =
    built c.args.self.now (view.linking c.plain_linking-linking.result) c.plain_linking-linking.ensures c.requires.exports c.requires.plain.here c.in_ok-bytes.bytes.items c.in_ok-bytes.ensures.linkable c.in_ok-bytes.ensures.fits c.in_ok-bytes.ensures.found
