use Rattle.std.proofs.Common.{map}
use Rattle.link_lines.specs.Line.{link_value}
use Rattle.wit_component.specs.View as view
use Rattle.wit_component.proofs.Results.{moved_up}
use Rattle.component_session.specs.Refusals.{IsCause}
use Rattle.component_session.specs.Faults.{of_linking}
use Rattle.component_session.proofs.Headline.{listed}
use Rattle.component_session.proofs.Refusals.{link_cause_is}
use Rattle.component_session.proofs.session.Session.plain_links.Goals as goal

pub returns-in_err-links-clause-cause : goal.returns-in_err-links-clause-cause
returns-in_err-links-clause-cause c =
    let fault = c.in_err-links.field-0.0 in
    moved_up c.from_residual.result (of_linking fault) (IsCause c.args.self.now) c.from_residual.ensures.1
    (link_cause_is c.args.self.now (view.linking c.plain_linking-linking.result) c.plain_linking-linking.ensures c.requires.exports c.requires.plain.here fault c.in_err-links.ensures.cause)

pub returns-clause-links : goal.returns-clause-links
returns-clause-links c =
    listed c.args.self.now (view.linking c.plain_linking-linking.result) c.plain_linking-linking.ensures c.requires.exports c.requires.plain.here (map link_value c.in_ok-links.links.items) c.in_ok-links.ensures.links c.in_ok-links.ensures.linkable
